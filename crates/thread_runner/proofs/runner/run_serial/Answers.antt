use Rattle.erim_process.specs.ProcessInvariant.{setup_of}
use Rattle.erim_process.specs.ProcessValue.{state_of}
use Rattle.thread_runner.proofs.RunningLemmas.{slices_from_start}
use Rattle.thread_runner.proofs.runner.run_serial.Goals as goal

pub returns-clause-slices : goal.returns-clause-slices
returns-clause-slices c =
    slices_from_start c.args.quantum (setup_of c.args.setup) c.in_ok-process.process
    c.run_slices.new.process c.in_ok-process.ensures.started.1 c.run_slices.ensures.slices

pub returns-clause-complete : goal.returns-clause-complete
returns-clause-complete c =
    let p = c.run_slices.new.process in
    (state_of p, c.note_kept.ensures.run, c.run_slices.ensures.over)

use Rattle.erim_process.specs.ProcessValue.{state_of}
use Rattle.thread_runner.proofs.runner.note_kept.Goals as goal

pub returns-clause-kept : goal.returns-clause-kept
returns-clause-kept c =
    let p = c.args.process.now in
    c.setup-setup.ensures.isolated p.journal (state_of p) c.journal-journal.ensures.run

use Rattle.erim_process.specs.ProcessValue.{state_of}
use Rattle.thread_runner.proofs.SliceLemmas.{slice_or_none, slice_or_live}
use Rattle.thread_runner.proofs.runner.next_slice.Goals as goal

pub returns-clause-over : goal.returns-clause-over
returns-clause-over c =
    slice_or_none c.args.quantum (state_of c.args.process.now).threads c.args.slice
    c.slice_after.result _ (c.is_over.ensures.live c.if-is_over.false) c.slice_after.ensures.slice

pub returns-clause-live : goal.returns-clause-live
returns-clause-live c =
    slice_or_live c.args.quantum (state_of c.args.process.now).threads c.args.slice
    c.slice_after.result c.slice_after.ensures.slice

use Rattle.std.proofs.Common.{arith}
use Rattle.erim_process.specs.ProcessValue.{state_of}
use Rattle.publish_lock.proofs.RuleLemmas.{few_steps}
use Rattle.publish_lock.proofs.counting.note_few.Goals as goal

pub returns : goal.returns
returns c =
    let p = c.args.process.now in
    let few = few_steps c.args.worker p.journal (state_of p) c.requires in
    let steps = c.steps-steps.ensures.value in
    omega (arith, few, steps)

use Rattle.std.proofs.Common.{◌∙◌, ap}
use Rattle.std.specs.Prelude.{sum}
use Rattle.publish_lock.proofs.counting.count_steps.Goals as goal

pub returns-clause-summed : goal.returns-clause-summed
returns-clause-summed c = ap sum c.steps_of_workers.ensures ∙ c.note_summed.ensures

use Rattle.publish_lock.proofs.RuleLemmas.{started_summed}
use Rattle.publish_lock.proofs.counting.note_started.Goals as goal

pub returns : goal.returns
returns c = started_summed c.args.process.now c.requires

use Rattle.erim_defs.specs.Machine.Meaning.{plan_cmov}
use Rattle.x86_step.proofs.ExecutesLemmas.{gives_is}
use Rattle.x86_step.proofs.moves.exec_cmov.Goals as goal

pub returns-clause-executes : goal.returns-clause-executes
unfolding plan_cmov
returns-clause-executes g c = c.in_ok-x.ensures.gets _ _ _ _ (gives_is g.M.Memory _ _ _ _ (cc))

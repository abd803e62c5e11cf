use Rattle.erim_defs.specs.Machine.Meaning.{plan_imul}
use Rattle.x86_step.proofs.ExecutesLemmas.{gives_is}
use Rattle.x86_step.proofs.arithmetic.exec_imul.Goals as goal

pub returns-clause-executes : goal.returns-clause-executes
unfolding plan_imul
returns-clause-executes g c = c.in_ok-a.ensures.gets _ _ _ _ (gives_is g.M.Memory _ _ _ _ (cc))

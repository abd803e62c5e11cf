use Rattle.erim_defs.specs.Machine.Meaning.{plan_jmp_to}
use Rattle.x86_step.proofs.ExecutesLemmas.{gives_is}
use Rattle.x86_step.proofs.flow.exec_jmp_to.Goals as goal

pub returns-clause-executes : goal.returns-clause-executes
unfolding plan_jmp_to
returns-clause-executes g c =
    c.in_ok-thread.ensures.gets _ _ _ _ (gives_is g.M.Memory _ _ _ _ (cc))

use Rattle.erim_defs.specs.Machine.Meaning.{plan_push}
use Rattle.x86_step.proofs.flow.exec_push.Goals as goal

pub returns-clause-executes : goal.returns-clause-executes
unfolding plan_push
returns-clause-executes g c =
    c.in_ok-value.ensures.gets _ _ _ _ (rw (← c.next_rip.ensures) c.push.ensures.executes)

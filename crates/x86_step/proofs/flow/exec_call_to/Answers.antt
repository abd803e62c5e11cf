use Rattle.erim_defs.specs.Machine.Meaning.{plan_call_to}
use Rattle.x86_step.proofs.flow.exec_call_to.Goals as goal

pub returns-clause-executes : goal.returns-clause-executes
unfolding plan_call_to
returns-clause-executes g c =
    c.in_ok-target.ensures.gets _ _ _ _ (rw (← c.next_rip.ensures) c.push.ensures.executes)

use Rattle.erim_defs.specs.Machine.Meaning.{plan_unary}
use Rattle.x86_step.proofs.arithmetic.exec_unary.Goals as goal

pub returns-clause-executes : goal.returns-clause-executes
unfolding plan_unary
returns-clause-executes g c =
    c.in_ok-a.ensures.gets _ _ _ _
    (rw (← c.unary-outcome.ensures.outcome) c.write.ensures.executes)

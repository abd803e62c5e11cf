use Rattle.erim_defs.specs.Machine.Meaning.{plan_shift}
use Rattle.x86_step.proofs.arithmetic.exec_shift.Goals as goal

pub returns-clause-executes : goal.returns-clause-executes
unfolding plan_shift
returns-clause-executes g c =
    c.in_ok-a.ensures.gets _ _ _ _
    (rw (← c.count_of.ensures, ← c.shift-outcome.ensures.outcome) c.write.ensures.executes)

use Rattle.std.proofs.Common.{rules}
use Rattle.erim_defs.specs.Machine.Meaning.{plan_alu}
use Rattle.x86_step.proofs.arithmetic.exec_alu.Goals as goal

pub returns-in_err-b-clause-executes : goal.returns-in_err-b-clause-executes
unfolding plan_alu
returns-in_err-b-clause-executes g c =
    c.in_ok-a.ensures.gets _ _ _ _ (search rules)

pub returns-clause-executes : goal.returns-clause-executes
unfolding plan_alu
returns-clause-executes g c =
    c.in_ok-a.ensures.gets _ _ _ _ (c.in_ok-b.ensures.gets _ _ _ _
    (rw (← c.alu-outcome.ensures.outcome) c.write_outcome.ensures.executes))

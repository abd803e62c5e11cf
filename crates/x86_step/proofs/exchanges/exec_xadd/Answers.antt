use Rattle.std.proofs.Common.{rules}
use Rattle.erim_defs.specs.Machine.Meaning.{plan_xadd}
use Rattle.std.proofs.Common.{◌∙◌, ap}
use Rattle.erim_defs.specs.declared.machine.Thread.{Thread}
use Rattle.erim_defs.specs.Machine.Registers.{with_operand}
use Rattle.x86_step.proofs.exchanges.exec_xadd.Goals as goal

pub returns-in_err-store-clause-executes : goal.returns-in_err-store-clause-executes
unfolding plan_xadd
returns-in_err-store-clause-executes g c =
    c.in_ok-a.ensures.gets _ _ _ _ (rw (← c.operand.ensures.value, ← c.alu-outcome.ensures.outcome)
    (search rules))

pub returns-clause-executes : goal.returns-clause-executes
unfolding plan_xadd
returns-clause-executes g c =
    c.in_ok-a.ensures.gets _ _ _ _
    (rw (← c.operand.ensures.value, ← c.alu-outcome.ensures.outcome)
    (c.in_ok-store.ensures.puts _ _ (c.set_operand-2.ensures
    ∙ ap (λ (u : Thread). with_operand c.args.w c.args.dst.now u c.alu-outcome.result.value)
    (c.set_operand.ensures
    ∙ ap (λ (u : Thread). with_operand c.args.w c.args.r.now u c.in_ok-a.a)
    c.onward_with.ensures))))

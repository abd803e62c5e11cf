use Rattle.std.proofs.Common.{rules}
use Rattle.erim_defs.specs.Machine.Meaning.{plan_xchg}
use Rattle.std.proofs.Common.{◌∙◌, ap}
use Rattle.erim_defs.specs.declared.machine.Thread.{Thread}
use Rattle.erim_defs.specs.Machine.Registers.{with_operand}
use Rattle.x86_step.proofs.moves.exec_xchg.Goals as goal

pub returns-in_err-store-clause-executes : goal.returns-in_err-store-clause-executes
unfolding plan_xchg
returns-in_err-store-clause-executes g c =
    c.in_ok-x.ensures.gets _ _ _ _ (rw (← c.operand-value.ensures.value) (search rules))

pub returns-clause-executes : goal.returns-clause-executes
unfolding plan_xchg
returns-clause-executes g c =
    c.in_ok-x.ensures.gets _ _ _ _ (rw (← c.operand-value.ensures.value)
    (c.in_ok-store.ensures.puts _ _ (c.set_operand-2.ensures
    ∙ ap (λ (u : Thread). with_operand c.args.w c.args.place.now u c.operand-value.result)
    (c.set_operand.ensures
    ∙ ap (λ (u : Thread). with_operand c.args.w c.args.r.now u c.in_ok-x.x) c.onward.ensures))))

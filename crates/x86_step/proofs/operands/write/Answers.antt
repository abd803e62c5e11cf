use Rattle.std.proofs.Common.{◌∙◌, ap}
use Rattle.erim_defs.specs.declared.machine.Thread.{Thread}
use Rattle.erim_defs.specs.Machine.Registers.{with_operand}
use Rattle.x86_step.proofs.operands.write.Goals as goal

pub returns-clause-executes : goal.returns-clause-executes
returns-clause-executes g c =
    c.in_ok-store.ensures.puts _ _ (c.set_operand.ensures
    ∙ ap (λ (u : Thread). with_operand c.args.w c.args.place.now u c.args.outcome.value)
    c.onward_with.ensures)

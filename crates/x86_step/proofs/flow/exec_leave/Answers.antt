use Rattle.std.proofs.Common.{rules}
use Rattle.std.proofs.Common.{Err, ◌≡◌}
use Rattle.erim_defs.specs.Machine.Meaning.{plan_leave}
use Rattle.std.proofs.Common.{◌∙◌, ap}
use Rattle.erim_defs.specs.declared.machine.Thread.{Thread}
use Rattle.erim_defs.specs.declared.register.TheConstants.{RBP, RSP}
use Rattle.erim_defs.specs.Machine.Operands.{raised_rsp}
use Rattle.erim_defs.specs.Machine.Registers.{register, with_register}
use Rattle.x86_step.proofs.ExecutesLemmas.{gives_is}
use Rattle.x86_step.proofs.flow.exec_leave.Goals as goal

pub returns-in_err-value-clause-executes : goal.returns-in_err-value-clause-executes
unfolding plan_leave
returns-in_err-value-clause-executes g c =
    let e : c.from_residual.result ≡ Err c.in_err-value.field-0.0 = search rules in
    rw e (c.in_err-value.ensures.gets _)

pub returns-clause-executes : goal.returns-clause-executes
unfolding plan_leave
returns-clause-executes g c =
    c.in_ok-value.ensures.gets _ _ _ _ (gives_is g.M.Memory _ _ _ _ (c.set_register.ensures
    ∙ ap (λ (u : Thread). with_register u RBP c.in_ok-value.value) (c.raise.ensures
    ∙ ap (λ (u : Thread). with_register u RSP (raised_rsp (register u RBP))) c.onward.ensures)))

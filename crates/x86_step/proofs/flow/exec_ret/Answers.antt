use Rattle.std.proofs.Common.{rules}
use Rattle.std.proofs.Common.{Err, ◌≡◌}
use Rattle.erim_defs.specs.Machine.Meaning.{plan_ret}
use Rattle.x86_step.proofs.ExecutesLemmas.{gives_is}
use Rattle.x86_step.proofs.flow.exec_ret.Goals as goal

pub returns-in_err-thread-clause-executes : goal.returns-in_err-thread-clause-executes
unfolding plan_ret
returns-in_err-thread-clause-executes g c =
    let e : c.from_residual.result ≡ Err c.in_err-thread.field-0.0 = search rules in
    rw e (c.in_err-thread.ensures.gets _)

pub returns-clause-executes : goal.returns-clause-executes
unfolding plan_ret
returns-clause-executes g c =
    c.in_ok-thread.ensures.gets _ _ _ _ (gives_is g.M.Memory _ _ _ _ c.raise.ensures)

use Rattle.std.proofs.Common.{◌≡◌, rules}
use Rattle.erim_defs.specs.Machine.Meaning.{plan_xrstor}
use Rattle.x86_step.proofs.ExecutesLemmas.{allowed, executes_then, refused}
use Rattle.x86_step.proofs.xrstor.exec_xrstor.Goals as goal

pub returns-in_err-if_allowed-clause-executes : goal.returns-in_err-if_allowed-clause-executes
unfolding plan_xrstor
returns-in_err-if_allowed-clause-executes g c =
    let e : c.from_residual.result ≡ c.if_allowed.result = search rules in
    rw (e, ← c.address-area.ensures) (refused g.M.Memory _ _ _ _ _ _
    c.if_allowed.ensures c.in_err-if_allowed.was)

pub returns-in_err-if_allowed-2-clause-executes : goal.returns-in_err-if_allowed-2-clause-executes
unfolding plan_xrstor
returns-in_err-if_allowed-2-clause-executes g c =
    let e : c.from_residual-in_err-if_allowed-2.result ≡ c.if_allowed-2.result = search rules in
    rw (e, ← c.address-area.ensures) (executes_then g.M.Memory _ _ _ _ _ _ _ _
    (allowed _ _ _ _ c.if_allowed.ensures c.in_ok-if_allowed.was)
    (c.in_ok-header.ensures.gets _ _ _ _ (rw (← c.is_header.ensures) (refused g.M.Memory _ _ _ _ _ _
    c.if_allowed-2.ensures c.in_err-if_allowed-2.was))))

pub returns-clause-executes : goal.returns-clause-executes
unfolding plan_xrstor
returns-clause-executes g c =
    rw (← c.address-area.ensures) (executes_then g.M.Memory _ _ _ _ _ _ _ _
    (allowed _ _ _ _ c.if_allowed.ensures c.in_ok-if_allowed.was)
    (c.in_ok-header.ensures.gets _ _ _ _ (rw (← c.is_header.ensures)
    (executes_then g.M.Memory _ _ _ _ _ _ _ _
    (allowed _ _ _ _ c.if_allowed-2.ensures c.in_ok-if_allowed-2.was)
    c.restore_pkru.ensures.executes))))

use Rattle.std.proofs.Common.{rules}
use Rattle.erim_defs.specs.Machine.Meaning.{plan_cmpxchg}
use Rattle.std.proofs.Common.{◌∙◌, ap}
use Rattle.erim_defs.specs.declared.machine.Thread.{Thread}
use Rattle.erim_defs.specs.declared.register.TheConstants.{RAX}
use Rattle.erim_defs.specs.Machine.Registers.{with_low}
use Rattle.x86_step.proofs.ExecutesLemmas.{executes_same, executes_other}
use Rattle.x86_step.proofs.exchanges.exec_cmpxchg.Goals as goal

pub returns-then-x-a-clause-executes : goal.returns-then-x-a-clause-executes
unfolding plan_cmpxchg
returns-then-x-a-clause-executes g c =
    c.in_ok-a.ensures.gets _ _ _ _ (rw (← c.low-x.ensures.value, ← c.alu.ensures.outcome)
    (executes_same g.M.Memory _ _ _ _ _ _ _ _ _ c.if-x-a.true
    (rw (← c.operand-value.ensures.value) c.write.ensures.executes)))

pub returns-in_err-store_back-clause-executes : goal.returns-in_err-store_back-clause-executes
unfolding plan_cmpxchg
returns-in_err-store_back-clause-executes g c =
    c.in_ok-a.ensures.gets _ _ _ _ (rw (← c.low-x.ensures.value, ← c.alu.ensures.outcome)
    (executes_other g.M.Memory _ _ _ _ _ _ _ _ _ c.if-x-a.false (search rules)))

pub returns-clause-executes : goal.returns-clause-executes
unfolding plan_cmpxchg
returns-clause-executes g c =
    c.in_ok-a.ensures.gets _ _ _ _ (rw (← c.low-x.ensures.value, ← c.alu.ensures.outcome)
    (executes_other g.M.Memory _ _ _ _ _ _ _ _ _ c.if-x-a.false
    (c.in_ok-store_back.ensures.puts _ _ (c.set_low.ensures
    ∙ ap (λ (u : Thread). with_low c.args.w u RAX c.in_ok-a.a) c.onward_with.ensures))))

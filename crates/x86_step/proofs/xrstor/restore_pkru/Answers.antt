use Rattle.std.proofs.Common.{◌∙◌, not, sym, ap}
use Rattle.erim_defs.specs.declared.machine.Thread.{Thread}
use Rattle.erim_defs.specs.Machine.Registers.{onward}
use Rattle.x86_step.proofs.ExecutesLemmas.{executes_then, executes_else, gives_is}
use Rattle.x86_step.proofs.xrstor.restore_pkru.Goals.{then-asks_pkru+in_ok-thread, else-asks_pkru}
use Rattle.x86_step.proofs.xrstor.restore_pkru.Goals as goal

pub returns-clause-executes : goal.returns-clause-executes
returns-clause-executes g c = elim c.if-asks_pkru.branch [
  | then-asks_pkru+in_ok-thread w ↦
      rw w.memory-is (executes_else g.M.Memory _ _ _ _ _ _ _ _
      (ap not (sym c.asks_pkru.ensures ∙ w.if-asks_pkru.true))
      (w.in_ok-thread.ensures.gets _ _ _ _ (gives_is g.M.Memory _ _ _ _ (c.onward.ensures
      ∙ ap (λ (u : Thread). onward c.args.len u) w.thread-is))))
  | else-asks_pkru w ↦
      rw w.memory-is (executes_then g.M.Memory _ _ _ _ _ _ _ _
      (ap not (sym c.asks_pkru.ensures ∙ w.if-asks_pkru.false))
      (gives_is g.M.Memory _ _ _ _ (c.onward.ensures
      ∙ ap (λ (u : Thread). onward c.args.len u) w.thread-is)))
]

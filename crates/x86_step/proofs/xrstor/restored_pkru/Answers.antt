use Rattle.std.proofs.Common.{◌∙◌, sym}
use Rattle.x86_step.proofs.ExecutesLemmas.{gets_then}
use Rattle.x86_step.proofs.xrstor.restored_pkru.Goals as goal

pub returns-then-has_pkru-clause-gets : goal.returns-then-has_pkru-clause-gets
returns-then-has_pkru-clause-gets g c =
    gets_then g.M.Memory _ _ _ c.args.thread.now c.args.memory.now c.load.new.memory c.load.result
    (sym c.has_pkru.ensures ∙ c.if-has_pkru.true) c.load.ensures.gets

use Rattle.x86_step.proofs.ExecutesLemmas.{loads_named}
use Rattle.x86_step.proofs.operands.load_named.Goals as goal

pub returns-clause-gets : goal.returns-clause-gets
returns-clause-gets g c =
    loads_named g.M.Memory c.register.result _ 8 c.args.thread.now c.args.memory.now
    c.load.new.memory c.load.result c.register.ensures c.load.ensures.gets

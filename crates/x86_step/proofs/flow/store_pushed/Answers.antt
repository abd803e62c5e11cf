use Rattle.x86_step.proofs.ExecutesLemmas.{stores_named}
use Rattle.x86_step.proofs.flow.store_pushed.Goals as goal

pub returns-clause-puts : goal.returns-clause-puts
returns-clause-puts g c =
    stores_named g.M.Memory c.lowered_rsp.result _ 8 c.args.value c.args.thread.now
    c.args.memory.now
    c.store_bytes.new.memory c.store_bytes.result c.lowered_rsp.ensures c.store_bytes.ensures.puts

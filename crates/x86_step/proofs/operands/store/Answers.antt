use Rattle.x86_step.proofs.ExecutesLemmas.{stores, stores_nothing}
use Rattle.x86_step.proofs.operands.store.Goals as goal

pub returns-in-At-clause-puts : goal.returns-in-At-clause-puts
returns-in-At-clause-puts g c =
    stores g.M.Memory c.args.w c.args.place.now c.in-At.m c.address.result c.byte_count.result
    c.args.value c.args.len c.args.thread.now c.args.memory.now c.store_bytes.new.memory
    c.store_bytes.result c.in-At.is c.address.ensures c.byte_count.ensures.count
    c.store_bytes.ensures.puts

pub returns-in-Reg-clause-puts : goal.returns-in-Reg-clause-puts
returns-in-Reg-clause-puts g c =
    stores_nothing g.M.Memory c.args.w c.args.place.now c.args.value c.args.len c.args.thread.now
    c.args.memory.now c.in-Reg.is

pub returns-in-Reg-2-clause-puts : goal.returns-in-Reg-2-clause-puts
returns-in-Reg-2-clause-puts g c =
    stores_nothing g.M.Memory c.args.w c.args.place.now c.args.value c.args.len c.args.thread.now
    c.args.memory.now c.in-Reg.is

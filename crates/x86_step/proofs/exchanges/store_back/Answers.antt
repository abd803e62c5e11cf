use Rattle.x86_step.proofs.ExecutesLemmas.{stores_back, stores_nothing_back}
use Rattle.x86_step.proofs.exchanges.store_back.Goals as goal

pub returns-in-At-clause-puts : goal.returns-in-At-clause-puts
returns-in-At-clause-puts g c =
    stores_back g.M.Memory c.args.w c.args.dst.now c.in-At.field-0 c.args.value c.args.len
    c.args.thread.now c.args.memory.now c.store.new.memory c.store.result c.in-At.is
    c.store.ensures.puts

pub returns-in-Reg-clause-puts : goal.returns-in-Reg-clause-puts
returns-in-Reg-clause-puts g c =
    stores_nothing_back g.M.Memory c.args.w c.args.dst.now c.args.value c.args.len
    c.args.thread.now c.args.memory.now c.in-Reg.is

pub returns-in-Reg-2-clause-puts : goal.returns-in-Reg-2-clause-puts
returns-in-Reg-2-clause-puts g c =
    stores_nothing_back g.M.Memory c.args.w c.args.dst.now c.args.value c.args.len
    c.args.thread.now c.args.memory.now c.in-Reg.is

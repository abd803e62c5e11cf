use Rattle.x86_step.proofs.ExecutesLemmas.{reads_at}
use Rattle.x86_step.proofs.operands.read_bytes.Goals as goal

pub returns-in-At-clause-gets : goal.returns-in-At-clause-gets
returns-in-At-clause-gets g c =
    reads_at g.M.Memory c.args.n c.args.place.now c.in-At.m c.address.result c.args.len
    c.args.thread.now c.args.memory.now c.load.new.memory c.load.result c.in-At.is c.address.ensures
    c.load.ensures.gets

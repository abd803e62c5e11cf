use Rattle.std.proofs.Common.{◌<◌, length}
use Rattle.erim_process.proofs.ProcessLemmas.{state_seen, get_or_any}
use Rattle.erim_process.proofs.process.Process.thread.Goals as goal

pub bounds-list-thread : goal.bounds-list-thread
bounds-list-thread c =
    let h : c.args.thread < length c.self.inside.machine.threads =
    rw (state_seen _ c.self.inside _ c.self.view_is c.self.invariant) at c.requires in
    rw c.list.ensures.list h

pub returns : goal.returns
returns c = λ d.
    let h : c.args.thread < length c.self.inside.machine.threads =
    rw (state_seen _ c.self.inside _ c.self.view_is c.self.invariant) at c.requires in
    rw (state_seen _ c.self.inside _ c.self.view_is c.self.invariant, c.list.ensures.list)
    (get_or_any c.self.inside.machine.threads c.args.thread _ d h)

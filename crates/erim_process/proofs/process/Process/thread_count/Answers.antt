use Rattle.std.proofs.Common.{◌≡◌, length, sym, ap, ◌∙◌}
use Rattle.erim_defs.specs.Machine.State.{State}
use Rattle.erim_process.specs.ProcessValue.{state_of}
use Rattle.erim_process.proofs.ProcessLemmas.{state_seen}
use Rattle.erim_process.proofs.process.Process.thread_count.Goals as goal

pub returns-clause-count : goal.returns-clause-count
returns-clause-count c =
    let seen : length (state_of c.args.self.now).threads
    ≡ length c.self.inside.machine.threads =
    ap (λ (s : State). length s.threads)
    (state_seen _ c.self.inside _ c.self.view_is c.self.invariant) in
    ap length c.list.ensures.list ∙ sym seen

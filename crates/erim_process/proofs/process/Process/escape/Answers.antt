use Rattle.std.proofs.Common.{sym, ap}
use Rattle.erim_defs.specs.Machine.State.{State}
use Rattle.erim_process.proofs.ProcessLemmas.{state_seen}
use Rattle.erim_process.proofs.process.Process.escape.Goals as goal

pub returns : goal.returns
returns c = ap (λ (s : State). s.escape)
    (sym (state_seen _ c.self.inside _ c.self.view_is c.self.invariant))

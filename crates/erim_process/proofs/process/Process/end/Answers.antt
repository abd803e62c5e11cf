use Rattle.std.proofs.Common.{sym, ap}
use Rattle.erim_defs.specs.Machine.State.{State}
use Rattle.erim_process.proofs.ProcessLemmas.{state_seen}
use Rattle.erim_process.proofs.process.Process.end.Goals as goal

pub returns-clause-value : goal.returns-clause-value
returns-clause-value c =
    ap (λ (s : State). s.end) (sym (state_seen _ c.self.inside _ c.self.view_is c.self.invariant))

pub returns-clause-live : goal.returns-clause-live
returns-clause-live c = λ none. rw (state_seen _ c.self.inside _ c.self.view_is c.self.invariant)
    (c.self.invariant.alive none)

pub returns-clause-refused : goal.returns-clause-refused
returns-clause-refused c = c.self.invariant.refused

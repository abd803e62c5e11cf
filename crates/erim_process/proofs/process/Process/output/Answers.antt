use Rattle.std.proofs.Common.{sym, ap, ◌∙◌}
use Rattle.erim_defs.specs.Machine.State.{State}
use Rattle.erim_process.proofs.ProcessLemmas.{state_seen}
use Rattle.erim_process.proofs.process.Process.output.Goals as goal

pub returns : goal.returns
returns c = c.bytes.ensures.bytes
    ∙ ap (λ (s : State). s.output)
    (sym (state_seen _ c.self.inside _ c.self.view_is c.self.invariant))

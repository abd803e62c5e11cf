use Rattle.std.proofs.Common.{◌+◌, sym, ap, ◌∙◌}
use Rattle.erim_defs.specs.Machine.Pages.{word}
use Rattle.erim_defs.specs.Machine.State.{State}
use Rattle.erim_process.proofs.ProcessLemmas.{state_seen}
use Rattle.erim_process.proofs.process.Process.word.Goals as goal

pub word-requires-clause-mapped : goal.word-requires-clause-mapped
word-requires-clause-mapped c =
    rw (state_seen _ c.self.inside _ c.self.view_is c.self.invariant) at c.requires.mapped

pub returns-clause-value : goal.returns-clause-value
returns-clause-value c = c.word.ensures.value
    ∙ ap (λ (s : State). word s.bytes c.args.addr 8)
    (sym (state_seen _ c.self.inside _ c.self.view_is c.self.invariant))

pub returns-clause-bytes : goal.returns-clause-bytes
returns-clause-bytes c =
    λ i low. ap (λ (s : State). s.bytes (c.args.addr + i))
    (state_seen _ c.self.inside _ c.self.view_is c.self.invariant) ∙ c.word.ensures.bytes i low

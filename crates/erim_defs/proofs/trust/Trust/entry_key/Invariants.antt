use Rattle.std.proofs.Common.{◌≡◌, drop, eqb}
use Rattle.erim_defs.specs.Inspection.Trust.{key_beside, entry_key}
use Rattle.erim_defs.proofs.trust.Trust.entry_key.Given as goal

abbrev pub invariant-loop-place : goal.invariant-loop-place
invariant-loop-place l =
    key_beside (λ entry. eqb entry l.addr) (drop l.place l.self.entries)
    (drop l.place l.self.entry_keys)
    ≡ entry_key l.self l.addr

-- The first unsafe sequence from an address on, by a scan of a stretch from a place on.
use Rattle.std.proofs.Common.{ℕ, ◌+◌, ◌-◌, List, Option, Some, None, arith, inl, inr}
use Rattle.std.proofs.lemmas.Bool.{cases_lt}
use Rattle.erim_defs.specs.declared.found.Found.{Found}
use Rattle.erim_defs.specs.Inspection.Code.{laid_at}
use Rattle.erim_defs.specs.Inspection.Trust.{TrustValue}
use Rattle.erim_defs.specs.Inspection.Unsafe.{NoneUnsafe, IsFirstUnsafe}
use Rattle.erim_defs.proofs.CodeLemmas.{laid_at_before}
use Rattle.erim_defs.proofs.OccurrenceLemmas.{occurrence_absent}
use Rattle.erim_defs.proofs.UnsafeLemmas.{unsafe_absent}

-- what comes before the place at which a scan begins has nothing unsafe
begins : (trust : TrustValue) (base low high : ℕ) (bytes : List ℕ)
    → NoneUnsafe trust (laid_at base bytes) (base + (low - base)) high
    → NoneUnsafe trust (laid_at base bytes) low high
begins trust base low high bytes none a l h = elim (cases_lt a base) [
  | inl before ↦
      unsafe_absent trust (laid_at base bytes) a
      (occurrence_absent (laid_at base bytes) a (laid_at_before base a bytes before))
  | inr past ↦ none a (omega arith) h
]

-- so the scan finds the first from the address on
pub first_from_place : (trust : TrustValue) (base low high : ℕ) (bytes : List ℕ)
    (r : Option Found) → IsFirstUnsafe trust (laid_at base bytes) (base + (low - base)) high r
    → IsFirstUnsafe trust (laid_at base bytes) low high r
first_from_place trust base low high bytes None none = begins trust base low high bytes none
first_from_place trust base low high bytes (Some o) is =
    (omega (arith, is.0), is.1, is.2, begins trust base low o.at bytes is.3)

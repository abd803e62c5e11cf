-- How many bytes of a code are present from a place on.
use Rattle.std.proofs.Common.{◌≡◌, ℕ, suc, zero, ◌+◌, ◌≤◌, List, length, Some, None}
use Rattle.std.proofs.Common.{get_or, leb, refl, sym, ap, ◌∙◌, arith, inl, inr}
use Rattle.std.proofs.lemmas.Bool.{cases_lt, le-leb, lt-leb}
use Rattle.std.proofs.lemmas.Option.{slice_get-get_or}
use Rattle.erim_defs.specs.Inspection.Code.{laid_at}
use Rattle.erim_defs.specs.Inspection.Occurrence.{are_present}
use Rattle.erim_defs.proofs.CodeLemmas.{laid_at_place, laid_at_past}

-- n bytes are present from a place on where the code doesn't end before
pub are_present_at : (base place n : ℕ) (bytes : List ℕ) → place ≤ length bytes
    → are_present (laid_at base bytes) (base + place) n ≡ leb (place + n) (length bytes)
unfolding are_present
are_present_at base place zero bytes inside =
    sym (le-leb (place + 0) (length bytes) (omega arith))
are_present_at base place (suc n) bytes inside = elim (cases_lt place (length bytes)) [
  | inl more ↦
      (let here : laid_at base bytes (base + place) ≡ Some (get_or bytes place 0) =
      laid_at_place base place (base + place) bytes refl ∙ slice_get-get_or bytes place 0 more in
      let next : suc (base + place) ≡ base + suc place = omega arith in
      let rest : suc place + n ≡ place + suc n = omega arith in
      rw (here, next) (are_present_at base (suc place) n bytes (omega arith)
      ∙ ap (λ k. leb k (length bytes)) rest))
  | inr end ↦
      (let none : laid_at base bytes (base + place) ≡ None =
      laid_at_past base (base + place) bytes (omega arith) in
      rw none (sym (lt-leb (place + suc n) (length bytes) (omega arith))))
]

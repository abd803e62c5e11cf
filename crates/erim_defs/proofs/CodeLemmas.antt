-- Bytes that are laid at an address.
use Rattle.std.proofs.Common.{◌≡◌, ℕ, ◌+◌, ◌-◌, ◌<◌, ◌≤◌, List, length, Some, None, true, false}
use Rattle.std.proofs.Common.{leb, refl, sym, ◌∙◌, arith, inl, inr}
use Rattle.std.specs.Prelude.{slice_get}
use Rattle.std.proofs.lemmas.Bool.{le-leb, lt-leb, cases_lt}
use Rattle.std.proofs.lemmas.Option.{slice_get_past}
use Rattle.erim_defs.specs.Inspection.Code.{laid_at}

-- the byte at a place is that of the list
pub laid_at_place : (base k a : ℕ) (bytes : List ℕ) → a ≡ base + k
    → laid_at base bytes a ≡ slice_get bytes k
laid_at_place base k a bytes e =
    let above : leb base a ≡ true = le-leb base a (omega arith) in
    let place : a - base ≡ k = omega arith in
    rw (above, place) refl

-- after the list there is nothing
pub laid_at_past : (base a : ℕ) (bytes : List ℕ) → base + length bytes ≤ a
    → laid_at base bytes a ≡ None
laid_at_past base a bytes past =
    let place : a ≡ base + (a - base) = omega arith in
    laid_at_place base (a - base) a bytes place ∙ slice_get_past bytes (a - base) (omega arith)

-- and nothing before it
pub laid_at_before : (base a : ℕ) (bytes : List ℕ) → a < base → laid_at base bytes a ≡ None
laid_at_before base a bytes before =
    let below : leb base a ≡ false = lt-leb base a before in
    rw below refl

-- what is there lies within the list
pub laid_at_inside : (base a byte : ℕ) (bytes : List ℕ) → laid_at base bytes a ≡ Some byte
    → (base ≤ a) × (a < base + length bytes)
laid_at_inside base a byte bytes there =
    elim (cases_lt a base) [
      | inl before ↦ (let no : None ≡ Some byte = sym (laid_at_before base a bytes before)
          ∙ there in absurd cc)
      | inr low ↦ elim (cases_lt a (base + length bytes)) [
        | inl high ↦ (low, high)
        | inr past ↦ (let no : None ≡ Some byte = sym (laid_at_past base a bytes past) ∙ there in
            absurd cc)
      ]
    ]

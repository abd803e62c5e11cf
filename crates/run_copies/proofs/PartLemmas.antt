-- The parts of one instruction's copy.
use Rattle.std.proofs.Common.{◌≡◌, ℕ, ◌++◌, ◌∙◌, List, [], ◌∷◌, Option, Some, None}
use Rattle.std.proofs.Common.{Bool, true, false, cond, append_assoc, refl, ap}
use Rattle.std.proofs.lemmas.List.{append-nil}
use Rattle.std.specs.List.{list_any}
use Rattle.std.specs.Prelude.{is_some}
use Rattle.erim_defs.specs.declared.found.Found.{Found}
use Rattle.erim_defs.specs.Rewriting.Standing.{Standing}
use Rattle.erim_defs.specs.Rewriting.Copies.{bytes_of, filler}
use Rattle.erim_defs.specs.Rewriting.Copies.{filler_part, goes_on, split_parts}
use Rattle.run_copies.specs.Spelling.{all_fit, gap_bytes, split_bytes}

-- ---- a MOV in two

pub split_fits : (o : Option (List ℕ × List ℕ)) (at : ℕ) (i : Standing)
    → all_fit (split_parts o at i) ≡ is_some o
split_fits None at i = refl
split_fits (Some pair) at i = refl

pub split_bytes_of : (o : Option (List ℕ × List ℕ)) (at : ℕ) (i : Standing)
    → bytes_of (split_parts o at i) ≡ split_bytes o
split_bytes_of None at i = refl
split_bytes_of (Some pair) at i = ap (λ xs. pair.0 ++ xs) (append-nil pair.1)

-- ---- between two instructions

pub gap_fits : (es : List Found) (at : ℕ) (i : Standing) → all_fit (filler es at i) ≡ true
gap_fits es at i = by (list_any (goes_on i) es)
  where
    by : (b : Bool) → all_fit (cond b (filler_part at i ∷ []) []) ≡ true
    by true = refl
    by false = refl

pub gap_bytes_of : (es : List Found) (at : ℕ) (i : Standing)
    → bytes_of (filler es at i) ≡ gap_bytes es i
gap_bytes_of es at i = by (list_any (goes_on i) es)
  where
    by : (b : Bool) → bytes_of (cond b (filler_part at i ∷ []) []) ≡ cond b (0x90 ∷ []) []
    by true = refl
    by false = refl

-- ---- three pieces

pub three_behind : (b x y z b1 b2 b3 : List ℕ) → b1 ≡ b ++ x → b2 ≡ b1 ++ y → b3 ≡ b2 ++ z
    → b3 ≡ b ++ (x ++ (y ++ z))
three_behind b x y z b1 b2 b3 e1 e2 e3 =
    e3 ∙ (ap (λ u. u ++ z) (e2 ∙ (ap (λ u. u ++ y) e1 ∙ append_assoc b x y))
    ∙ (append_assoc b (x ++ y) z ∙ ap (λ u. b ++ u) (append_assoc x y z)))

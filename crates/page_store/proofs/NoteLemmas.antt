-- A memory that keeps no notes.
use Rattle.std.proofs.Common.{ℕ, List, [], ◌∷◌, true, refl}
use Rattle.erim_defs.specs.Machine.Access.{Seen}
use Rattle.page_store.specs.Notes.{Notes, AllHeldNoted}

all_noted : (seen : Seen) (xs : List ℕ) → AllHeldNoted seen (λ _. true) xs
all_noted seen [] = tt
all_noted seen (x ∷ xs) = (λ _. refl, all_noted seen xs)

-- where all addresses are noted from the start, all that is looked at is noted
pub no_notes : (seen : Seen) (xs : List ℕ) → Notes seen (λ _. true) (λ _. true) xs
no_notes seen xs = record { kept = λ x h. h; noted = all_noted seen xs }

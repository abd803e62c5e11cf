-- The addresses that a memory's calls look at. Own.
use Rattle.std.specs.Prelude.{◌≡◌, ◌≢◌, ℕ, ◌/◌, Bool, true, Option, Some, None, List, [], ◌∷◌, zero}
use Rattle.std.specs.Prelude.{suc, if◌then◌else◌}
use Rattle.erim_defs.specs.declared.machine.Rights.{Rights}
use Rattle.erim_defs.specs.declared.machine.Access.{Access}
use Rattle.erim_defs.specs.Machine.Access.{Seen, stop_at}

-- which addresses are noted
abbrev pub NoteMap : Type 0
NoteMap = ℕ → Bool

abbrev pub unless_stopped : Option Access → List ℕ → List ℕ
unless_stopped None xs = xs
unless_stopped (Some s) xs = []

-- the bytes that an access to n bytes looks at, up to the first that stops it, that one too
unfoldable pub looked_access : Seen → Bool → ℕ → ℕ → ℕ → List ℕ
looked_access seen write pkru a zero = []
looked_access seen write pkru a (suc n) =
    a ∷ unless_stopped (stop_at seen write pkru a) (looked_access seen write pkru (suc a) n)

abbrev pub while_published : Option (Option Rights) → List ℕ → List ℕ
while_published None xs = []
while_published (Some None) xs = []
while_published (Some (Some r)) xs = if r.exec then xs else []

-- the bytes that a fetch of at most n bytes looks at, up to the first that is absent or not held,
-- that one too
unfoldable pub looked_fetch : Seen → ℕ → ℕ → List ℕ
looked_fetch seen a zero = []
looked_fetch seen a (suc n) = a ∷ while_published (seen (a / 4096)) (looked_fetch seen (suc a) n)

-- those whose page is held are noted
abbrev pub AllHeldNoted : Seen → NoteMap → List ℕ → Type 0
AllHeldNoted seen notes [] = Unit {0}
AllHeldNoted seen notes (x ∷ xs) = (seen (x / 4096) ≢ None
    → notes x ≡ true) × AllHeldNoted seen notes xs

-- nothing is forgotten, and all that was looked at is noted
pub record Notes (seen : Seen) (old new : NoteMap) (looked : List ℕ) : Type 0 where
  pub kept : (x : ℕ) → old x ≡ true → new x ≡ true
  pub noted : AllHeldNoted seen new looked

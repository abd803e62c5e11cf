-- What is written into a buffer. Own.
use Rattle.std.specs.Prelude.{◌≡◌, ℕ, ◌≤◌, List, get_or}

-- the bytes from a place on stay
abbrev pub KeepsRest : ℕ → List ℕ → List ℕ → Type 0
KeepsRest from old new = (i : ℕ) → from ≤ i → get_or new i 0 ≡ get_or old i 0

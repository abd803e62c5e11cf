-- Code: the bytes that a processor may fetch, by address. Own, after ERIM's executable pages.
use Rattle.std.specs.Prelude.{ℕ, ◌-◌, ◌==◌, nat_le, Bool, true, false, Option, Some, None, List}
use Rattle.std.specs.Prelude.{slice_get, if◌then◌else◌}

-- the byte at each address, or none where no byte can be fetched
abbrev pub Code : Type 0
Code = ℕ → Option ℕ

-- the code that has these bytes from an address on, and nothing else
abbrev pub laid_at : ℕ → List ℕ → Code
laid_at base bytes = λ a. if nat_le base a then slice_get bytes (a - base) else None

-- is the byte there, and is it x
abbrev pub has : Option ℕ → ℕ → Bool
has None x = false
has (Some y) x = y == x

-- an absent byte contradicts nothing
abbrev pub allows : Option ℕ → ℕ → Bool
allows None x = true
allows (Some y) x = y == x

-- the first of two answers
abbrev pub or_else : {X : Type 0} → Option X → Option X → Option X
or_else None y = y
or_else (Some x) y = Some x

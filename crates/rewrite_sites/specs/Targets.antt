-- The targets of a program as they are searched. Own.
use Rattle.std.specs.Prelude.{◌≡◌, ℕ, Bool, List}
use Rattle.std.specs.List.{list_any}
use Rattle.std.specs.List.Sorted.{IsNonDecreasing}
use Rattle.erim_defs.specs.Rewriting.Sites.{Program, targets}

-- a list rises, and passes the tests that the targets of a program pass
abbrev pub HasTargets : Program → List ℕ → Type 0
HasTargets p xs = IsNonDecreasing xs
    × ((test : ℕ → Bool) → list_any test (targets p) ≡ list_any test xs)

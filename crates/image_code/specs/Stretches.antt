-- Stretches of bytes, and the code that they are together. Own.
use Rattle.std.specs.Prelude.{◌≡◌, ℕ, ◌+◌, ◌*◌, ◌≤◌, None, List, [], ◌∷◌, length}
use Rattle.std.specs.List.{All, AllPairs}
use Rattle.erim_defs.specs.Inspection.Code.{Code, laid_at, or_else}
use Rattle.image_code.specs.declared.ranges.PageBounds.{PageBounds}
use Rattle.image_code.specs.declared.stretch.Stretch.{Stretch}

-- the address after a stretch
abbrev pub stretch_end : Stretch → ℕ
stretch_end s = s.base + length s.bytes.items

-- the code that is one stretch, and nothing else
abbrev pub stretch_code : Stretch → Code
stretch_code s = laid_at s.base s.bytes.items

-- a range of pages lies in a stretch
pub record IsWithin (s : Stretch) (pages : PageBounds) : Type 0 where
  pub low : s.base ≤ 4096 * pages.first
  pub order : pages.first ≤ pages.end
  pub high : 4096 * pages.end ≤ stretch_end s

-- the code that is all of some stretches
abbrev pub code_in : List Stretch → Code
code_in [] = λ a. None
code_in (s ∷ ss) = λ a. or_else (stretch_code s a) (code_in ss a)

-- a stretch ends a page or more before another one
abbrev pub LiesBefore : Stretch → Stretch → Type 0
LiesBefore s t = stretch_end s + 4096 ≤ t.base

-- stretches by rising address, with a page or more between them
abbrev pub AreApart : List Stretch → Type 0
AreApart ss = AllPairs LiesBefore ss

-- a code was added to that of some stretches, and none of them goes on after a certain one
pub record AddsCode (old new : List Stretch) (s : Stretch) (c : Code) : Type 0 where
  pub same : (a : ℕ) → code_in new a ≡ or_else (code_in old a) (c a)
  pub apart : AreApart new
  pub within : All (λ t. stretch_end t ≤ stretch_end s) new

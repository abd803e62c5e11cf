-- Laws of layouts: no sequence touches a region or a copy, and what that gives of the rewritten
-- image.
use Rattle.std.specs.Prelude.{◌≡◌, ℕ, ◌+◌, ◌<◌, ◌≤◌, true, List, [], length, Some, None, Ok, Bool}
use Rattle.erim_defs.specs.declared.found.Found.{Found}
use Rattle.erim_defs.specs.Encoding.Grammar.{In}
use Rattle.erim_defs.specs.Inspection.Code.{Code}
use Rattle.erim_defs.specs.Inspection.Image.{IsAccepted}
use Rattle.erim_defs.specs.Inspection.Occurrence.{occurrence_at}
use Rattle.erim_defs.specs.Inspection.Safe.{is_safe}
use Rattle.erim_defs.specs.Inspection.Trust.{TrustValue}
use Rattle.erim_defs.specs.Inspection.Unsafe.{image_list, unsafe_list}
use Rattle.erim_defs.specs.Rewriting.Sites.{Region, region_start}
use Rattle.erim_defs.specs.Rewriting.Layout.{Copy, Ground, region_rest, known_code, copies_from}
use Rattle.erim_defs.specs.Rewriting.Layout.{is_untouched}
use Rattle.erim_defs.specs.Rewriting.Layout.{segment_bytes}
use Rattle.erim_defs.specs.Rewriting.Rewriting.{Rewritten, image_regions, rewriting, under}

-- a sequence of a code has a byte at an address
pub record Overlaps (c : Code) (a : ℕ) : Type 0 where
  pub found : Found
  pub occurs : occurrence_at c found.at ≡ Some found
  pub low : found.at ≤ a
  pub high : a < found.at + found.len

-- none has a byte from an address up to another
abbrev pub IsUntouched : Code → ℕ → ℕ → Type 0
IsUntouched c low high = (a : ℕ) → low ≤ a → a < high → Overlaps c a → ⊥

-- that is what the test says
abbrev pub UntouchedLaw : Type 0
UntouchedLaw = (c : Code) (low high : ℕ) → is_untouched c low high ≡ true → IsUntouched c low high

-- and nothing else, where there are bytes
abbrev pub TouchedLaw : Type 0
TouchedLaw =
    (c : Code) (low high : ℕ) → low < high → IsUntouched c low high → is_untouched c low high ≡ true

-- where a region ends, by its jump and the rest
abbrev pub rest_end : Region → ℕ
rest_end r = region_start r + 5 + region_rest r

-- the code ends before the new segment, and so do the regions
pub record IsGround (g : Ground) (regions : List Region) : Type 0 where
  pub above : (a : ℕ) → g.base ≤ a → g.code a ≡ None
  pub below : (r : Region) → In regions r → rest_end r ≤ g.base

-- an accepted image is that to its regions
abbrev pub GroundLaw : Type 0
GroundLaw =
    (bytes : List ℕ) (regions : List Region) → IsAccepted bytes
    → image_regions bytes ≡ Ok regions → IsGround (under bytes) regions

-- no sequence of a code touches a region or a copy
pub record IsQuiet (copies : List Copy) (base : ℕ) (c : Code) : Type 0 where
  pub regions : (k : Copy) → In copies k → IsUntouched c (region_start k.region) (rest_end k.region)
  pub segment : IsUntouched c base (base + length (segment_bytes copies))

-- that is so in the code of a layout
abbrev pub QuietLaw : Type 0
QuietLaw =
    (elsewhere : Region → Bool) (g : Ground) (regions : List Region) (copies : List Copy)
    → IsGround g regions
    → copies_from elsewhere g [] regions ≡ Ok copies
    → IsQuiet copies g.base (known_code g copies [])

-- a sequence lies outside of the regions and the copies
pub record IsOutside (copies : List Copy) (base : ℕ) (o : Found) : Type 0 where
  pub regions : (k : Copy) → In copies k → (a : ℕ) → o.at ≤ a → a < o.at + o.len
      → region_start k.region ≤ a → a < rest_end k.region → ⊥
  pub segment : (a : ℕ) → o.at ≤ a → a < o.at + o.len → base ≤ a
      → a < base + length (segment_bytes copies) → ⊥

-- every sequence of a code outside of them is safe
abbrev pub SafeOutside : TrustValue → List Copy → ℕ → Code → Type 0
SafeOutside trust copies base c =
    (o : Found) → occurrence_at c o.at ≡ Some o → IsOutside copies base o → is_safe trust c o ≡ true

-- then nothing of the rewritten code is unsafe
abbrev pub SafeLaw : Type 0
SafeLaw =
    (trust : TrustValue) (elsewhere : Region → Bool) (g : Ground) (regions : List Region)
    (copies : List Copy) → IsGround g regions → copies_from elsewhere g [] regions ≡ Ok copies
    → SafeOutside trust copies g.base (known_code g copies [])
    → unsafe_list trust (known_code g copies []) ≡ []

-- what rewriting answers is an accepted image in which nothing is unsafe
abbrev pub AnswerLaw : Type 0
AnswerLaw =
    (bytes : List ℕ) (r : Rewritten) → rewriting bytes ≡ Ok r
    → IsAccepted r.bytes × (image_list r.bytes ≡ [])

-- Blocks by rising address, and the lowest place between them. Own.
use Rattle.std.specs.Prelude.{◌≡◌, ℕ, ◌+◌, ◌/◌, ◌<◌, ◌≤◌, ◌^◌, true, false, min, Option, Some, None}
use Rattle.std.specs.Prelude.{List, [], ◌∷◌}
use Rattle.std.specs.List.{list_any}
use Rattle.erim_defs.specs.declared.trust.Span.{Span}
use Rattle.erim_defs.specs.Machine.HeapCalls.{block_at, lies_within, meets}

-- it ends in user memory
abbrev pub EndsLow : Span → Type 0
EndsLow span = span.start + span.length ≤ 2 ^ 47

-- the first unit after it
abbrev pub unit_after : Span → ℕ
unit_after span = (span.start + span.length + 15) / 16

-- each has a byte, ends in user memory, and begins where the one before it ends, or after that; the
-- first at this address or above
unfoldable pub AreApart : ℕ → List Span → Type 0
AreApart least [] = Unit {0}
AreApart least (b ∷ bs) =
    (least ≤ b.start) × (0 < b.length) × EndsLow b × AreApart (b.start + b.length) bs

-- it lies in one of these ranges
abbrev pub IsWithin : List Span → Span → Type 0
IsWithin heaps block = list_any (lies_within block) heaps ≡ true

-- the lowest unit from one on where so many meet no block
pub record IsLowestGap (blocks : List Span) (from count unit : ℕ) : Type 0 where
  pub behind : from ≤ unit
  pub free : list_any (meets (block_at unit count)) blocks ≡ false
  pub taken : (k : ℕ) → from ≤ k → k < unit
      → list_any (meets (block_at k count)) blocks ≡ true

-- the lower of two numbers, where there are two
abbrev pub sooner : Option ℕ → Option ℕ → Option ℕ
sooner None other = other
sooner (Some a) None = Some a
sooner (Some a) (Some b) = Some (min a b)

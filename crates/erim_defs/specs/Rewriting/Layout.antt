-- Where the copies of regions lie: one after the other from an address on, each after the fewest
-- NOPs for which no sequence touches it, the jump to it or the bytes between. Own.
use Rattle.std.specs.Prelude.{ℕ, zero, suc, ◌+◌, ◌-◌, ◌&&◌, ◌||◌, not, nat_le, nat_lt, map, Bool}
use Rattle.std.specs.Prelude.{true, false, List, [], ◌∷◌, ◌++◌, length, replicate, slice_get}
use Rattle.std.specs.Prelude.{Option, Some, None, Result, Ok, Err, if◌then◌else◌}
use Rattle.std.specs.List.{flat_map}
use Rattle.erim_defs.specs.declared.found.Found.{Found}
use Rattle.erim_defs.specs.Inspection.Code.{Code}
use Rattle.erim_defs.specs.Inspection.Occurrence.{occurrence_at}
use Rattle.erim_defs.specs.Machine.Least.{least_below}
use Rattle.erim_defs.specs.Encoding.Grammar.{every}
use Rattle.erim_defs.specs.Output.LayImage.{multiple_from}
use Rattle.erim_defs.specs.Rewriting.Sites.{Region, region_start, region_end}
use Rattle.erim_defs.specs.Rewriting.Copies.{Same, Part, jump, bytes_of, copy_parts}

-- ---- codes with other bytes at some addresses

-- bytes, or none, that stand from an address on in place of others
pub record Patch : Type 0 where
  pub at : ℕ
  pub bytes : List (Option ℕ)

abbrev pub covers : Patch → ℕ → Bool
covers p a = nat_le p.at a && nat_lt a (p.at + length p.bytes)

abbrev pub flatten : {X : Type 0} → Option (Option X) → Option X
flatten None = None
flatten (Some x) = x

abbrev pub over : Patch → Code → Code
over p c = λ a. if covers p a then flatten (slice_get p.bytes (a - p.at)) else c a

-- the first of them lies on top
abbrev pub over_all : List Patch → Code → Code
over_all [] c = c
over_all (p ∷ ps) c = over p (over_all ps c)

-- ---- copies

-- the copy of a region: from the address first on pad NOPs, and then its parts
pub record Copy : Type 0 where
  pub region : Region
  pub first : ℕ
  pub pad : ℕ
  pub parts : List Part

abbrev pub candidate : Region → ℕ → ℕ → Copy
candidate r first pad =
    record { region = r; first = first; pad = pad; parts = copy_parts r (first + pad) }

abbrev pub copy_at : Copy → ℕ
copy_at k = k.first + k.pad

-- what the new segment has of it
abbrev pub piece : Copy → List ℕ
piece k = replicate k.pad 0x90 ++ bytes_of k.parts

-- the jump to it
abbrev pub jump_to : Copy → Part
jump_to k = jump Same (region_start k.region) (region_start k.region) (copy_at k)

-- how many bytes a region has after its jump
abbrev pub region_rest : Region → ℕ
region_rest r = region_end r - region_start r - 5

-- what stands in the region's place
abbrev pub region_bytes : Copy → List ℕ
region_bytes k = (jump_to k).bytes ++ replicate (region_rest k.region) 0x90

-- all of it can be spelled
abbrev pub is_spelled : Copy → Bool
is_spelled k = every (λ p. p.fits) (jump_to k ∷ k.parts)

-- ---- the code, as far as it is known when some regions have their copies and others have none yet

abbrev pub region_patch : Copy → Patch
region_patch k = record { at = region_start k.region; bytes = map Some (region_bytes k) }

-- of a region without a copy the jump begins with E9, and its other bytes aren't known yet
abbrev pub open_patch : Region → Patch
open_patch r = record {
  at = region_start r;
  bytes = Some 0xE9 ∷ None ∷ None ∷ None ∷ None ∷ replicate (region_rest r) (Some 0x90);
}

abbrev pub segment_bytes : List Copy → List ℕ
segment_bytes copies = flat_map piece copies

-- zeros up to the page's end, and one page more while copies are to come
abbrev pub zeros_after : ℕ → List Region → ℕ
zeros_after n [] = multiple_from 4096 n - n
zeros_after n later = multiple_from 4096 n - n + 4096

abbrev pub segment_patch : ℕ → List Copy → List Region → Patch
segment_patch base copies later =
    let bytes = segment_bytes copies in
    record {
      at = base;
      bytes = map Some (bytes ++ replicate (zeros_after (length bytes) later) 0);
    }

-- the old code, and where the copies begin
pub record Ground : Type 0 where
  pub code : Code
  pub base : ℕ

unfoldable pub known_code : Ground → List Copy → List Region → Code
known_code g copies later =
    over (segment_patch g.base copies later)
    (over_all (map region_patch copies ++ map open_patch later) g.code)

-- ---- no sequence touches bytes

-- a sequence at an address has a byte at another one, or after it
abbrev pub goes_past : ℕ → Option Found → Bool
goes_past low None = false
goes_past low (Some o) = nat_lt low (o.at + o.len)

abbrev pub reaches : Code → ℕ → ℕ → Bool
reaches c low a = goes_past low (occurrence_at c a)

-- none of n addresses from one on passes a test
unfoldable pub none_from : ℕ → ℕ → (ℕ → Bool) → Bool
none_from a zero test = true
none_from a (suc n) test = not (test a) && none_from (suc a) n test

-- none has a byte from low up to high. A sequence has at most 8 bytes, so one that begins below
-- low - 8 has none there.
unfoldable pub is_untouched : Code → ℕ → ℕ → Bool
is_untouched c low high = none_from (low - 8) (high - (low - 8)) (reaches c low)

-- none touches the copy with the bytes before it, or the jump to it
abbrev pub is_clean : Code → Copy → Bool
is_clean c k = is_untouched c k.first (k.first + length (piece k))
    && is_untouched c (region_start k.region) (region_start k.region + 5)

-- ---- the layout

-- with a candidate the trying ends: it is clean, or it can't be spelled, and then there is none
abbrev pub ends_trying : Ground → List Copy → List Region → Copy → Bool
ends_trying g copies later k =
    not (is_spelled k) || is_clean (known_code g (copies ++ k ∷ []) later) k

-- after how few NOPs that is
abbrev pub least_pad : Ground → List Copy → List Region → Region → ℕ → Option ℕ
least_pad g copies later r first =
    least_below 16 (λ pad. ends_trying g copies later (candidate r first pad))

abbrev pub if_spelled : Copy → Option Copy
if_spelled k = if is_spelled k then Some k else None

abbrev pub padded_copy : Region → ℕ → Option ℕ → Option Copy
padded_copy r first None = None
padded_copy r first (Some pad) = if_spelled (candidate r first pad)

-- the copy of a region after others, where there is one
unfoldable pub placed_copy : Ground → List Copy → List Region → Region → Option Copy
placed_copy g copies later r =
    let first = g.base + length (segment_bytes copies) in
    padded_copy r first (least_pad g copies later r first)

-- a region of which a byte lies elsewhere in the file too has none
abbrev pub copy_of : (Region → Bool) → Ground → List Copy → List Region → Region → Option Copy
copy_of elsewhere g copies later r = if elsewhere r then None else placed_copy g copies later r

abbrev pub or_region : Option Copy → Region → (Copy → Result (List Copy) Region)
    → Result (List Copy) Region
or_region None r next = Err r
or_region (Some k) r next = next k

-- the copies of all regions after others, or the first region that has none
unfoldable pub copies_from : (Region → Bool) → Ground → List Copy → List Region
    → Result (List Copy) Region
copies_from elsewhere g copies [] = Ok copies
copies_from elsewhere g copies (r ∷ later) =
    or_region (copy_of elsewhere g copies later r) r
    (λ k. copies_from elsewhere g (copies ++ k ∷ []) later)

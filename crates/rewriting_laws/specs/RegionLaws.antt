-- Laws of regions: they are for the elements in their order, and each has room.
use Rattle.std.specs.Prelude.{◌≡◌, ◌+◌, ◌≤◌, None, List, Ok}
use Rattle.std.specs.List.{flat_map}
use Rattle.erim_defs.specs.declared.found.Found.{Found}
use Rattle.erim_defs.specs.Encoding.Grammar.{In}
use Rattle.erim_defs.specs.Rewriting.Sites.{Program, Region, region_start, region_end, regions_from}

-- it has five bytes at least, and all bytes of its elements
pub record IsWide (r : Region) : Type 0 where
  pub five : region_start r + 5 ≤ region_end r
  pub holds : (e : Found) → In r.elements e → e.at + e.len ≤ region_end r

-- the regions are for the elements, each for one after the other, and each is wide
abbrev pub RegionsLaw : Type 0
RegionsLaw =
    (p : Program) (es : List Found) (regions : List Region) → regions_from p None es ≡ Ok regions
    → (flat_map (λ r. r.elements) regions ≡ es) × ((r : Region) → In regions r → IsWide r)

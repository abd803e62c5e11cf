-- Patches as code has them, and those near some addresses. Own.
use Rattle.std.specs.Prelude.{ℕ, ◌+◌, ◌-◌, ◌&&◌, nat_lt, Bool, List, [], ◌∷◌, ◌++◌, length, map}
use Rattle.std.specs.Prelude.{replicate, slice_get, Option, Some, None, if◌then◌else◌}
use Rattle.erim_defs.specs.Inspection.Code.{or_else}
use Rattle.erim_defs.specs.Rewriting.Layout.{Patch, covers, flatten}
use Rattle.copy_layout.specs.declared.patch.RegionPatch.{RegionPatch}

abbrev pub patch_of : RegionPatch → Patch
patch_of p = record { at = p.at; bytes = p.jump ++ replicate p.rest (Some 0x90) }

abbrev pub patches_of : List RegionPatch → List Patch
patches_of ps = map patch_of ps

-- what a patch says of the byte at an address, where it covers it
abbrev pub cell : Patch → ℕ → Option (Option ℕ)
cell p a = if covers p a then Some (flatten (slice_get p.bytes (a - p.at))) else None

-- it has a byte from an address up to another
abbrev pub lies_near : ℕ → ℕ → Patch → Bool
lies_near low high p = nat_lt low (p.at + length p.bytes) && nat_lt p.at high

-- those that have
abbrev pub nearby : ℕ → ℕ → List Patch → List Patch
nearby low high [] = []
nearby low high (p ∷ ps) =
    if lies_near low high p then p ∷ nearby low high ps else nearby low high ps

-- what the first that covers an address says of it
abbrev pub first_cell : List Patch → ℕ → Option (Option ℕ)
first_cell [] a = None
first_cell (p ∷ ps) a = or_else (cell p a) (first_cell ps a)

-- that, or another byte where none covers it
abbrev pub cell_or : Option (Option ℕ) → Option ℕ → Option ℕ
cell_or None y = y
cell_or (Some x) y = x

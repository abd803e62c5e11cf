-- What always holds of the trusted heap. Own.
use Rattle.erim_defs.specs.declared.limits.TheConstants.{MOST_BLOCKS}
use Rattle.std.specs.Prelude.{◌≤◌, vec_capacity, vec_len}
use Rattle.std.specs.List.{All}
use Rattle.trusted_heap.specs.Blocks.{AreApart, EndsLow, IsWithin}
use Rattle.trusted_heap.specs.declared.heap.Heap.TheInside.{Inside}

-- there is room for all blocks; they rise, are apart, and each lies in one range
pub record AreBlocks (heap : Inside) : Type 0 where
  pub room : MOST_BLOCKS ≤ vec_capacity heap.blocks
  pub few : vec_len heap.blocks ≤ MOST_BLOCKS
  pub apart : AreApart 0 heap.blocks.items
  pub within : All (IsWithin heap.heaps.items) heap.blocks.items
  pub low : All EndsLow heap.heaps.items

use Rattle.std.proofs.Common.{◌≡◌, ◌++◌, drop, length, map}
use Rattle.erim_defs.specs.Rewriting.Layout.{copies_from, open_patch, region_patch, segment_bytes}
use Rattle.erim_defs.specs.Rewriting.NewFile.{lies_elsewhere}
use Rattle.erim_defs.specs.Rewriting.Rewriting.{laid_copies}
use Rattle.copy_layout.specs.Patches.{patches_of}
use Rattle.copy_layout.specs.Trials.{under_of}
use Rattle.copy_layout.proofs.layout.lay_over.Given as goal

abbrev pub invariant-loop-region : goal.invariant-loop-region
invariant-loop-region l = record {
  told : copies_from (lies_elsewhere l.image) (under_of l.code l.base) l.layout.copies.items
      (drop l.region-index l.regions) ≡ laid_copies l.image l.regions;
  segment : l.layout.segment.items ≡ segment_bytes l.layout.copies.items;
  patches : patches_of l.patches.items
      ≡ map region_patch l.layout.copies.items ++ map open_patch (drop l.region-index l.regions);
  count : length l.layout.copies.items ≡ l.region-index;
  room : length l.patches.items ≡ length l.regions;
}

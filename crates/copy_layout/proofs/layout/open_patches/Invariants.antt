use Rattle.std.proofs.Common.{◌≡◌, ◌++◌, drop, map}
use Rattle.erim_defs.specs.Rewriting.Layout.{open_patch}
use Rattle.copy_layout.specs.Patches.{patches_of}
use Rattle.copy_layout.proofs.layout.open_patches.Given as goal

abbrev pub invariant-loop-region : goal.invariant-loop-region
invariant-loop-region l =
    patches_of l.patches.items ++ map open_patch (drop l.region-index l.regions)
    ≡ map open_patch l.regions

use Rattle.std.proofs.Common.{◌≡◌, drop}
use Rattle.copy_layout.specs.Patches.{first_cell, patches_of}
use Rattle.copy_layout.proofs.near.first_cell.Given as goal

abbrev pub invariant-loop-patch : goal.invariant-loop-patch
invariant-loop-patch l = first_cell (patches_of (drop l.patch-index l.patches)) l.a
    ≡ first_cell (patches_of l.patches) l.a

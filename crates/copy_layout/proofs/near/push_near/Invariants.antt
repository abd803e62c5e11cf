use Rattle.std.proofs.Common.{◌≡◌, ◌++◌, drop}
use Rattle.copy_layout.specs.Patches.{nearby, patches_of}
use Rattle.copy_layout.proofs.near.push_near.Given as goal

abbrev pub invariant-loop-patch : goal.invariant-loop-patch
invariant-loop-patch l =
    patches_of l.near.items ++ nearby l.low l.high (patches_of (drop l.patch-index l.patches))
    ≡ patches_of l.initial.near.items ++ nearby l.low l.high (patches_of l.patches)

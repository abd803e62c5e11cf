use Rattle.std.proofs.Common.{◌≡◌, ◌++◌, drop}
use Rattle.std.specs.List.{flat_map}
use Rattle.erim_defs.specs.Rewriting.Sites.{branch_targets}
use Rattle.rewrite_sites.proofs.targets.branch_targets.Given as goal

abbrev pub invariant-loop-function : goal.invariant-loop-function
invariant-loop-function l =
    l.list.items ++ flat_map branch_targets (drop l.function-index l.functions)
    ≡ flat_map branch_targets l.functions

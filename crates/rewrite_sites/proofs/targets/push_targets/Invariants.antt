use Rattle.std.proofs.Common.{◌≡◌, ◌++◌, drop}
use Rattle.std.specs.List.{flat_map}
use Rattle.erim_defs.specs.Inspection.Unsafe.{option_list}
use Rattle.erim_defs.specs.Rewriting.Standing.{target_of}
use Rattle.erim_defs.specs.Rewriting.Sites.{branch_targets, insns_of}
use Rattle.rewrite_sites.proofs.targets.push_targets.Given as goal

abbrev pub invariant-loop-insn : goal.invariant-loop-insn
invariant-loop-insn l = l.list.items
    ++ flat_map (λ i. option_list (target_of i)) (drop l.insn-index (insns_of l.function))
    ≡ l.fn.list.items ++ branch_targets l.function

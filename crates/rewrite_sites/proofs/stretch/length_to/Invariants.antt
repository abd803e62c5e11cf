use Rattle.std.proofs.Common.{◌≡◌, ◌++◌, drop, take}
use Rattle.erim_defs.specs.Rewriting.Sites.{reaching}
use Rattle.rewrite_sites.proofs.stretch.length_to.Given as goal

abbrev pub invariant-loop-i : goal.invariant-loop-i
invariant-loop-i l =
    take l.i l.insns ++ reaching l.goal (drop l.i l.insns) ≡ reaching l.goal l.insns

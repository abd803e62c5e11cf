use Rattle.std.proofs.Common.{◌≡◌, drop, None}
use Rattle.erim_defs.specs.Rewriting.Sites.{regions_from, with_regions}
use Rattle.rewrite_sites.proofs.regions.find_regions.Given as goal

abbrev pub invariant-loop-element : goal.invariant-loop-element
invariant-loop-element l =
    with_regions l.regions.items (regions_from l.program l.before (drop l.element-index l.elements))
    ≡ regions_from l.program None l.elements

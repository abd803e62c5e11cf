use Rattle.std.proofs.Common.{◌-◌, ◌^◌}
use Rattle.erim_defs.specs.Inspection.Image.{image_code, image_trust}
use Rattle.rewrite_sites.proofs.ListLemmas.{TakenBelow}
use Rattle.rewrite_sites.proofs.elements.unsafe_sequences.Given as goal

abbrev pub invariant-walk : goal.invariant-walk
invariant-walk l =
    TakenBelow (image_trust l.image) (image_code l.image) l.from l.all.items

abbrev pub decreases-walk : goal.decreases-walk
decreases-walk l = 2 ^ 47 - l.from

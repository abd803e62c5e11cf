use Rattle.overlap_rewrite.proofs.RegionLemmas.{copies_placed}
use Rattle.overlap_rewrite.proofs.rewriting.rewrite_regions.Goals as goal

pub rewrite_by-requires-clause-places : goal.rewrite_by-requires-clause-places
rewrite_by-requires-clause-places c =
    copies_placed c.args.image.now c.args.regions.now c.in_ok-layout.layout.copies.items
    c.in_ok-layout.ensures.0 c.requires

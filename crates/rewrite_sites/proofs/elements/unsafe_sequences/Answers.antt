use Rattle.erim_defs.specs.Inspection.Image.{image_code, image_trust}
use Rattle.rewrite_sites.proofs.ListLemmas.{taken_all, taken_next, taken_nothing}
use Rattle.rewrite_sites.proofs.elements.unsafe_sequences.Goals as goal

pub walk-init : goal.walk-init
walk-init c = rw c.new-all.ensures.items
    (taken_nothing (image_trust c.args.image.now) (image_code c.args.image.now))

pub walk-preserved : goal.walk-preserved
walk-preserved c =
    let image = c.args.image.now in
    let next = rw (c.trust.ensures, c.in_ok-code.ensures.code) at c.in-Some.ensures in
    rw c.in_ok-push.ensures.items
    (taken_next (image_trust image) (image_code image) c.walk.from c.walk.all.items c.in-Some.found
    c.walk.invariant next)

pub returns-clause-list : goal.returns-clause-list
returns-clause-list c =
    let image = c.args.image.now in
    let none = rw (c.trust.ensures, c.in_ok-code.ensures.code) at c.in_default.ensures in
    taken_all (image_trust image) (image_code image) c.walk.from c.walk.all.items
    c.walk.invariant none

use Rattle.std.proofs.Common.{refl}
use Rattle.erim_defs.specs.Inspection.Image.{image_code, image_trust}
use Rattle.erim_defs.specs.Output.Texts.{inspect_text}
use Rattle.report_text.proofs.InspectLemmas.{tells_all, tells_next, tells_nothing}
use Rattle.report_text.proofs.listing.inspection.Goals as goal

pub walk-init : goal.walk-init
walk-init c = rw c.new-text.ensures.bytes
    (tells_nothing (image_trust c.args.image.now) (image_code c.args.image.now))

pub walk-preserved : goal.walk-preserved
walk-preserved c =
    let image = c.args.image.now in
    let next = rw (c.trust.ensures, c.in_ok-code.ensures.code) at c.in-Some.ensures in
    rw c.in_ok-push_unsafe_line.ensures
    (tells_next (image_trust image) (image_code image) c.walk.from _ c.walk.count
    c.in-Some.found c.walk.invariant next)

pub returns : goal.returns
unfolding inspect_text
returns c =
    let image = c.args.image.now in
    let none = rw (c.trust.ensures, c.in_ok-code.ensures.code) at c.in_default.ensures in
    let tells = tells_all (image_trust image) (image_code image) c.walk.from _ c.walk.count
    c.walk.invariant none in
    record {
      text = rw (c.into_bytes.ensures.value, c.in_ok-push_count.ensures, tells.lines, tells.count)
          refl;
      count = tells.count;
    }

use Rattle.std.proofs.Common.{refl}
use Rattle.erim_defs.specs.Inspection.Image.{image_code, image_trust}
use Rattle.image_code.proofs.TextLemmas.{image_paged}
use Rattle.image_code.proofs.code.ImageCode.lay.Goals as goal

pub returns-clause-code : goal.returns-clause-code
unfolding image_code
returns-clause-code c = rw (
  c.in_ok-stretches.ensures.code,
  c.bytes.ensures.bytes,
  c.segments.ensures.list,
) refl

pub returns-clause-paged : goal.returns-clause-paged
returns-clause-paged c =
    image_paged c.args.image.now (image_trust c.args.image.now) c.bytes.ensures.accepted refl

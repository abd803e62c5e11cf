use Rattle.image_code.specs.Stretches.{stretch_end}
use Rattle.image_code.proofs.UnsafeLemmas.{first_from_place}
use Rattle.image_code.proofs.stretch.Stretch.next_unsafe.Goals as goal

pub returns : goal.returns
returns c =
    let s = c.args.self.now in
    let first =
    rw (c.as_slice.ensures.value, c.saturating_sub-place.ensures) at c.next_unsafe.ensures in
    first_from_place c.args.trust.now s.base c.args.from (stretch_end s) s.bytes.items _ first

use Rattle.image_code.proofs.RangeLemmas.{first_page_more}
use Rattle.image_code.proofs.ranges.first_page_from.Goals as goal

pub loop-segment-preserved : goal.loop-segment-preserved
loop-segment-preserved c =
    first_page_more c.args.segments.now c.loop-segment.segment-index _ c.args.from
    c.lesser-first.result c.loop-segment-test.true
    (c.lesser-first.ensures _ _ c.args.from c.loop-segment.invariant c.page_from.ensures)

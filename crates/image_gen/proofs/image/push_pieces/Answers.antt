use Rattle.image_gen.proofs.PieceLemmas.{piece_step, pieces_end, pieces_last}
use Rattle.std.proofs.Common.{◌∙◌}
use Rattle.std.proofs.lemmas.Result.{on_ok_weaker}
use Rattle.image_gen.proofs.image.push_pieces.Goals as goal

pub loop-part-preserved : goal.loop-part-preserved
loop-part-preserved c =
    piece_step c.loop-part.bytes.items _ _ _ c.args.notes.now c.args.parts.now
    c.loop-part.part-index c.part-item.result c.part_place-place.result c.len.result
    c.len-in-loop-part.result
    c.loop-part-test.true c.part-item.is (c.len.ensures
    ∙ c.loop-part.bytes.ok.0) (c.len-in-loop-part.ensures
    ∙ c.part-item.result.bytes.ok.0) c.part_place-place.ensures c.as_slice.ensures.value
    c.in_ok-push_at.ensures c.loop-part.invariant

pub returns-then-is_empty : goal.returns-then-is_empty
returns-then-is_empty c =
    pieces_end c.loop-part.bytes.items _ c.args.notes.now c.args.parts.now c.loop-part.part-index
    c.loop-part-test.false c.if-is_empty.ensures c.loop-part.invariant

pub returns : goal.returns
returns c =
    on_ok_weaker c.push_at-2.result
    (λ e. pieces_last c.loop-part.bytes.items c.push_at-2.new.bytes.items _ c.args.notes.now
    c.args.parts.now c.loop-part.part-index c.multiple_from-place.result c.len-2.result
    c.loop-part-test.false c.if-is_empty.ensures (c.len-2.ensures
    ∙ c.loop-part.bytes.ok.0) c.multiple_from-place.ensures e c.loop-part.invariant)
    c.push_at-2.ensures

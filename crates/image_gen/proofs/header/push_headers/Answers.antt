use Rattle.image_gen.proofs.PieceLemmas.{header_step, headers_end, headers_last, room_step}
use Rattle.std.proofs.Common.{◌∙◌, refl}
use Rattle.std.proofs.lemmas.Result.{on_ok_weaker}
use Rattle.image_gen.proofs.header.push_headers.Goals as goal

pub loop-part-preserved : goal.loop-part-preserved
loop-part-preserved c =
    let size = c.len-filesz.ensures ∙ c.part-item.result.bytes.ok.0 in
    record {
      same = rw c.max-end.ensures (header_step c.loop-part.bytes.items _ _ c.args.notes.now
          c.args.parts.now c.loop-part.part-index c.part-item.result c.part_place-place.result
          c.loop-part.end c.len-filesz.result
          c.loop-part-test.true c.part-item.is size c.part_place-place.ensures
          c.in_ok-push_program_header.ensures c.loop-part.invariant.same);
      room = room_step c.args.parts.now c.loop-part.part-index c.part-item.result
          c.part_place-place.result c.loop-part.end c.len-filesz.result c.max-end.result _
          c.loop-part-test.true c.part-item.is size c.part_place-place.ensures c.max-end.ensures
          c.loop-part.invariant.room;
    }

pub returns-then-is_empty : goal.returns-then-is_empty
returns-then-is_empty c =
    headers_end c.loop-part.bytes.items _ c.args.notes.now c.args.parts.now c.loop-part.part-index
    c.loop-part.end c.loop-part-test.false c.if-is_empty.ensures c.loop-part.invariant.same

pub returns : goal.returns
returns c =
    on_ok_weaker c.push_program_header-2.result
    (λ e. headers_last c.loop-part.bytes.items c.push_program_header-2.new.bytes.items _
    c.args.notes.now c.args.parts.now c.loop-part.part-index c.multiple_from.result
    c.loop-part.end _
    c.loop-part-test.false c.if-is_empty.ensures refl c.multiple_from.ensures e
    c.loop-part.invariant.same) c.push_program_header-2.ensures

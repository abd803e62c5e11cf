use Rattle.std.proofs.Common.{◌≡◌, ◌∙◌, ℕ, length, take, sym, ap, Vec, Global}
use Rattle.std.proofs.lemmas.List.{take_all, with_items_is}
use Rattle.image_code.proofs.RangeLemmas.{range_laid, passed_parts, copied_parts}
use Rattle.image_code.proofs.segment_bytes.range_bytes.Goals as goal
use Rattle.image_code.proofs.segment_bytes.range_bytes.Goals.{then-is_executable}
use Rattle.image_code.proofs.segment_bytes.range_bytes.Goals.{else-is_executable}

pub returns : goal.returns
returns c =
    let all : take c.loop-segment.segment-index c.args.segments.now ≡ c.args.segments.now =
    take_all c.loop-segment.segment-index c.args.segments.now c.loop-segment-test.false in
    let has = rw all at c.loop-segment.invariant in
    range_laid c.args.bytes.now c.args.segments.now c.args.pages.now c.loop-segment.code.items
    c.requires.pages has

pub loop-segment-preserved : goal.loop-segment-preserved
loop-segment-preserved c = elim c.if-is_executable.branch [
  | then-is_executable w ↦
      (let long : length w.copy_part.new.code
      ≡ length c.loop-segment.code.items = w.copy_part.auto.code
      ∙ ap length w.as_mut_slice.ensures.value in
      let items : c.if-is_executable.code.items ≡ w.copy_part.new.code =
      ap (λ (v : Vec ℕ Global). v.items) w.code-is
      ∙ with_items_is c.loop-segment.code w.copy_part.new.code (w.copy_part.auto.code
      ∙ w.as_mut_slice.ensures.len) in
      rw items (copied_parts c.args.bytes.now c.args.segments.now c.loop-segment.segment-index _
      c.args.pages.now c.loop-segment.code.items w.copy_part.new.code c.requires.placed
      c.requires.apart
      c.loop-segment-test.true (sym w.if-is_executable.ensures) c.loop-segment.invariant long
      (rw w.as_mut_slice.ensures.value at w.copy_part.ensures)))
  | else-is_executable w ↦
      rw (w.code-is) (passed_parts c.args.bytes.now c.args.segments.now c.loop-segment.segment-index
      _ c.args.pages.now c.loop-segment.code.items c.loop-segment-test.true
      (sym w.if-is_executable.ensures) c.loop-segment.invariant)
]

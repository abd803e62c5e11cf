use Rattle.std.proofs.Common.{◌≡◌, ◌∙◌, ◌+◌, ◌-◌, length, take, drop, arith}
use Rattle.std.proofs.lemmas.List.{length-take, length-drop}
use Rattle.image_code.proofs.RangeLemmas.{part_put, part_at}
use Rattle.image_code.proofs.segment_bytes.copy_part.Goals as goal

pub returns-then-start-end : goal.returns-then-start-end
returns-then-start-end c =
    let start = c.max-start.result in
    let place = c.args.segment.now.offset + (start - c.args.segment.now.vaddr) in
    let size = c.min-end.result - start in
    let same : place + size - place ≡ size = omega arith in
    let put = rw same at c.put_at.ensures in
    let file = c.requires.placed.file in
    let whole : length (take size (drop place c.args.bytes.now)) ≡ size =
    omega (
      arith,
      file,
      c.if-start-end.true,
      c.max-start.ensures,
      c.min-end.ensures,
      length-take
          size (drop place c.args.bytes.now),
      length-drop place c.args.bytes.now,
    ) in
    part_put c.args.bytes.now c.args.segment.now c.args.base start c.min-end.result c.args.code.now
    c.put_at.new.code c.max-start.ensures c.min-end.ensures c.put_at.auto.code
    (λ j lt. put.inside j (rw whole lt) ∙ part_at c.args.bytes.now place size j lt)
    (λ k out. put.outside k (rw whole out)) c.if-start-end.true

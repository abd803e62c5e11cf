use Rattle.std.proofs.Common.{◌∙◌, length, sym}
use Rattle.erim_defs.proofs.FilePartLemmas.{file_part_is}
use Rattle.rewrite_sites.proofs.ImageLemmas.{few_bytes, take_few}
use Rattle.rewrite_sites.proofs.sites.file_part.Goals as goal

pub returns-then-holds_function-clause-code : goal.returns-then-holds_function-clause-code
returns-then-holds_function-clause-code c =
    c.part_in.ensures
    ∙ sym (file_part_is c.args.bytes.now c.args.segments.now c.loop-segment.segment-index _
    c.args.function.now c.requires.placed c.requires.apart c.loop-segment-test.true
    (sym c.holds_function.ensures ∙ c.if-holds_function.true))

pub returns-then-holds_function-clause-few : goal.returns-then-holds_function-clause-few
returns-then-holds_function-clause-few c =
    let few = few_bytes (length c.args.bytes.now) c.args.segments.now c.loop-segment.segment-index _
    c.args.function.now c.requires.placed c.requires.few c.loop-segment-test.true
    (sym c.holds_function.ensures ∙ c.if-holds_function.true) in
    rw c.part_in.ensures (take_few _ _ _ few)

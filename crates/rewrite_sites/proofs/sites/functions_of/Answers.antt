use Rattle.erim_defs.proofs.FilePartLemmas.{functions_held}
use Rattle.rewrite_sites.proofs.ImageLemmas.{functions_more, read_as}
use Rattle.rewrite_sites.proofs.sites.functions_of.Goals as goal

pub file_part-bytes-requires-clause-held : goal.file_part-bytes-requires-clause-held
file_part-bytes-requires-clause-held c =
    rw (c.segments.ensures.list, c.functions-span-items.ensures)
    (functions_held c.args.image.now c.bytes.ensures.accepted c.loop-span.span-index _
    (rw c.functions-span-items.ensures at c.loop-span-test.true))

pub loop-span-preserved : goal.loop-span-preserved
loop-span-preserved c =
    rw c.in_ok-push.ensures.items
    (functions_more c.args.image.now c.functions-span-items.result.now c.loop-span.span-index _
    c.loop-span.functions.items c.in_ok-read.field-0 c.functions-span-items.ensures
    c.loop-span-test.true c.loop-span.invariant
    (read_as c.args.image.now c.bytes.result.now c.file_part-bytes.result.now
    c.segments.result.now _ _ c.in_ok-read.ensures c.bytes.ensures.bytes c.segments.ensures.list
    c.file_part-bytes.ensures.code))

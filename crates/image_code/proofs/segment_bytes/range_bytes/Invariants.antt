use Rattle.std.proofs.Common.{take}
use Rattle.image_code.proofs.RangeLemmas.{HasParts}
use Rattle.image_code.proofs.segment_bytes.range_bytes.Given as goal

abbrev pub invariant-loop-segment : goal.invariant-loop-segment
invariant-loop-segment l = HasParts l.bytes (take l.segment-index l.segments) l.pages l.code.items

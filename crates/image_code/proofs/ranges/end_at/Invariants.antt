use Rattle.std.proofs.Common.{◌≡◌, false, take}
use Rattle.erim_defs.specs.Inspection.Image.{is_executable, is_page_of}
use Rattle.image_code.proofs.ranges.end_at.Given as goal

abbrev pub invariant-loop-segment : goal.invariant-loop-segment
invariant-loop-segment l = is_page_of is_executable (take l.segment-index l.segments) l.page ≡ false

use Rattle.std.proofs.Common.{take}
use Rattle.erim_defs.specs.Inspection.Image.{is_executable, is_page_of}
use Rattle.image_code.specs.Ranges.{IsFirstPage}
use Rattle.image_code.proofs.ranges.first_page_from.Given as goal

abbrev pub invariant-loop-segment : goal.invariant-loop-segment
invariant-loop-segment l =
    IsFirstPage (is_page_of is_executable (take l.segment-index l.segments)) l.from l.first

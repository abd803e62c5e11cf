use Rattle.std.proofs.Common.{◌≡◌, drop, true}
use Rattle.std.specs.List.{list_any}
use Rattle.erim_defs.specs.Inspection.Image.{holds_function}
use Rattle.rewrite_sites.proofs.sites.file_part.Given as goal

abbrev pub invariant-loop-segment : goal.invariant-loop-segment
invariant-loop-segment l =
    list_any (holds_function l.function) (drop l.segment-index l.segments) ≡ true

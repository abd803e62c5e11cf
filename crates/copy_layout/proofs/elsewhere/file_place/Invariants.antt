use Rattle.std.proofs.Common.{◌≡◌, drop}
use Rattle.erim_defs.specs.Inspection.Image.{segments}
use Rattle.erim_defs.specs.Rewriting.NewFile.{file_place}
use Rattle.copy_layout.proofs.elsewhere.file_place.Given as goal

abbrev pub invariant-loop-segment : goal.invariant-loop-segment
invariant-loop-segment l =
    file_place (drop l.segment-index (segments l.image)) l.a ≡ file_place (segments l.image) l.a

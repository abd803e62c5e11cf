use Rattle.std.proofs.Common.{◌≡◌, drop, length}
use Rattle.erim_defs.specs.Output.LayImage.{file_with_pieces, pieces}
use Rattle.image_gen.specs.Parts.{part_values}
use Rattle.image_gen.proofs.image.push_pieces.Given as goal

-- what is left, after what was appended, gives the whole
abbrev pub invariant-loop-part : goal.invariant-loop-part
invariant-loop-part l = file_with_pieces l.bytes.items
    (pieces (length l.bytes.items) (part_values (drop l.part-index l.parts)) l.notes)
    ≡ file_with_pieces l.initial.bytes.items
    (pieces (length l.initial.bytes.items) (part_values l.parts) l.notes)

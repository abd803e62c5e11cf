use Rattle.std.proofs.Common.{◌≡◌, ◌++◌, take}
use Rattle.std.specs.List.{flat_map}
use Rattle.erim_defs.specs.Output.LayImage.{mark_bytes}
use Rattle.image_gen.specs.Parts.{mark_values}
use Rattle.image_gen.proofs.note.push_trust.Given as goal

abbrev pub invariant-loop-mark : goal.invariant-loop-mark
invariant-loop-mark l = l.bytes.items
    ≡ l.initial.bytes.items ++ flat_map mark_bytes (mark_values (take l.mark-index l.marks))

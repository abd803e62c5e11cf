use Rattle.std.proofs.Common.{◌≡◌, ◌++◌, take}
use Rattle.std.specs.List.{flat_map}
use Rattle.erim_defs.specs.Output.LayImage.{span_bytes}
use Rattle.image_gen.proofs.note.push_functions.Given as goal

abbrev pub invariant-loop-function : goal.invariant-loop-function
invariant-loop-function l =
    l.bytes.items ≡ l.initial.bytes.items ++ flat_map span_bytes (take l.function-index l.functions)

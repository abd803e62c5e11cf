use Rattle.std.proofs.Common.{◌≡◌, take}
use Rattle.std.specs.List.{flat_map}
use Rattle.erim_defs.specs.Encoding.Disasm.{segment_lines}
use Rattle.erim_commands.proofs.commands.disasm.segments_disasm.Given as goal

abbrev pub invariant-loop-segment : goal.invariant-loop-segment
invariant-loop-segment l =
    l.text.items ≡ flat_map (segment_lines l.bytes) (take l.segment-index l.segments)

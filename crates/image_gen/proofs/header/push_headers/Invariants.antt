use Rattle.std.proofs.Common.{◌≡◌, ◌+◌, ◌≤◌, ◌++◌, drop}
use Rattle.std.specs.List.{flat_map}
use Rattle.erim_defs.specs.Output.LayImage.{pieces, program_header}
use Rattle.image_gen.specs.Parts.{part_values}
use Rattle.image_gen.proofs.PieceLemmas.{room_for}
use Rattle.image_gen.proofs.header.push_headers.Given as goal

-- what was appended and what is left are all headers; the end has room for all parts
abbrev pub invariant-loop-part : goal.invariant-loop-part
invariant-loop-part l = record {
  same : l.bytes.items ++ flat_map program_header
      (pieces l.end (part_values (drop l.part-index l.parts)) l.notes)
      ≡ l.initial.bytes.items ++ flat_map program_header
      (pieces l.initial.end (part_values l.parts) l.notes);
  room : l.end + room_for (drop l.part-index l.parts) ≤ l.initial.end + room_for l.parts;
}

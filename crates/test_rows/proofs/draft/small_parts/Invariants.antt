use Rattle.std.proofs.Common.{◌≤◌, ◌*◌, length}
use Rattle.image_gen.specs.Parts.{total_bytes}
use Rattle.test_rows.proofs.draft.small_parts.Given as goal

-- fewer parts than 64, of at most 65,536 bytes each
abbrev pub invariant-loop-part : goal.invariant-loop-part
invariant-loop-part l = record {
  few : length l.parts.items ≤ 63;
  small : total_bytes l.parts.items ≤ 65536 * length l.parts.items;
}

use Rattle.std.proofs.Common.{◌≡◌, []}
use Rattle.erim_defs.specs.Inspection.Image.{entry_fault}
use Rattle.elf_image.specs.Records.{records_left, seen_before, table_records}
use Rattle.elf_image.proofs.records.entry_fault.Given as goal

abbrev pub invariant-loop-index : goal.invariant-loop-index
invariant-loop-index l =
    entry_fault l.index (table_records l.bytes l.table) (seen_before l.bytes l.table l.index)
    (records_left l.bytes l.table l.index)
    ≡ entry_fault 0 (table_records l.bytes l.table) [] (table_records l.bytes l.table)

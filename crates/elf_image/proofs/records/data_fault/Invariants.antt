use Rattle.std.proofs.Common.{◌≡◌, []}
use Rattle.erim_defs.specs.Inspection.Image.{data_fault, segments}
use Rattle.elf_image.specs.Records.{records_left, seen_before, table_records}
use Rattle.elf_image.proofs.records.data_fault.Given as goal

abbrev pub invariant-loop-index : goal.invariant-loop-index
invariant-loop-index l =
    data_fault l.index (segments l.bytes) (seen_before l.bytes l.table l.index)
    (records_left l.bytes l.table l.index)
    ≡ data_fault 0 (segments l.bytes) [] (table_records l.bytes l.table)

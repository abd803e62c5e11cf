use Rattle.std.proofs.Common.{◌≡◌, []}
use Rattle.erim_defs.specs.Inspection.Image.{record_fault}
use Rattle.elf_image.specs.Records.{records_left, seen_before, table_records}
use Rattle.elf_image.proofs.records.record_fault.Given as goal

abbrev pub invariant-loop-index : goal.invariant-loop-index
invariant-loop-index l =
    record_fault l.table.has_domains l.index (seen_before l.bytes l.table l.index)
    (records_left l.bytes l.table l.index) ≡ record_fault l.table.has_domains 0 []
    (table_records l.bytes l.table)

use Rattle.std.proofs.Common.{◌≡◌}
use Rattle.elf_image.specs.Records.{is_in_text, records_left, table_records}
use Rattle.elf_image.proofs.records.is_in_text.Given as goal

abbrev pub invariant-loop-index : goal.invariant-loop-index
invariant-loop-index l = is_in_text l.entry (records_left l.bytes l.table l.index)
    ≡ is_in_text l.entry (table_records l.bytes l.table)

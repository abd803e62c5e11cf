use Rattle.std.proofs.Common.{◌≡◌, ◌++◌}
use Rattle.erim_defs.specs.Inspection.Image.{starts_of}
use Rattle.elf_image.specs.Records.{records_left, table_records}
use Rattle.elf_image.proofs.lists.entry_addresses.Given as goal

abbrev pub invariant-loop-index : goal.invariant-loop-index
invariant-loop-index l = l.list.items ++ starts_of (records_left l.bytes l.table l.index)
    ≡ starts_of (table_records l.bytes l.table)

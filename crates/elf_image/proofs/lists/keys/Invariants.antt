use Rattle.std.proofs.Common.{◌≡◌, ◌++◌}
use Rattle.elf_image.specs.Form.{keys_in}
use Rattle.elf_image.specs.Records.{records_left, table_records}
use Rattle.elf_image.proofs.lists.keys.Given as goal

abbrev pub invariant-loop-index : goal.invariant-loop-index
invariant-loop-index l = l.list.items ++ keys_in l.kind (records_left l.bytes l.table l.index)
    ≡ keys_in l.kind (table_records l.bytes l.table)

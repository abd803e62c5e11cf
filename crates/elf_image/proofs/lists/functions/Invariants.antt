use Rattle.std.proofs.Common.{◌≡◌, ◌++◌}
use Rattle.elf_image.specs.Functions.{functions_left, table_functions}
use Rattle.elf_image.proofs.lists.functions.Given as goal

abbrev pub invariant-loop-index : goal.invariant-loop-index
invariant-loop-index l = l.list.items ++ functions_left l.bytes l.table l.index
    ≡ table_functions l.bytes l.table

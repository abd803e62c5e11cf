use Rattle.std.proofs.Common.{◌≡◌, []}
use Rattle.erim_defs.specs.Inspection.Image.{function_fault, segments}
use Rattle.elf_image.specs.Functions.{functions_left, functions_seen, last_seen, table_functions}
use Rattle.elf_image.proofs.functions.function_fault.Given as goal

abbrev pub invariant-loop-index : goal.invariant-loop-index
invariant-loop-index l = record {
  last : l.before ≡ last_seen (functions_seen l.bytes l.table l.index);
  same : function_fault l.index (segments l.bytes) (functions_seen l.bytes l.table l.index)
      (functions_left l.bytes l.table l.index)
      ≡ function_fault 0 (segments l.bytes) [] (table_functions l.bytes l.table);
}

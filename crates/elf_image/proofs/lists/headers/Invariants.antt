use Rattle.std.proofs.Common.{◌≡◌, ◌++◌}
use Rattle.erim_defs.specs.Inspection.Image.{headers}
use Rattle.elf_image.specs.Table.{headers_left}
use Rattle.elf_image.proofs.lists.headers.Given as goal

abbrev pub invariant-loop-index : goal.invariant-loop-index
invariant-loop-index l = l.list.items ++ headers_left l.bytes l.index ≡ headers l.bytes

use Rattle.std.proofs.Common.{◌≡◌, ◌++◌}
use Rattle.erim_defs.specs.Inspection.Image.{loadable_segments, segments}
use Rattle.elf_image.specs.Table.{headers_left}
use Rattle.elf_image.proofs.lists.segments.Given as goal

abbrev pub invariant-loop-index : goal.invariant-loop-index
invariant-loop-index l = l.list.items ++ loadable_segments (headers_left l.bytes l.index)
    ≡ segments l.bytes

use Rattle.std.proofs.Common.{◌≡◌}
use Rattle.erim_defs.specs.Inspection.Image.{loadable_segments, segments}
use Rattle.elf_image.specs.Functions.{is_within}
use Rattle.elf_image.specs.Table.{headers_left}
use Rattle.elf_image.proofs.functions.holder.Given as goal

abbrev pub invariant-loop-index : goal.invariant-loop-index
invariant-loop-index l = is_within l.function (loadable_segments (headers_left l.bytes l.index))
    ≡ is_within l.function (segments l.bytes)

use Rattle.std.proofs.Common.{◌≡◌}
use Rattle.erim_defs.specs.Inspection.Image.{loadable_segments, segments}
use Rattle.elf_image.specs.Records.{is_held}
use Rattle.elf_image.specs.Table.{headers_left}
use Rattle.elf_image.proofs.pages.holder.Given as goal

abbrev pub invariant-loop-index : goal.invariant-loop-index
invariant-loop-index l = is_held l.purpose (loadable_segments (headers_left l.bytes l.index)) l.page
    ≡ is_held l.purpose (segments l.bytes) l.page

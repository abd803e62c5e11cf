use Rattle.std.proofs.Common.{◌≡◌}
use Rattle.erim_defs.specs.Inspection.Image.{segments}
use Rattle.elf_image.specs.Records.{are_held, is_lying}
use Rattle.elf_image.proofs.pages.is_lying.Given as goal

abbrev pub invariant-loop-page : goal.invariant-loop-page
invariant-loop-page l = are_held l.purpose (segments l.bytes) l.page l.end
    ≡ is_lying l.purpose (segments l.bytes) l.item

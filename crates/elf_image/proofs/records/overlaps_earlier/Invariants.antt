use Rattle.std.proofs.Common.{◌≡◌}
use Rattle.std.specs.List.{list_any}
use Rattle.erim_defs.specs.Inspection.Image.{overlaps}
use Rattle.elf_image.specs.Records.{seen_before}
use Rattle.elf_image.proofs.records.overlaps_earlier.Given as goal

abbrev pub invariant-loop-earlier : goal.invariant-loop-earlier
invariant-loop-earlier l =
    l.overlaps ≡ list_any (overlaps l.item) (seen_before l.bytes l.table l.earlier)

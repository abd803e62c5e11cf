use Rattle.std.proofs.Common.{◌≡◌}
use Rattle.std.specs.List.{list_any}
use Rattle.erim_defs.specs.Inspection.Image.{marks}
use Rattle.elf_image.specs.Records.{seen_before}
use Rattle.elf_image.proofs.domains.marked_earlier.Given as goal

abbrev pub invariant-loop-earlier : goal.invariant-loop-earlier
invariant-loop-earlier l =
    l.marked ≡ list_any (marks l.key) (seen_before l.bytes l.table l.earlier)

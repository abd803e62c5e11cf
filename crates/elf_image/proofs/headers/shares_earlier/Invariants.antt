use Rattle.std.proofs.Common.{◌≡◌}
use Rattle.std.specs.List.{list_any}
use Rattle.erim_defs.specs.Inspection.Image.{shares_page}
use Rattle.elf_image.specs.Table.{seen_segments}
use Rattle.elf_image.proofs.headers.shares_earlier.Given as goal

abbrev pub invariant-loop-earlier : goal.invariant-loop-earlier
invariant-loop-earlier l =
    l.shares ≡ list_any (shares_page l.segment) (seen_segments l.bytes l.earlier)

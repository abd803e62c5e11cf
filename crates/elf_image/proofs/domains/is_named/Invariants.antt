use Rattle.std.proofs.Common.{◌≡◌}
use Rattle.std.specs.List.{list_any}
use Rattle.elf_image.specs.Domains.{has_key}
use Rattle.elf_image.specs.Records.{seen_before}
use Rattle.elf_image.proofs.domains.is_named.Given as goal

abbrev pub invariant-loop-index : goal.invariant-loop-index
invariant-loop-index l =
    l.named ≡ list_any (has_key l.key) (seen_before l.bytes l.table l.index)

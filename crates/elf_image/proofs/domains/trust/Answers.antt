use Rattle.std.proofs.Common.{refl}
use Rattle.elf_image.specs.Domains.{trust_in}
use Rattle.elf_image.proofs.domains.trust.Goals as goal

pub returns : goal.returns
unfolding trust_in
returns c =
    rw (
      c.in_ok-spans.ensures,
      c.in_ok-entry_addresses.ensures,
      c.in_ok-keys.ensures,
      c.in_ok-keys-2.ensures,
      c.domains.ensures,
      c.integrity.ensures,
    )
    refl

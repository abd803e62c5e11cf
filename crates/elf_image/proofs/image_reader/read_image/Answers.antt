use Rattle.std.proofs.Common.{arith}
use Rattle.erim_defs.proofs.ByteLemmas.{bytes_of}
use Rattle.elf_image.proofs.image_reader.read_image.Goals as goal

pub from_accepted-requires-clause-octets : goal.from_accepted-requires-clause-octets
from_accepted-requires-clause-octets c =
    bytes_of c.args.bytes.now (λ i. omega (arith, c.type_inv.bytes i))

use Rattle.std.proofs.Common.{arith}
use Rattle.erim_defs.proofs.ByteLemmas.{bytes_of}
use Rattle.erim_commands.proofs.loads.note_bytes.Goals as goal

pub returns : goal.returns
returns c = bytes_of c.args.bytes.now (λ i. omega (arith, c.type_inv.bytes i))

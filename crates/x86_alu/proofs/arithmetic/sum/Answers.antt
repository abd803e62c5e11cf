use Rattle.std.proofs.Common.{arith}
use Rattle.std.proofs.lemmas.Int.{to_z-of_z, ints}
use Rattle.x86_alu.proofs.arithmetic.sum.Goals as goal

pub returns-clause-outcome : goal.returns-clause-outcome
returns-clause-outcome c = grind (arith, ints, to_z-of_z)

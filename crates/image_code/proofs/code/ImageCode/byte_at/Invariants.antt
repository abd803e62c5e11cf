use Rattle.std.proofs.Common.{◌≡◌, drop}
use Rattle.image_code.specs.Stretches.{code_in}
use Rattle.image_code.proofs.code.ImageCode.byte_at.Given as goal

abbrev pub invariant-loop-stretch : goal.invariant-loop-stretch
invariant-loop-stretch l =
    code_in (drop l.stretch-index l.self) l.address ≡ code_in l.self l.address

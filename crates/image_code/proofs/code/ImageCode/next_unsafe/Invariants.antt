use Rattle.std.proofs.Common.{take}
use Rattle.std.specs.List.{All}
use Rattle.image_code.specs.Stretches.{code_in}
use Rattle.image_code.proofs.CodeLemmas.{IsClear}
use Rattle.image_code.proofs.code.ImageCode.next_unsafe.Given as goal

abbrev pub invariant-loop-stretch : goal.invariant-loop-stretch
invariant-loop-stretch l =
    All (IsClear l.trust (code_in l.self) l.from) (take l.stretch-index l.self)

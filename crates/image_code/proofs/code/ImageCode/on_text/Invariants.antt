use Rattle.std.proofs.Common.{take}
use Rattle.image_code.proofs.TextLemmas.{HasTexts}
use Rattle.image_code.proofs.code.ImageCode.on_text.Given as goal

abbrev pub invariant-loop-stretch : goal.invariant-loop-stretch
invariant-loop-stretch l = HasTexts l.trust (take l.stretch-index l.self) l.stretches.items

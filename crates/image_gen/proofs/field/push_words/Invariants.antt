use Rattle.std.proofs.Common.{◌≡◌, ◌++◌, take}
use Rattle.erim_defs.specs.Output.LayImage.{words}
use Rattle.image_gen.proofs.field.push_words.Given as goal

abbrev pub invariant-loop-number : goal.invariant-loop-number
invariant-loop-number l =
    l.bytes.items ≡ l.initial.bytes.items ++ words (take l.number-index l.numbers)

use Rattle.std.proofs.Common.{◌≡◌, ◌++◌, take}
use Rattle.erim_defs.specs.Output.LayImage.{xwords}
use Rattle.image_gen.proofs.field.push_xwords.Given as goal

abbrev pub invariant-loop-number : goal.invariant-loop-number
invariant-loop-number l =
    l.bytes.items ≡ l.initial.bytes.items ++ xwords (take l.number-index l.numbers)

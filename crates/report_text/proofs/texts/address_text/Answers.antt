use Rattle.std.proofs.Common.{◌≡◌, Some, false, refl}
use Rattle.std.specs.Fmt.{styled_digits_output, digits}
use Rattle.erim_defs.specs.Output.Texts.{zero_filled}
use Rattle.erim_defs.proofs.TextLemmas.{zeros_in_front}
use Rattle.report_text.proofs.texts.address_text.Goals as goal

pub returns : goal.returns
returns c =
    let shown : styled_digits_output c.in_radix.result c.laid_out.result
    ≡ Some (zero_filled 12 (digits 16 false c.args.address)) =
    rw (c.in_radix.ensures, c.laid_out.ensures, zeros_in_front) refl in
    rw shown at c.format.ensures.ok

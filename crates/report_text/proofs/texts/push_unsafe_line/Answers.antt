use Rattle.std.proofs.Common.{◌≡◌, Some, false, refl, ◌∙◌}
use Rattle.std.specs.Prelude.{codes}
use Rattle.std.specs.String.{string_bytes}
use Rattle.std.specs.Fmt.{styled_digits_output, digits}
use Rattle.erim_defs.specs.Output.Texts.{kind_text, unsafe_line, zero_filled}
use Rattle.erim_defs.proofs.TextLemmas.{zeros_in_front}
use Rattle.report_text.proofs.TextLemmas.{unsafe_line_joins}
use Rattle.report_text.proofs.texts.push_unsafe_line.Goals as goal

pub returns : goal.returns
unfolding unsafe_line
returns c =
    let shown : styled_digits_output c.in_radix.result c.laid_out.result
    ≡ Some (zero_filled 12 (digits 16 false c.args.found.now.at)) =
    rw (c.in_radix.ensures, c.laid_out.ensures, zeros_in_front) refl in
    let h = rw (shown, c.kind_text-kind.ensures) at c.in_ok-writeln.ensures.bytes in
    h ∙ unsafe_line_joins (string_bytes c.args.text.now) (codes "unsafe ")
    (kind_text c.args.found.now.kind) (codes " at ") (codes "0x")
    (zero_filled 12 (digits 16 false c.args.found.now.at))

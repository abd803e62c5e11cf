use Rattle.std.proofs.Common.{◌≡◌, ◌∙◌, Some, false, refl}
use Rattle.std.specs.Prelude.{codes}
use Rattle.std.specs.Fmt.{styled_digits_output, digits}
use Rattle.erim_defs.specs.Output.Texts.{zero_filled}
use Rattle.erim_defs.specs.Encoding.Disasm.{bad_line}
use Rattle.erim_defs.proofs.TextLemmas.{zeros_in_front}
use Rattle.erim_commands.proofs.DisasmLemmas.{bad_line_joins}
use Rattle.erim_commands.proofs.commands.disasm.push_bad.Goals as goal

pub returns-in-Ok : goal.returns-in-Ok
unfolding bad_line
returns-in-Ok c =
    let address : styled_digits_output c.in_radix.result c.laid_out.result
    ≡ Some (zero_filled 12 (digits 16 false c.args.at)) =
    rw (c.in_radix.ensures, c.laid_out.ensures, zeros_in_front) refl in
    let byte : styled_digits_output c.in_radix-2.result c.laid_out-2.result
    ≡ Some (zero_filled 2 (digits 16 false c.args.byte)) =
    rw (c.in_radix-2.ensures, c.laid_out-2.ensures, zeros_in_front) refl in
    let h = rw (address, byte) at c.in-Ok.ensures.bytes in
    h ∙ bad_line_joins c.args.text.now.items (codes "0x")
    (zero_filled 12 (digits 16 false c.args.at)) (codes " bad ")
    (zero_filled 2 (digits 16 false c.args.byte))

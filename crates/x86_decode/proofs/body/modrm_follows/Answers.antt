use Rattle.std.proofs.Common.{◌∙◌, sym, ap, arith, true, false}
use Rattle.erim_defs.specs.Encoding.Decoding.{modrm_follows}
use Rattle.encoding_laws.proofs.OpcodeMapLemmas.{asks_is}
use Rattle.x86_decode.proofs.body.modrm_follows.Goals as goal

pub returns-then-escape : goal.returns-then-escape
returns-then-escape c = c.two_byte_has_modrm.ensures ∙ sym (asks_is true c.args.op (omega arith))
    ∙ ap (λ b. modrm_follows b c.args.op) (sym c.if-escape.true)

pub returns-else-escape : goal.returns-else-escape
returns-else-escape c = c.one_byte_has_modrm.ensures ∙ sym (asks_is false c.args.op (omega arith))
    ∙ ap (λ b. modrm_follows b c.args.op) (sym c.if-escape.false)

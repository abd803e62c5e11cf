use Rattle.std.proofs.Common.{◌∙◌, sym, ap, arith, true, false}
use Rattle.erim_defs.specs.Encoding.OpcodeTable.{table_lines, lookup}
use Rattle.encoding_laws.proofs.OpcodeMapLemmas.{row_in_map_is}
use Rattle.x86_decode.proofs.body.lookup.Goals as goal

pub returns-then-escape-clause-row : goal.returns-then-escape-clause-row
returns-then-escape-clause-row c =
    c.two_byte_row.ensures.row
    ∙ sym (row_in_map_is true c.args.lead.f3 c.args.lead.rex.w c.args.op c.args.m (omega arith)
    (omega arith))
    ∙ ap (λ b. lookup table_lines b c.args.lead.f3 c.args.lead.rex.w c.args.op c.args.m)
    (sym c.if-escape.true)

pub returns-else-escape-clause-row : goal.returns-else-escape-clause-row
returns-else-escape-clause-row c =
    c.one_byte_row.ensures.row
    ∙ sym (row_in_map_is false c.args.lead.f3 c.args.lead.rex.w c.args.op c.args.m (omega arith)
    (omega arith))
    ∙ ap (λ b. lookup table_lines b c.args.lead.f3 c.args.lead.rex.w c.args.op c.args.m)
    (sym c.if-escape.false)

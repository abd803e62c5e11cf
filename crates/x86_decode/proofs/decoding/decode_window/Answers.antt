use Rattle.std.proofs.Common.{ℕ, List, arith, ap, ◌∙◌, Err, Result}
use Rattle.erim_defs.specs.Encoding.Grammar.{InsnAndSizes}
use Rattle.erim_defs.specs.declared.grammar.Stop.{Stop}
use Rattle.encoding_laws.proofs.EncodingLemmas.{found_ok, found_short, found_long, found_none}
use Rattle.encoding_laws.proofs.EncodingLemmas.{window_bytes}
use Rattle.x86_decode.proofs.decoding.decode_window.Goals as goal

abbrev err : Stop → Result (InsnAndSizes × List ℕ) Stop
err e = Err e

pub overflow_sub-result : goal.overflow_sub-result
overflow_sub-result c = (found_ok c.args.bytes.now c.window_of-window.result.now c.in-Ok.rest.now
    (c.in-Ok.insn, c.in-Ok.sizes.skip, c.in-Ok.sizes.disp, c.in-Ok.sizes.imm)
    c.window_of-window.ensures
    (window_bytes c.args.bytes.now c.window_of-window.result.now c.window_of-window.ensures
    (λ i. omega (arith, c.type_inv.bytes i))) c.in-Ok.ensures).0

pub returns-in-Ok : goal.returns-in-Ok
returns-in-Ok c =
    let k = found_ok c.args.bytes.now c.window_of-window.result.now c.in-Ok.rest.now
    (c.in-Ok.insn, c.in-Ok.sizes.skip, c.in-Ok.sizes.disp, c.in-Ok.sizes.imm)
    c.window_of-window.ensures (window_bytes c.args.bytes.now c.window_of-window.result.now
    c.window_of-window.ensures (λ i. omega (arith, c.type_inv.bytes i))) c.in-Ok.ensures in
    (k.1, k.2)

pub returns-then-window-n-le-LIMIT : goal.returns-then-window-n-le-LIMIT
returns-then-window-n-le-LIMIT c =
    found_short c.args.bytes.now c.window_of-window.result.now c.in-Err-Short.n
    c.window_of-window.ensures (window_bytes c.args.bytes.now c.window_of-window.result.now
    c.window_of-window.ensures (λ i. omega (arith, c.type_inv.bytes i))) (c.in-Err-Short.ensures
    ∙ ap err c.in-Err-Short.field-0-is) (omega arith)

pub returns-else-window-n-le-LIMIT : goal.returns-else-window-n-le-LIMIT
returns-else-window-n-le-LIMIT c =
    found_long c.args.bytes.now c.window_of-window.result.now c.in-Err-Short.n
    c.window_of-window.ensures (window_bytes c.args.bytes.now c.window_of-window.result.now
    c.window_of-window.ensures (λ i. omega (arith, c.type_inv.bytes i))) (c.in-Err-Short.ensures
    ∙ ap err c.in-Err-Short.field-0-is) (omega arith)

pub returns-in-Err-Undefined : goal.returns-in-Err-Undefined
returns-in-Err-Undefined c =
    found_none c.args.bytes.now c.window_of-window.result.now c.window_of-window.ensures
    (window_bytes c.args.bytes.now c.window_of-window.result.now c.window_of-window.ensures
    (λ i. omega (arith, c.type_inv.bytes i))) (c.in-Err-Undefined.ensures
    ∙ ap err c.in-Err-Undefined.field-0-is)

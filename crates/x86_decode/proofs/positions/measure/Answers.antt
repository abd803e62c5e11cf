use Rattle.std.proofs.Common.{arith}
use Rattle.erim_defs.specs.Encoding.Grammar.{InsnAndSizes}
use Rattle.encoding_laws.proofs.EncodingLemmas.{window_bytes, found_ok}
use Rattle.x86_decode.proofs.LayoutLemmas.{read_so}
use Rattle.x86_decode.proofs.MeasureLemmas.{stands, nothing_stands}
use Rattle.x86_decode.proofs.positions.measure.Goals as goal

pub overflow_sub-result : goal.overflow_sub-result
overflow_sub-result c =
    (read_so c.args.bytes.now c.window_of-window.result.now c.in-Ok.rest.now
    (c.in-Ok.insn, c.in-Ok.sizes.skip, c.in-Ok.sizes.disp, c.in-Ok.sizes.imm)
    c.window_of-window.ensures
    (window_bytes c.args.bytes.now c.window_of-window.result.now c.window_of-window.ensures
    (λ i. omega (arith, c.type_inv.bytes i))) c.in-Ok.ensures).0

pub returns-in-Ok-clause-standing : goal.returns-in-Ok-clause-standing
returns-in-Ok-clause-standing c =
    let a : InsnAndSizes = (
      c.in-Ok.insn,
      c.in-Ok.sizes.skip,
      c.in-Ok.sizes.disp,
      c.in-Ok.sizes.imm,
    ) in
    let k = read_so c.args.bytes.now c.window_of-window.result.now c.in-Ok.rest.now a
    c.window_of-window.ensures
    (window_bytes c.args.bytes.now c.window_of-window.result.now c.window_of-window.ensures
    (λ i. omega (arith, c.type_inv.bytes i))) c.in-Ok.ensures in
    stands c.args.bytes.now c.window_of-window.result.now c.in-Ok.rest.now a
    c.window_of-window.ensures k.0 c.in-Ok.ensures

pub returns-in-Ok-clause-sizes : goal.returns-in-Ok-clause-sizes
returns-in-Ok-clause-sizes c =
    let a : InsnAndSizes = (
      c.in-Ok.insn,
      c.in-Ok.sizes.skip,
      c.in-Ok.sizes.disp,
      c.in-Ok.sizes.imm,
    ) in
    let fits = window_bytes c.args.bytes.now c.window_of-window.result.now
    c.window_of-window.ensures (λ i. omega (arith, c.type_inv.bytes i)) in
    let k = (read_so c.args.bytes.now c.window_of-window.result.now c.in-Ok.rest.now a
    c.window_of-window.ensures fits c.in-Ok.ensures).1 in
    let f = found_ok c.args.bytes.now c.window_of-window.result.now c.in-Ok.rest.now a
    c.window_of-window.ensures fits c.in-Ok.ensures in
    let long = k.long in
    let size = k.size in
    let room = k.room in
    let all = f.1 in
    (omega (arith, room), all, omega (arith, long, size), omega (arith, room))

pub returns-in-Err-clause-standing : goal.returns-in-Err-clause-standing
returns-in-Err-clause-standing c =
    nothing_stands c.args.bytes.now c.window_of-window.result.now c.in-Err.field-0
    c.window_of-window.ensures c.in-Err.ensures

use Rattle.std.proofs.Common.{◌≡◌, ◌+◌, ◌/◌, sym, arith}
use Rattle.trusted_heap.proofs.FitLemmas.{fit_some, fit_none}
use Rattle.trusted_heap.proofs.fit.fit_in.Goals as goal

pub returns-then-unit-count-clause-first : goal.returns-then-unit-count-clause-first
returns-then-unit-count-clause-first c =
    let from = c.div_ceil.ensures in
    let ceil : c.div_ceil.result ≡ (c.args.heap.now.start + 15) / 16 = omega (arith, from) in
    sym (fit_some c.args.heap.now c.args.blocks.now c.div_ceil.result c.lowest_gap-unit.result
    c.args.count ceil c.requires.low c.requires.some c.lowest_gap-unit.ensures.gap
    c.if-unit-count.true)

pub returns-else-unit-count-clause-first : goal.returns-else-unit-count-clause-first
returns-else-unit-count-clause-first c =
    let from = c.div_ceil.ensures in
    let ceil : c.div_ceil.result ≡ (c.args.heap.now.start + 15) / 16 = omega (arith, from) in
    sym (fit_none c.args.heap.now c.args.blocks.now c.div_ceil.result c.lowest_gap-unit.result
    c.args.count ceil c.lowest_gap-unit.ensures.gap c.if-unit-count.false)

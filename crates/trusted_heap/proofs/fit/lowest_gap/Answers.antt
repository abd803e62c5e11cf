use Rattle.std.proofs.Common.{◌∙◌, ℕ, sym, subst, arith}
use Rattle.trusted_heap.specs.Blocks.{IsLowestGap}
use Rattle.trusted_heap.proofs.GapLemmas.{ends_low, walk_end, walk_on, walk_past}
use Rattle.trusted_heap.proofs.GapLemmas.{walked, walked_lowest}
use Rattle.trusted_heap.proofs.fit.lowest_gap.Goals.{then-meets, else-meets}
use Rattle.trusted_heap.proofs.fit.lowest_gap.Goals as goal

pub meets-requires-clause-low : goal.meets-requires-clause-low
meets-requires-clause-low c =
    ends_low 0 c.args.blocks.now c.loop-block.block-index _ c.requires.apart
    c.loop-block-test.true

pub unit_after-unit-requires : goal.unit_after-unit-requires
unit_after-unit-requires c =
    ends_low 0 c.args.blocks.now c.loop-block.block-index _ c.requires.apart
    c.loop-block-test.true

pub loop-block-preserved : goal.loop-block-preserved
loop-block-preserved c =
    let bs = c.args.blocks.now in
    let i = c.loop-block.block-index in
    let unit = c.loop-block.unit in
    let within = c.loop-block-test.true in
    let end = walked bs c.args.from c.args.count in
    let tells = c.meets.ensures in
    let high = c.loop-block.invariant.1 in
    elim c.if-meets.branch [
      | then-meets w ↦ (
        walk_past bs i unit c.args.count c.if-meets.unit end within (sym tells ∙ w.if-meets.true)
            (w.unit-is ∙ w.unit_after-unit.ensures.behind) c.loop-block.invariant.0,
        (let low = w.unit_after-unit.ensures.low in let is = w.unit-is in
            omega (arith, low, is)),
      )
      | else-meets w ↦ (
        walk_on bs i unit c.args.count c.if-meets.unit end within (sym tells ∙ w.if-meets.false)
            w.unit-is c.loop-block.invariant.0,
        (let is = w.unit-is in omega (arith, high, is)),
      )
    ]

pub returns-clause-gap : goal.returns-clause-gap
returns-clause-gap c =
    let bs = c.args.blocks.now in
    let e = sym c.loop-block.invariant.0
    ∙ walk_end bs c.loop-block.block-index c.loop-block.unit c.args.count c.loop-block-test.false in
    subst (λ (u : ℕ). IsLowestGap bs c.args.from c.args.count u) e
    (walked_lowest bs c.args.from c.args.count c.requires.apart)

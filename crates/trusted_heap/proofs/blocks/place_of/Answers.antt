use Rattle.std.proofs.Common.{◌≡◌, ◌++◌, ◌∷◌, length, take, drop, arith, subst, ℕ}
use Rattle.erim_defs.specs.Machine.HeapCalls.{with_block}
use Rattle.trusted_heap.proofs.BlockLemmas.{place_next, place_here, place_last}
use Rattle.trusted_heap.proofs.blocks.place_of.Goals as goal

pub returns-then-block-blocks-clause-place : goal.returns-then-block-blocks-clause-place
returns-then-block-blocks-clause-place c =
    place_here c.args.blocks.now c.args.block.now c.loop-place.place _ c.loop-place-test.true
    c.if-block-blocks.true c.loop-place.invariant

pub loop-place-preserved : goal.loop-place-preserved
loop-place-preserved c =
    place_next c.args.blocks.now c.args.block.now c.loop-place.place _ c.loop-place-test.true
    c.if-block-blocks.false c.loop-place.invariant

pub returns-clause-place : goal.returns-clause-place
returns-clause-place c =
    let bs = c.args.blocks.now in
    let i = c.loop-place.place in
    let end : i ≡ length bs = omega arith in
    let last = place_last bs c.args.block.now i c.loop-place-test.false c.loop-place.invariant in
    subst (λ (n : ℕ). with_block c.args.block.now bs
    ≡ take n bs ++ c.args.block.now ∷ drop n bs) end last

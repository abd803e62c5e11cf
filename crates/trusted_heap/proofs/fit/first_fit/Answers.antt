use Rattle.std.proofs.Common.{◌∙◌, sym, subst, Option, ℕ, IfSome, ◌+◌, ◌≤◌, ◌^◌}
use Rattle.trusted_heap.proofs.FitLemmas.{fit_next, none_in_none, sooner_low}
use Rattle.trusted_heap.proofs.fit.first_fit.Goals as goal

pub loop-heap-init : goal.loop-heap-init
loop-heap-init c = (sym (none_in_none c.args.blocks.now c.args.count), tt)

pub loop-heap-preserved : goal.loop-heap-preserved
loop-heap-preserved c = (
  c.sooner-lowest.ensures
      ∙ fit_next c.args.heaps.now c.args.blocks.now c.loop-heap.heap-index c.args.count _
      c.loop-heap.lowest c.fit_in.result c.loop-heap-test.true c.loop-heap.invariant.0
      c.fit_in.ensures.first,
  subst (λ (o : Option ℕ). IfSome o (λ unit. unit + c.args.count ≤ 2 ^ 43))
      (sym c.sooner-lowest.ensures)
      (sooner_low c.args.count c.loop-heap.lowest c.fit_in.result c.loop-heap.invariant.1
      c.fit_in.ensures.low),
)

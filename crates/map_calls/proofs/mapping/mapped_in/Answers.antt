use Rattle.std.proofs.Common.{◌≡◌, ℕ, ◌+◌, ◌-◌, is_some, sym, ap, ◌∙◌, arith}
use Rattle.erim_defs.specs.Machine.Count.{count_below}
use Rattle.map_calls.proofs.CountedLemmas.{count_start, count_next, count_to}
use Rattle.erim_defs.specs.Machine.Access.{rights_in}
use Rattle.map_calls.proofs.mapping.mapped_in.Goals as goal

pub loop-page-init : goal.loop-page-init
loop-page-init g c =
    let rights = rights_in (g.P.Memory.seen c.args.pages.now) in
    let first = c.args.range.now.first in
    record {
      from = omega arith;
      low = omega arith;
      few = omega arith;
      counted = count_start first (λ k. is_some (rights (first + k)));
    }

pub loop-page-preserved : goal.loop-page-preserved
loop-page-preserved g c =
    let rights = rights_in (g.P.Memory.seen c.args.pages.now) in
    let first = c.args.range.now.first in
    let l = c.loop-page in
    let from = l.invariant.from in
    let few = l.invariant.few in
    let page = c.in-Some.ensures in
    let low = page.0 in
    let high = page.1 in
    let end = c.end.ensures.end in
    record {
      from = omega (arith, from, low);
      low = omega (arith, high, end);
      few = omega (arith, few, from, low);
      counted = ap (λ (n : ℕ). n + 1) l.invariant.counted
          ∙ sym (count_next rights first l.from c.in-Some.page from low page.2 page.3);
    }

pub returns-clause-count : goal.returns-clause-count
returns-clause-count g c =
    let rights = rights_in (g.P.Memory.seen c.args.pages.now) in
    let range = c.args.range.now in
    let l = c.loop-page in
    let end = c.end.ensures.end in
    let e : range.first + range.count - range.first ≡ range.count = omega arith in
    l.invariant.counted
    ∙ sym (count_to rights range.first l.from (range.first + range.count) l.invariant.from
    l.invariant.low (λ q x y. c.in_default.ensures q x (omega (arith, y, end))))
    ∙ ap (λ n. count_below n (λ k. is_some (rights (range.first + k)))) e

use Rattle.std.proofs.Common.{◌≡◌, ◌∙◌, ◌==◌, not, sym, ap, arith, rules, subst, List}
use Rattle.std.specs.List.{All, filter}
use Rattle.std.proofs.lemmas.Fn.{filter_same}
use Rattle.std.proofs.lemmas.List.Elements.{All-filter}
use Rattle.erim_defs.specs.declared.trust.Span.{Span}
use Rattle.erim_defs.specs.Machine.HeapCalls.{without_block}
use Rattle.trusted_heap.specs.Blocks.{AreApart, IsWithin}
use Rattle.trusted_heap.specs.HeapValue.{HeapValue}
use Rattle.trusted_heap.proofs.BlockLemmas.{apart_without, without_is}
use Rattle.trusted_heap.proofs.heap.Heap.remove.Goals as goal

-- what `retain` keeps
kept : (c : goal.After-retain)
    → c.retain.new.self.items
    ≡ filter (λ (b : Span). not (b.start == c.args.addr)) c.self.inside.blocks.items
kept c = filter_same _ _ _ (λ x b f' k. search rules) _ _ c.retain.ensures.filtered

pub invariant_of-self : goal.invariant_of-self
invariant_of-self c =
    let old = c.self.inside.blocks.items in
    let heaps = c.self.inside.heaps.items in
    let bound = c.retain.ensures.bound in
    let same = c.retain.ensures.capacity in
    let few = c.self.invariant.few in
    let room = c.self.invariant.room in
    record {
      room = omega (arith, room, same);
      few = omega (arith, few, bound);
      apart = subst (λ (xs : List Span). AreApart 0 xs)
          (without_is c.args.addr old ∙ sym (kept c))
          (apart_without 0 c.args.addr old c.self.invariant.apart);
      within = subst (λ (xs : List Span). All (IsWithin heaps) xs) (sym (kept c))
          (All-filter (λ (b : Span). not (b.start == c.args.addr)) (IsWithin heaps) old
          c.self.invariant.within);
      low = c.self.invariant.low;
    }

pub returns : goal.returns
returns c =
    let given : List Span → HeapValue =
    λ bs. record { heaps = c.self.inside.heaps.items; blocks = bs } in
    ap given (kept c ∙ sym (without_is c.args.addr c.self.inside.blocks.items))
    ∙ ap (λ (v : HeapValue). let w : HeapValue =
    record v { blocks = without_block c.args.addr v.blocks } in w) c.self.view_is

use Rattle.std.proofs.Common.{◌≡◌, ◌∙◌, sym, ap, arith, subst, List, length, is_ok, vec_len, false}
use Rattle.std.specs.List.{All, insert, list_any}
use Rattle.erim_defs.specs.declared.trust.Span.{Span}
use Rattle.erim_defs.specs.Machine.HeapCalls.{meets, with_block}
use Rattle.trusted_heap.specs.Blocks.{AreApart, IsWithin}
use Rattle.trusted_heap.specs.HeapValue.{HeapValue}
use Rattle.trusted_heap.proofs.BlockLemmas.{all_with, apart_with, one_more, put_items, within_low}
use Rattle.trusted_heap.proofs.heap.Heap.add.Goals as goal

pub invariant_of-self : goal.invariant_of-self
invariant_of-self c =
    let block = c.args.block in
    let old = c.self.inside.blocks.items in
    let heaps = c.self.inside.heaps.items in
    let within : IsWithin heaps block =
    subst (λ (v : HeapValue). IsWithin v.heaps block) (sym c.self.view_is) c.requires.within in
    let free : list_any (meets block) old ≡ false =
    subst (λ (v : HeapValue). list_any (meets block) v.blocks ≡ false) (sym c.self.view_is)
    c.requires.free in
    let low = within_low heaps block c.self.invariant.low within in
    let few = c.requires.room in
    let seen = ap (λ v. length v.blocks) c.self.view_is in
    let value = ap length c.deref.ensures.value in
    let len = c.deref.ensures.len in
    let room = c.self.invariant.room in
    let ok = c.insert.ensures.succeeds (omega (arith, few, seen, value, len, room)) in
    let items = put_items c.insert.result old c.insert.new.self.items c.place_of-place.result block
    ok c.insert.ensures.items in
    let place : with_block block old ≡ insert old c.place_of-place.result block =
    subst (λ (xs : List Span). with_block block xs ≡ insert xs c.place_of-place.result block)
    c.deref.ensures.value c.place_of-place.ensures.place in
    let kept = c.insert.ensures.capacity in
    let more = one_more (is_ok c.insert.result) (vec_len c.self.inside.blocks)
    (vec_len c.insert.new.self) c.insert.ensures.len in
    record {
      room = omega (arith, room, kept);
      few = omega (arith, more, few, seen, value, len);
      apart = subst (λ (xs : List Span). AreApart 0 xs) (place ∙ sym items)
          (apart_with 0 block old (omega arith) c.requires.some low free c.self.invariant.apart);
      within = subst (λ (xs : List Span). All (IsWithin heaps) xs) (place ∙ sym items)
          (all_with (IsWithin heaps) block old within c.self.invariant.within);
      low = c.self.invariant.low;
    }

use Rattle.std.proofs.Common.{sym, rules, subst, List}
use Rattle.std.specs.List.{All}
use Rattle.std.proofs.lemmas.List.Elements.{All-nil}
use Rattle.erim_defs.specs.declared.trust.Span.{Span}
use Rattle.trusted_heap.specs.Blocks.{AreApart, EndsLow, IsWithin}
use Rattle.trusted_heap.proofs.BlockLemmas.{none_apart}
use Rattle.trusted_heap.proofs.heap.Heap.new.Goals as goal

pub invariant_of-result : goal.invariant_of-result
invariant_of-result c =
    let heaps = c.in_ok-from_slice.field-0.items in
    let none = c.in_ok-with_capacity.ensures.items in
    record {
      room = search rules;
      few = search rules;
      apart = subst (λ (xs : List Span). AreApart 0 xs) (sym none) (none_apart 0);
      within = subst (λ (xs : List Span). All (IsWithin heaps) xs) (sym none)
          (All-nil (IsWithin heaps));
      low = subst (λ (xs : List Span). All EndsLow xs) (sym c.in_ok-from_slice.ensures.items)
          c.requires;
    }

use Rattle.std.proofs.Common.{◌≡◌, ◌∙◌, ◌<◌, sym, subst}
use Rattle.erim_defs.specs.Machine.Start.{page_key}
use Rattle.erim_defs.proofs.AcceptedLemmas.{page_key_few}
use Rattle.elf_image.proofs.ImageLemmas.{key_in_heap, key_outside}
use Rattle.elf_image.proofs.image.Image.page_key.Goals as goal

pub returns-then-is_in_heap-clause-value : goal.returns-then-is_in_heap-clause-value
returns-then-is_in_heap-clause-value c =
    key_in_heap c.args.self.now c.args.page (rw (← c.self.view_is) c.self.invariant.accepted)
    (sym c.is_in_heap.ensures ∙ c.if-is_in_heap.true)

pub returns-else-is_in_heap-clause-value : goal.returns-else-is_in_heap-clause-value
returns-else-is_in_heap-clause-value c =
    key_outside c.args.self.now c.args.page c.key_beside-key.result _ _
    (rw (← c.self.view_is) c.self.invariant.accepted)
    (sym c.is_in_heap.ensures ∙ c.if-is_in_heap.false) c.key_beside-key.ensures
    (c.as_slice.ensures.value ∙ rw (← c.self.view_is) c.self.invariant.trusted_is)
    (c.as_slice-2.ensures.value ∙ rw (← c.self.view_is) c.self.invariant.keys_is)

pub returns-else-is_in_heap-clause-bound : goal.returns-else-is_in_heap-clause-bound
returns-else-is_in_heap-clause-bound c =
    let is : c.key_beside-key.result ≡ page_key c.args.self.now c.args.page =
    key_outside c.args.self.now c.args.page c.key_beside-key.result _ _
    (rw (← c.self.view_is) c.self.invariant.accepted)
    (sym c.is_in_heap.ensures ∙ c.if-is_in_heap.false) c.key_beside-key.ensures
    (c.as_slice.ensures.value ∙ rw (← c.self.view_is) c.self.invariant.trusted_is)
    (c.as_slice-2.ensures.value ∙ rw (← c.self.view_is) c.self.invariant.keys_is) in
    subst (λ k. k < 16) (sym is) (page_key_few c.args.self.now c.args.page
    (rw (← c.self.view_is) c.self.invariant.accepted))

use Rattle.std.proofs.Common.{◌≡◌, ◌<◌, ◌∙◌, ap, sym, refl, eqb, ℕ, get_or, List, length}
use Rattle.std.proofs.Common.{subst, ne_eqb, ◌≢◌}
use Rattle.erim_defs.specs.Inspection.Trust.{TrustValue, entry_key}
use Rattle.erim_defs.proofs.DomainLemmas.{beside_next}
use Rattle.erim_defs.proofs.trust.Trust.entry_key.Goals as goal

pub loop-place-init : goal.loop-place-init
unfolding entry_key
loop-place-init c = refl

pub loop-place-preserved : goal.loop-place-preserved
loop-place-preserved c =
    let same : c.deref-entry-items.result.now ≡ c.args.self.now.entries =
    c.deref-entry-items.ensures.value ∙ ap (λ (t : TrustValue). t.entries) c.self.view_is in
    sym (beside_next
    (λ entry. eqb entry c.args.addr) 0 c.args.self.now.entries c.args.self.now.entry_keys
    c.loop-place.place
    (subst (λ (xs : List ℕ). c.loop-place.place < length xs) same c.loop-place-test.true)
    (ne_eqb _ _ (subst (λ (xs : List ℕ). get_or xs c.loop-place.place 0 ≢ c.args.addr) same
    c.if-entry-addr.false)))
    ∙ c.loop-place.invariant

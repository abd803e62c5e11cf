-- How mapping and unmapping change the count of mapped pages.
use Rattle.std.proofs.Common.{◌≡◌, ◌≢◌, ◌<◌, ◌^◌, ℕ, zero, suc, ◌+◌, Bool, false, cond, eqb, Some}
use Rattle.std.proofs.Common.{None, Option, is_some, refl, sym, ap, subst, ◌∙◌, arith, inl, inr}
use Rattle.std.proofs.Common.{eqb-true, ne_eqb, eq-eqb}
use Rattle.std.proofs.lemmas.Bool.{cases_Bool, eqb-false}
use Rattle.erim_defs.specs.declared.machine.Rights.{Rights}
use Rattle.erim_defs.specs.Machine.Pages.{RightsMap, with_value_at}
use Rattle.erim_defs.specs.Machine.Count.{count_below, mapped_pages, last_page, last_page_is}

pub count_same : (n : ℕ) (f g : ℕ → Bool) → ((k : ℕ) → k < n → f k ≡ g k)
    → count_below n f ≡ count_below n g
unfolding count_below
count_same zero f g h = refl
count_same (suc n) f g h = let e = h n (omega arith) in
    rw (e, count_same n f g (λ k l. h k (omega arith))) refl

-- two tests that differ at one place
pub count_at : (n q : ℕ) (f g : ℕ → Bool) → q < n → ((k : ℕ) → k ≢ q → f k ≡ g k)
    → count_below n f + cond (g q) 1 0 ≡ count_below n g + cond (f q) 1 0
unfolding count_below
count_at zero q f g l h = absurd (omega arith)
count_at (suc n) q f g l h = elim (cases_Bool (eqb q n)) [
  | inl t ↦ (let same : q ≡ n = eqb-true _ _ t in
      let e : count_below n f ≡ count_below n g = count_same n f g (λ k m. h k (omega arith)) in
      rw same (omega (arith, e)))
  | inr t ↦ (let other : n ≢ q = λ p. eqb-false _ _ t (sym p) in
      let e : f n ≡ g n = h n other in
      let rest = count_at n q f g (let w : q ≢ n = eqb-false _ _ t in omega (arith, w)) h in
      rw e (omega (arith, rest)))
]

pub count_none : (n : ℕ) (f : ℕ → Bool) → ((k : ℕ) → f k ≡ false) → count_below n f ≡ 0
unfolding count_below
count_none zero f h = refl
count_none (suc n) f h = rw (h n) (let e = count_none n f h in omega (arith, e))

-- what mapping and unmapping a page does to the count
pub mapped_put : (m : RightsMap) (q : ℕ) (x : Option Rights) → q < 2 ^ 35
    → mapped_pages (with_value_at m q x) + cond (is_some (m q)) 1 0
    ≡ mapped_pages m + cond (is_some x) 1 0
unfolding mapped_pages
mapped_put m q x l =
    let low : q < last_page = subst (λ (n : ℕ). q < n) (sym last_page_is) l in
    let here : with_value_at m q x q ≡ x = rw (eq-eqb q q refl) refl in
    let e = count_at last_page q (λ k. is_some (with_value_at m q x k)) (λ k. is_some (m k)) low
    (λ k n. rw (ne_eqb k q n) refl) in
    e ∙ ap (λ y. count_below last_page (λ k. is_some (m k)) + cond (is_some y) 1 0) here

pub mapped_none : mapped_pages (λ _. None) ≡ 0
unfolding mapped_pages
mapped_none = count_none last_page (λ _. false) (λ _. refl)

-- a page more
pub mapped_more : (m : RightsMap) (q : ℕ) (r : Rights) → q < 2 ^ 35 → m q ≡ None
    → mapped_pages (with_value_at m q (Some r)) ≡ mapped_pages m + 1
mapped_more m q r low none =
    let e = mapped_put m q (Some r) low in
    let zeros : ℕ = 0 in
    let here : cond (is_some (m q)) 1 zeros ≡ zeros = rw none refl in
    omega (arith, e, here)

-- A walk over the mapped pages of a range changes each page of it.
use Rattle.std.proofs.Common.{◌≡◌, ◌≢◌, ℕ, ◌<◌, ◌≤◌, ◌+◌, ◌/◌, ◌&&◌, Option, None, Bool, true}
use Rattle.std.proofs.Common.{cond, false, nat_lt, nat_le, eqb, eqb-true, refl, sym, ap, ◌∙◌, arith}
use Rattle.std.proofs.Common.{inl, inr}
use Rattle.std.proofs.lemmas.Bool.{cases_Bool, cases_lt, eqb-false}
use Rattle.std.proofs.lemmas.Bool.Decides.{nat_tests}
use Rattle.std.proofs.Math.Path.{fun_ext}
use Rattle.erim_defs.specs.declared.machine.Rights.{Rights}
use Rattle.erim_defs.specs.Machine.Pages.{RightsMap, ByteMap, with_value_at, with_zero_page}
use Rattle.map_calls.specs.Ranges.{rights_within, zeros_within}

-- ---- rights

pub within_inside : (m : RightsMap) (first end q : ℕ) (f : Option Rights → Option Rights)
    → first ≤ q → q < end → rights_within m first end f q ≡ f (m q)
within_inside m first end q f h l = grind (arith, nat_tests)

pub within_behind : (m : RightsMap) (first end q : ℕ) (f : Option Rights → Option Rights)
    → end ≤ q → rights_within m first end f q ≡ m q
within_behind m first end q f h = grind (arith, nat_tests)

-- nothing is changed yet
pub within_none : (m : RightsMap) (first : ℕ) (f : Option Rights → Option Rights)
    → rights_within m first first f ≡ m
within_none m first f = fun_ext (λ q. grind (arith, nat_tests))

-- pages that aren't mapped stay so
pub within_more : (m : RightsMap) (first from end : ℕ) (f : Option Rights → Option Rights)
    → f None ≡ None → first ≤ from → from ≤ end
    → ((q : ℕ) → from ≤ q → q < end → rights_within m first from f q ≡ None)
    → rights_within m first from f ≡ rights_within m first end f
within_more m first from end f none low high h = fun_ext (λ q.
    elim (cases_lt q from) [
      | inl before ↦ grind (arith, nat_tests)
      | inr behind ↦ elim (cases_lt q end) [
        | inl inside ↦ (let unmapped = h q behind inside in
            let old : m q ≡ None = sym (within_behind m first from q f behind) ∙ unmapped in
            unmapped ∙ sym (within_inside m first end q f (omega arith) inside ∙ (ap f old ∙ none)))
        | inr past ↦
            within_behind m first from q f behind ∙ sym (within_behind m first end q f past)
      ]
    ])

-- one page more
pub within_next : (m : RightsMap) (first p : ℕ) (f : Option Rights → Option Rights) → first ≤ p
    → with_value_at (rights_within m first p f) p (f (m p)) ≡ rights_within m first (p + 1) f
within_next m first p f low = fun_ext (λ q. elim (cases_Bool (eqb q p)) [
  | inl t ↦ (let same : q ≡ p = eqb-true _ _ t in
      rw (t, same) (sym (within_inside m first (p + 1) p f (omega arith) (omega arith))))
  | inr n ↦ (let other : q ≢ p = eqb-false _ _ n in rw n (grind (arith, nat_tests, other)))
])

-- the next mapped page is changed
pub within_step : (m : RightsMap) (first from p : ℕ) (f : Option Rights → Option Rights)
    → f None ≡ None → first ≤ from → from ≤ p
    → ((q : ℕ) → from ≤ q → q < p → rights_within m first from f q ≡ None)
    → with_value_at (rights_within m first from f) p (f (m p)) ≡ rights_within m first (p + 1) f
within_step m first from p f none low high h =
    ap (λ n. with_value_at n p (f (m p))) (within_more m first from p f none low high h)
    ∙ within_next m first p f (omega arith)

-- pages that are changed twice
pub within_twice : (m : RightsMap) (first end : ℕ) (x y : Option Rights)
    → rights_within (rights_within m first end (λ _. x)) first end (λ _. y)
    ≡ rights_within m first end (λ _. y)
within_twice m first end x y =
    fun_ext (λ q. twice (nat_le first q && nat_lt q end) x y (m q))
  where
    twice : (b : Bool) (x y z : Option Rights)
        → cond b y (cond b x z) ≡ cond b y z
    twice true x y z = refl
    twice false x y z = refl

-- ---- bytes

pub zeros_twice : (b : ByteMap) (first end : ℕ)
    → zeros_within (zeros_within b first end) first end ≡ zeros_within b first end
zeros_twice b first end = fun_ext (λ a. twice (nat_le first (a / 4096)
    && nat_lt (a / 4096) end) (b a))
  where
    twice : (c : Bool) (x : ℕ) → cond c 0 (cond c 0 x) ≡ cond c 0 x
    twice true x = refl
    twice false x = refl

pub zeros_more : (b : ByteMap) (first from end : ℕ) → first ≤ from → from ≤ end
    → ((a : ℕ) → from ≤ a / 4096 → a / 4096 < end → zeros_within b first from a ≡ 0)
    → zeros_within b first from ≡ zeros_within b first end
zeros_more b first from end low high h = fun_ext (λ a. at a (a / 4096) refl)
  where
    at : (a p : ℕ) → a / 4096 ≡ p → zeros_within b first from a ≡ zeros_within b first end a
    at a p e = elim (cases_lt p from) [
      | inl before ↦ grind (arith, nat_tests)
      | inr behind ↦ elim (cases_lt p end) [
        | inl inside ↦ (let zero = h a (omega arith) (omega arith) in grind (arith, nat_tests))
        | inr past ↦ grind (arith, nat_tests)
      ]
    ]

pub zeros_step : (b : ByteMap) (first from p : ℕ) → first ≤ from → from ≤ p
    → ((a : ℕ) → from ≤ a / 4096 → a / 4096 < p → zeros_within b first from a ≡ 0)
    → with_zero_page (zeros_within b first from) p ≡ zeros_within b first (p + 1)
zeros_step b first from p low high h =
    ap (λ n. with_zero_page n p) (zeros_more b first from p low high h)
    ∙ fun_ext (λ a. at a (a / 4096) refl)
  where
    at : (a q : ℕ) → a / 4096 ≡ q
        → with_zero_page (zeros_within b first p) p a ≡ zeros_within b first (p + 1) a
    at a q e = elim (cases_Bool (eqb q p)) [
      | inl t ↦ (let same : q ≡ p = eqb-true _ _ t in grind (arith, nat_tests))
      | inr n ↦ (let other : q ≢ p = eqb-false _ _ n in grind (arith, nat_tests, other))
    ]

-- Whether a test holds of a number, and the least number of which it holds.
use Rattle.std.proofs.Common.{◌≡◌, ◌<◌, ℕ, zero, suc, Bool, true, false, Option, Some, None, cond}
use Rattle.std.proofs.Common.{refl, subst, arith, inl, inr}
use Rattle.std.proofs.lemmas.Bool.{cases_Bool, cases_lt, or_parts}
use Rattle.erim_defs.specs.Inspection.Code.{or_else}
use Rattle.erim_defs.specs.Machine.Least.{any_below, least_below}

-- ---- of some number

-- of no number
pub any_below_none : (n : ℕ) (test : ℕ → Bool) → ((k : ℕ) → k < n → test k ≡ false)
    → any_below n test ≡ false
unfolding any_below
any_below_none zero test h = refl
any_below_none (suc n) test h =
    rw (h n (omega arith), any_below_none n test (λ k l. h k (omega arith))) refl

-- and the other way
pub any_below_false : (n k : ℕ) (test : ℕ → Bool) → any_below n test ≡ false → k < n
    → test k ≡ false
unfolding any_below
any_below_false zero k test h l = absurd (omega arith)
any_below_false (suc n) k test h l = elim (cases_lt k n) [
  | inl m ↦ any_below_false n k test (or_parts _ _ h).1 m
  | inr m ↦ (let e : k ≡ n = omega arith in rw e (or_parts _ _ h).0)
]

-- of one number
pub any_below_some : (n k : ℕ) (test : ℕ → Bool) → k < n → test k ≡ true → any_below n test ≡ true
any_below_some n k test l t = elim (cases_Bool (any_below n test)) [
  | inl y ↦ y
  | inr f ↦ absurd (let off = any_below_false n k test f l in cc)
]

-- ---- the least number

-- none is found where the test holds of none
pub least_none : (n : ℕ) (test : ℕ → Bool) → ((k : ℕ) → k < n → test k ≡ false)
    → least_below n test ≡ None
unfolding least_below
least_none zero test f = refl
least_none (suc n) test f =
    rw (least_none n test (λ k l. f k (omega arith)), f n (omega arith)) refl

-- and the other way
pub least_never : (n k : ℕ) (test : ℕ → Bool) → least_below n test ≡ None → k < n
    → test k ≡ false
unfolding least_below
least_never zero k test h l = absurd (omega arith)
least_never (suc n) k test h l =
    by (least_below n test) (test n) refl (λ e. least_never n k test e) h
  where
    by : (o : Option ℕ) (b : Bool) → test n ≡ b → (o ≡ None → k < n → test k ≡ false)
        → or_else o (cond b (Some n) None) ≡ None → test k ≡ false
    by (Some p) b e below h = absurd cc
    by None true e below h = absurd cc
    by None false e below h = elim (cases_lt k n) [
      | inl m ↦ below refl m
      | inr m ↦ (let same : n ≡ k = omega arith in subst (λ x. test x ≡ false) same e)
    ]

-- it is found where the test first holds
pub least_found : (n p : ℕ) (test : ℕ → Bool) → p < n → test p ≡ true
    → ((k : ℕ) → k < p → test k ≡ false) → least_below n test ≡ Some p
unfolding least_below
least_found zero p test l t f = absurd (omega arith)
least_found (suc n) p test l t f = elim (cases_lt p n) [
  | inl m ↦ rw (least_found n p test m t f) refl
  | inr m ↦ (let e : p ≡ n = omega arith in
      let none = least_none n test (λ k b. f k (omega arith)) in
      rw (none, ← e, t) refl)
]

-- what is found is below the bound
pub least_low : (n p : ℕ) (test : ℕ → Bool) → least_below n test ≡ Some p → p < n
unfolding least_below
least_low zero p test h = absurd cc
least_low (suc n) p test h =
    by (least_below n test) (test n) (λ q e. least_low n q test e) h
  where
    by : (o : Option ℕ) (b : Bool) → ((q : ℕ) → o ≡ Some q → q < n)
        → or_else o (cond b (Some n) None) ≡ Some p → p < suc n
    by (Some q) b low h = (let same : q ≡ p = cc in
        let l = low q refl in omega (arith, l, same))
    by None true low h = (let same : n ≡ p = cc in omega (arith, same))
    by None false low h = absurd cc

-- and the test holds of it
pub least_holds : (n p : ℕ) (test : ℕ → Bool) → least_below n test ≡ Some p → test p ≡ true
unfolding least_below
least_holds zero p test h = absurd cc
least_holds (suc n) p test h =
    by (least_below n test) (test n) refl (λ q e. least_holds n q test e) h
  where
    by : (o : Option ℕ) (b : Bool) → test n ≡ b → ((q : ℕ) → o ≡ Some q → test q ≡ true)
        → or_else o (cond b (Some n) None) ≡ Some p → test p ≡ true
    by (Some q) b e holds h = (let same : q ≡ p = cc in
        subst (λ k. test k ≡ true) same (holds q refl))
    by None true e holds h = (let same : n ≡ p = cc in subst (λ k. test k ≡ true) same e)
    by None false e holds h = absurd cc

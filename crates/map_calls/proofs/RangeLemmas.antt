-- Tests of the pages of a range.
use Rattle.std.proofs.Common.{◌≡◌, ◌<◌, ◌≤◌, ℕ, zero, suc, ◌+◌, ◌-◌, ◌&&◌, ◌||◌, Bool, true, false}
use Rattle.std.proofs.Common.{nat_lt, nat_le, max, min, refl, sym, ◌∙◌, arith, inl, inr}
use Rattle.std.proofs.lemmas.Bool.{cases_lt, lt-ltb, le-ltb}
use Rattle.std.proofs.lemmas.Bool.Decides.{nat_tests}
use Rattle.erim_defs.specs.Machine.MapCalls.{any_page, PageRange}
use Rattle.erim_defs.specs.Machine.Least.{any_below}
use Rattle.erim_defs.proofs.LeastLemmas.{any_below_none, any_below_some}

swap : (a b x y : Bool) → ((a || b) || (x || y)) ≡ ((a || x) || (b || y))
swap true b x y = refl
swap false true true y = refl
swap false true false y = refl
swap false false x y = refl

-- tests that agree
pub any_below_same : (n : ℕ) (f g : ℕ → Bool) → ((k : ℕ) → k < n → f k ≡ g k)
    → any_below n f ≡ any_below n g
unfolding any_below
any_below_same zero f g h = refl
any_below_same (suc n) f g h =
    rw (h n (omega arith), any_below_same n f g (λ k l. h k (omega arith))) refl

-- either of two tests
pub any_below_either : (n : ℕ) (f g : ℕ → Bool)
    → any_below n (λ k. f k || g k) ≡ (any_below n f || any_below n g)
unfolding any_below
any_below_either zero f g = refl
any_below_either (suc n) f g =
    rw (any_below_either n f g) (swap (f n) (g n) (any_below n f) (any_below n g))

-- ---- of the pages of a range

pub any_page_none : (r : PageRange) (test : ℕ → Bool)
    → ((q : ℕ) → r.first ≤ q → q < r.first + r.count → test q ≡ false) → any_page r test ≡ false
any_page_none r test h =
    any_below_none r.count (λ k. test (r.first + k))
    (λ k l. h (r.first + k) (omega arith) (omega arith))

pub any_page_some : (r : PageRange) (test : ℕ → Bool) (q : ℕ) → r.first ≤ q
    → q < r.first + r.count → test q ≡ true → any_page r test ≡ true
any_page_some r test q low high h =
    any_below_some r.count (q - r.first) (λ k. test (r.first + k)) (omega arith)
    (let e : r.first + (q - r.first) ≡ q = omega arith in rw e h)

pub any_page_same : (r : PageRange) (f g : ℕ → Bool)
    → ((q : ℕ) → r.first ≤ q → q < r.first + r.count → f q ≡ g q) → any_page r f ≡ any_page r g
any_page_same r f g h =
    any_below_same r.count (λ k. f (r.first + k)) (λ k. g (r.first + k))
    (λ k l. h (r.first + k) (omega arith) (omega arith))

-- pages from one on, up to an end
pub any_page_between : (r : PageRange) (low end : ℕ)
    → any_page r (λ q. nat_le low q && nat_lt q end)
    ≡ nat_lt (max low r.first) (min end (r.first + r.count))
any_page_between r low end = elim (cases_lt (max low r.first) (min end (r.first + r.count))) [
  | inl l ↦ any_page_some r (λ q. nat_le low q && nat_lt q end) (max low r.first) (omega arith)
      (omega arith) (grind (arith, nat_tests)) ∙ sym (lt-ltb _ _ l)
  | inr l ↦ any_page_none r (λ q. nat_le low q && nat_lt q end)
      (λ q from to. grind (arith, nat_tests)) ∙ sym (le-ltb _ _ l)
]

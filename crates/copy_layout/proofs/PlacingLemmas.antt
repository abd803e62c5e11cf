-- Which NOPs a region's copy has before it, by trying one number of them after the other.
use Rattle.std.proofs.Common.{◌≡◌, ℕ, ◌<◌, Some, None, true, false, refl, ap}
use Rattle.std.proofs.Common.{inl, inr, subst, sym}
use Rattle.std.proofs.lemmas.Bool.{cases_Bool}
use Rattle.erim_defs.specs.Rewriting.Sites.{Region}
use Rattle.erim_defs.specs.Rewriting.Layout.{Copy, candidate, if_spelled, is_clean, is_spelled}
use Rattle.erim_defs.specs.Rewriting.Layout.{padded_copy}
use Rattle.erim_defs.proofs.LeastLemmas.{least_found, least_none}
use Rattle.copy_layout.specs.Trials.{Trial, ends_trial, placed_in, trial_first, tried_code}

-- the candidate after so many
abbrev pub candidate_in : Trial → Region → ℕ → Copy
candidate_in t r pad = candidate r (trial_first t) pad

-- the first at which the trying ends decides
decides : (t : Trial) (r : Region) (pad : ℕ) → pad < 16 → ends_trial t (candidate_in t r pad) ≡ true
    → ((k : ℕ) → k < pad → ends_trial t (candidate_in t r k) ≡ false)
    → placed_in t r ≡ if_spelled (candidate_in t r pad)
decides t r pad low ends others =
    ap (padded_copy r (trial_first t))
    (least_found 16 pad (λ n. ends_trial t (candidate_in t r n)) low ends others)

unspelled : (k : Copy) → if_spelled k ≡ None → is_spelled k ≡ false
unspelled k none = elim (cases_Bool (is_spelled k)) [
  | inr other ↦ other
  | inl is ↦ absurd (let some = rw is at none in cc)
]

spelled : (k c : Copy) → if_spelled k ≡ Some c → is_spelled k ≡ true
spelled k c some = elim (cases_Bool (is_spelled k)) [
  | inl is ↦ is
  | inr other ↦ absurd (let none = rw other at some in cc)
]

-- it can't be spelled
pub placed_none : (t : Trial) (r : Region) (pad : ℕ) → pad < 16
    → if_spelled (candidate_in t r pad) ≡ None
    → ((k : ℕ) → k < pad → ends_trial t (candidate_in t r k) ≡ false) → placed_in t r ≡ None
placed_none t r pad low none others =
    let k = candidate_in t r pad in
    let not_spelled = unspelled k none in
    let ends : ends_trial t k ≡ true = rw not_spelled refl in
    rw (decides t r pad low ends others) none

-- it is clean
pub placed_clean : (t : Trial) (r : Region) (pad : ℕ) (c : Copy) → pad < 16
    → if_spelled (candidate_in t r pad) ≡ Some c → is_clean (tried_code t c) c ≡ true
    → ((k : ℕ) → k < pad → ends_trial t (candidate_in t r k) ≡ false) → placed_in t r ≡ Some c
placed_clean t r pad c low some clean others =
    let k = candidate_in t r pad in
    let is = spelled k c some in
    let same : k ≡ c = (let e = rw is at some in cc) in
    let here : is_clean (tried_code t k) k ≡ true =
    subst (λ (x : Copy). is_clean (tried_code t x) x ≡ true) (sym same) clean in
    let ends : ends_trial t k ≡ true = rw (is, here) refl in
    rw (decides t r pad low ends others) some

-- it is neither, so the next is tried
pub not_clean : (t : Trial) (r : Region) (pad : ℕ) (c : Copy)
    → if_spelled (candidate_in t r pad) ≡ Some c → is_clean (tried_code t c) c ≡ false
    → ends_trial t (candidate_in t r pad) ≡ false
not_clean t r pad c some unclean =
    let k = candidate_in t r pad in
    let is = spelled k c some in
    let same : k ≡ c = (let e = rw is at some in cc) in
    let here : is_clean (tried_code t k) k ≡ false =
    subst (λ (x : Copy). is_clean (tried_code t x) x ≡ false) (sym same) unclean in
    rw (is, here) refl

-- none is
pub placed_never : (t : Trial) (r : Region)
    → ((k : ℕ) → k < 16 → ends_trial t (candidate_in t r k) ≡ false) → placed_in t r ≡ None
placed_never t r others =
    ap (padded_copy r (trial_first t)) (least_none 16 (λ n. ends_trial t
    (candidate_in t r n)) others)

pub ruleset placed_steps = (placed_none, placed_clean, placed_never)

-- How many pages of a range are mapped.
use Rattle.std.proofs.Common.{◌≡◌, ◌<◌, ◌≤◌, ◌^◌, ℕ, zero, suc, ◌+◌, ◌-◌, Bool, true, false, cond}
use Rattle.std.proofs.Common.{Option, None, IsSome, is_some, refl, ap, ◌∙◌, arith, inl, inr}
use Rattle.std.proofs.lemmas.Bool.{cases_lt}
use Rattle.erim_defs.specs.declared.machine.Rights.{Rights}
use Rattle.erim_defs.specs.Machine.Count.{count_below, mapped_pages}
use Rattle.erim_defs.specs.Machine.Pages.{RightsMap, with_value_at}
use Rattle.erim_defs.proofs.CountLemmas.{mapped_put}
use Rattle.map_calls.specs.Ranges.{rights_within}
use Rattle.map_calls.proofs.WalkLemmas.{within_behind, within_next, within_none}

-- numbers of which the test doesn't hold
pub count_gap : (m n : ℕ) (f : ℕ → Bool) → n ≤ m → ((k : ℕ) → n ≤ k → k < m → f k ≡ false)
    → count_below m f ≡ count_below n f
unfolding count_below
count_gap zero n f l h = let e : n ≡ 0 = omega arith in rw e refl
count_gap (suc m) n f l h = elim (cases_lt m n) [
  | inl full ↦ (let e : n ≡ suc m = omega arith in rw e refl)
  | inr more ↦ (let last : f m ≡ false = h m more (omega arith) in
      let rest = count_gap m n f more (λ k a b. h k a (omega arith)) in
      rw last (omega (arith, rest)))
]

count_last : (n : ℕ) (f : ℕ → Bool) → f n ≡ true → count_below (suc n) f ≡ count_below n f + 1
unfolding count_below
count_last n f h = rw h (omega arith)

pub count_one : (n : ℕ) (f : ℕ → Bool) → f n ≡ true → count_below (n + 1) f ≡ count_below n f + 1
count_one n f h =
    let e : n + 1 ≡ suc n = omega arith in ap (λ k. count_below k f) e ∙ count_last n f h

-- ---- a walk that counts

count_nothing : (f : ℕ → Bool) → 0 ≡ count_below 0 f
unfolding count_below
count_nothing f = refl

pub count_start : (first : ℕ) (f : ℕ → Bool) → 0 ≡ count_below (first - first) f
count_start first f =
    let e : 0 ≡ first - first = omega arith in count_nothing f ∙ ap (λ n. count_below n f) e

pub count_to : (rights : RightsMap) (first from end : ℕ) → first ≤ from → from ≤ end
    → ((q : ℕ) → from ≤ q → q < end → rights q ≡ None)
    → count_below (end - first) (λ k. is_some (rights (first + k)))
    ≡ count_below (from - first) (λ k. is_some (rights (first + k)))
count_to rights first from end low high none =
    count_gap (end - first) (from - first) (λ k. is_some (rights (first + k))) (omega arith)
    (λ k a b. ap is_some (none (first + k) (omega arith) (omega arith)))

pub count_next : (rights : RightsMap) (first from p : ℕ) → first ≤ from → from ≤ p
    → IsSome (rights p) → ((q : ℕ) → from ≤ q → q < p → rights q ≡ None)
    → count_below (p + 1 - first) (λ k. is_some (rights (first + k)))
    ≡ count_below (from - first) (λ k. is_some (rights (first + k))) + 1
count_next rights first from p low high some none =
    let test : ℕ → Bool = λ k. is_some (rights (first + k)) in
    let e : p + 1 - first ≡ p - first + 1 = omega arith in
    let at : first + (p - first) ≡ p = omega arith in
    let one = count_one (p - first) test (ap (λ q. is_some (rights q)) at ∙ some) in
    let gap = count_to rights first from p low high none in
    ap (λ n. count_below n test) e ∙ (one ∙ ap (λ n. n + 1) gap)

-- how many frames a page takes
abbrev frames_of : Option Rights → ℕ
frames_of o = cond (is_some o) 1 0

-- what is unmapped is no longer counted
pub mapped_without : (n : ℕ) (m : RightsMap) (first : ℕ) → first + n ≤ 2 ^ 35
    → mapped_pages (rights_within m first (first + n) (λ _. None))
    + count_below n (λ k. is_some (m (first + k))) ≡ mapped_pages m
unfolding count_below
mapped_without zero m first low =
    let e : first + 0 ≡ first = omega arith in
    let same : rights_within m first (first + 0) (λ _. None) ≡ m =
    ap (λ end. rights_within m first end (λ _. None)) e ∙ within_none m first (λ _. None) in
    let c = ap mapped_pages same in omega (arith, c)
mapped_without (suc n) m first low =
    let p : ℕ = first + n in
    let cleared : RightsMap = rights_within m first p (λ _. None) in
    let e : p + 1 ≡ first + suc n = omega arith in
    let same : with_value_at cleared p None ≡ rights_within m first (first + suc n) (λ _. None) =
    within_next m first p (λ _. None) (omega arith)
    ∙ ap (λ end. rights_within m first end (λ _. None)) e in
    let put = mapped_put cleared p None (omega arith) in
    let here : cleared p ≡ m p = within_behind m first p p (λ _. None) (omega arith) in
    let one : frames_of (cleared p) ≡ frames_of (m p) = ap frames_of here in
    let rest = mapped_without n m first (omega arith) in
    let c = ap mapped_pages same in
    omega (arith, put, one, rest, c)

-- The lowest free pages.
use Rattle.std.proofs.Common.{◌≡◌, ◌<◌, ◌≤◌, ◌^◌, ℕ, ◌+◌, ◌&&◌, not, nat_le, Bool, true, false}
use Rattle.std.proofs.Common.{Option, Some, None, IsSome, is_some, refl, sym, ap, subst, arith}
use Rattle.std.proofs.Common.{inl, inr}
use Rattle.std.proofs.lemmas.Bool.{cases_lt, lt-ltb, le-ltb}
use Rattle.std.proofs.lemmas.Bool.Decides.{nat_tests}
use Rattle.erim_defs.specs.declared.linux.TheConstants.{LOWEST_FREE_PAGE}
use Rattle.erim_defs.specs.declared.machine.Rights.{Rights}
use Rattle.erim_defs.specs.Machine.Count.{last_page, last_page_is}
use Rattle.erim_defs.specs.Machine.MapCalls.{PageRange, any_page, is_free_range, ends_past_user}
use Rattle.erim_defs.specs.Machine.MapCalls.{lowest_free}
use Rattle.erim_defs.specs.Machine.Pages.{RightsMap}
use Rattle.erim_defs.proofs.LeastLemmas.{least_found, least_none}
use Rattle.map_calls.proofs.RangeLemmas.{any_page_none, any_page_some}

pub not_mapped : (o : Option Rights) → IsSome o → o ≡ None → ⊥
not_mapped o h e = let none = ap is_some e in cc

not_any : (a b c : Bool) → c ≡ true → (a && (not b && not c)) ≡ false
not_any true true c h = refl
not_any true false c h = rw h refl
not_any false b c h = refl

not_past : (a b c : Bool) → b ≡ true → (a && (not b && not c)) ≡ false
not_past true b c h = rw h refl
not_past false b c h = refl

all_three : (a b c : Bool) → a ≡ true → b ≡ false → c ≡ false → (a && (not b && not c)) ≡ true
all_three a b c h i j = rw (h, i, j) refl

-- a mapped page takes the pages before it
pub taken_by : (rights : RightsMap) (count k p : ℕ) → k ≤ p → p < k + count → IsSome (rights p)
    → is_free_range rights (record { first = k; count = count }) ≡ false
taken_by rights count k p low high some =
    let r : PageRange = record { first = k; count = count } in
    not_any (nat_le LOWEST_FREE_PAGE k) (ends_past_user r) (any_page r (λ q. is_some (rights q)))
    (any_page_some r (λ q. is_some (rights q)) p low high some)

past_end : (rights : RightsMap) (count k : ℕ) → 2 ^ 35 < k + count
    → is_free_range rights (record { first = k; count = count }) ≡ false
past_end rights count k past =
    let r : PageRange = record { first = k; count = count } in
    not_past (nat_le LOWEST_FREE_PAGE k) (ends_past_user r) (any_page r (λ q. is_some (rights q)))
    (lt-ltb (2 ^ 35) (k + count) past)

pub free_from : (rights : RightsMap) (count first : ℕ) → LOWEST_FREE_PAGE ≤ first
    → first + count ≤ 2 ^ 35 → ((q : ℕ) → first ≤ q → q < first + count → rights q ≡ None)
    → is_free_range rights (record { first = first; count = count }) ≡ true
free_from rights count first low high none =
    let r : PageRange = record { first = first; count = count } in
    let from : nat_le LOWEST_FREE_PAGE first ≡ true = grind (arith, nat_tests) in
    all_three (nat_le LOWEST_FREE_PAGE first) (ends_past_user r) (any_page r (λ q. is_some
    (rights q))) from
    (le-ltb (2 ^ 35) (first + count) high)
    (any_page_none r (λ q. is_some (rights q)) (λ q a b. ap is_some (none q a b)))

pub lowest_found : (rights : RightsMap) (count first : ℕ) → 0 < count → first + count ≤ 2 ^ 35
    → is_free_range rights (record { first = first; count = count }) ≡ true
    → ((k : ℕ) → k < first → is_free_range rights (record { first = k; count = count }) ≡ false)
    → lowest_free rights count ≡ Some first
lowest_found rights count first some high free taken =
    let l : first < 2 ^ 35 = omega arith in
    let low : first < last_page = subst (λ (n : ℕ). first < n) (sym last_page_is) l in
    least_found last_page first (λ p. is_free_range rights
    (record { first = p; count = count })) low free
    taken

pub lowest_none : (rights : RightsMap) (count first : ℕ) → 2 ^ 35 < first + count
    → ((k : ℕ) → k < first → is_free_range rights (record { first = k; count = count }) ≡ false)
    → lowest_free rights count ≡ None
lowest_none rights count first past taken =
    least_none last_page (λ p. is_free_range rights (record { first = p; count = count })) (λ k l.
    elim (cases_lt k first) [
      | inl before ↦ taken k before
      | inr behind ↦ past_end rights count k (omega arith)
    ])

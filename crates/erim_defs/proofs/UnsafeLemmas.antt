-- The unsafe list, from what a scan finds.
use Rattle.std.proofs.Common.{◌∷◌, ◌≡◌, ◌≢◌, ℕ, zero, suc, ◌<◌, ◌≤◌, ◌^◌, [], ◌++◌, append_assoc}
use Rattle.std.proofs.Common.{length, ap, ◌+◌, Option, Some, None, eqb, refl, sym, ◌∙◌, arith, inl}
use Rattle.std.proofs.Common.{inr, eqb-true}
use Rattle.std.proofs.lemmas.Bool.{cases_Bool, eqb-false, cases_lt}
use Rattle.std.proofs.lemmas.List.{append-nil, length-append}
use Rattle.erim_defs.specs.declared.found.Found.{Found}
use Rattle.erim_defs.specs.Inspection.Code.{Code}
use Rattle.erim_defs.specs.Inspection.Occurrence.{occurrence_at}
use Rattle.erim_defs.specs.Inspection.Safe.{is_safe, unless_safe, unsafe_at}
use Rattle.erim_defs.specs.Inspection.Unsafe.{option_list, list_below, top, top_is, unsafe_list}
use Rattle.erim_defs.specs.Inspection.Unsafe.{IsFirstUnsafe, first_below, first_unsafe}
use Rattle.erim_defs.proofs.OccurrenceLemmas.{Agrees, occurrence_agrees, occurrence_place}
use Rattle.erim_defs.proofs.OccurrenceLemmas.{occurrence_few}
use Rattle.erim_defs.proofs.SafeLemmas.{safe_agrees}
use Rattle.erim_defs.specs.Inspection.Trust.{TrustValue}
use Rattle.erim_defs.proofs.FaultLemmas.{or_none}

-- nothing is found where the function gives nothing
pub list_below_gap : {X : Type 0} (n m : ℕ) (f : ℕ → Option X) → m ≤ n
    → ((a : ℕ) → m ≤ a → a < n → f a ≡ None) → list_below n f ≡ list_below m f
unfolding list_below
list_below_gap zero m f le none = let e : m ≡ 0 = omega arith in rw e refl
list_below_gap (suc n) m f le none =
    elim (cases_Bool (eqb m (suc n))) [
      | inl same ↦ rw (eqb-true _ _ same) refl
      | inr other ↦
          let ne : m ≢ suc n = eqb-false _ _ other in
          let here : f n ≡ None = none n (omega (arith, ne)) (omega arith) in
          rw here (append-nil (list_below n f)
          ∙ list_below_gap n m f (omega (arith, ne)) (λ a l h. none a l (omega arith)))
    ]

-- one more number
pub list_below_next : {X : Type 0} (n : ℕ) (f : ℕ → Option X)
    → list_below (suc n) f ≡ list_below n f ++ option_list (f n)
unfolding list_below
list_below_next n f = refl

-- nothing is found at all
pub list_below_none : {X : Type 0} (n : ℕ) (f : ℕ → Option X) → ((a : ℕ) → a < n → f a ≡ None)
    → list_below n f ≡ []
unfolding list_below
list_below_none n f none = list_below_gap n 0 f (omega arith) (λ a _ high. none a high)

-- where nothing occurs nothing is unsafe
pub unsafe_absent : (trust : TrustValue) (c : Code) (a : ℕ) → occurrence_at c a ≡ None
    → unsafe_at trust c a ≡ None
unfolding unsafe_at
unsafe_absent trust c a none = rw none refl

-- the list, from all that is found below an address and nothing above it
pub unsafe_list_from_below : (trust : TrustValue) (c : Code) (n : ℕ) → n ≤ 2 ^ 47
    → ((a : ℕ) → n ≤ a → occurrence_at c a ≡ None)
    → list_below n (unsafe_at trust c) ≡ unsafe_list trust c
unfolding unsafe_list
unsafe_list_from_below trust c n le none =
    sym (list_below_gap top n (unsafe_at trust c) (omega (arith, top_is))
    (λ a low _. unsafe_absent trust c a (none a low)))

-- what is unsafe at an address is decided by 64 bytes
pub unsafe_agrees : (trust : TrustValue) (c d : Code) (a : ℕ) → Agrees c d a (a + 64)
    → unsafe_at trust c a ≡ unsafe_at trust d a
unfolding unsafe_at
unsafe_agrees trust c d a same = rw (← there) (by (occurrence_at c a) refl)
  where
    there : occurrence_at c a ≡ occurrence_at d a
    there = occurrence_agrees c d a (λ b low high. same b low (omega arith))

    by : (o : Option Found) → occurrence_at c a ≡ o → unless_safe trust c o ≡ unless_safe trust d o
    by None is = refl
    by (Some o) is =
        let place : o.at ≡ a = occurrence_place c a o is in
        let few = occurrence_few c a o is in
        let safe : is_safe trust c o ≡ is_safe trust d o =
        safe_agrees trust c d o (λ b low high. same b (omega arith) (omega (arith, few.few))) in
        rw safe refl

-- what is found below an address is what is found below an earlier one, and what another function
-- gives from there on
pub list_below_split : {X : Type 0} (n m : ℕ) (f g : ℕ → Option X) → m ≤ n
    → ((a : ℕ) → a < m → g a ≡ None) → ((a : ℕ) → m ≤ a → a < n → f a ≡ g a)
    → list_below n f ≡ list_below m f ++ list_below n g
unfolding list_below
list_below_split zero m f g le none same = let e : m ≡ 0 = omega arith in rw e refl
list_below_split (suc n) m f g le none same =
    elim (cases_Bool (eqb m (suc n))) [
      | inl end ↦
          let e : suc n ≡ m = sym (eqb-true _ _ end) in
          let nothing : list_below (suc n) g ≡ [] =
          list_below_none (suc n) g (λ a low. none a (omega arith)) in
          rw (← e) (sym (ap (λ gs. list_below (suc n) f ++ gs) nothing
          ∙ append-nil (list_below (suc n) f)))
      | inr other ↦
          let ne : m ≢ suc n = eqb-false _ _ other in
          let here : f n ≡ g n = same n (omega (arith, ne)) (omega arith) in
          rw (
            here,
            list_below_split n m f g (omega (arith, ne)) none
                (λ a low high. same a low (omega arith)),
          ) (append_assoc (list_below m f)
          (list_below n g) (option_list (g n)))
    ]

listed_few : {X : Type 0} (o : Option X) → length (option_list o) ≤ 1
listed_few None = omega arith
listed_few (Some x) = omega arith

-- no more is found than there are numbers
pub length-list_below : {X : Type 0} (n : ℕ) (f : ℕ → Option X) → length (list_below n f) ≤ n
unfolding list_below
length-list_below zero f = omega arith
length-list_below (suc n) f =
    omega (
      arith,
      length-append (list_below n f) (option_list (f n)),
      listed_few (f n),
      length-list_below n f,
    )

-- ---- the first of all

-- no first one: none at all
pub first_below_none : {X : Type 0} (n : ℕ) (f : ℕ → Option X) (k : ℕ) → first_below n f ≡ None
    → k < n → f k ≡ None
unfolding first_below
first_below_none zero f k h l = absurd (omega arith)
first_below_none (suc n) f k h l =
    let p = or_none (first_below n f) (f n) h in
    elim (cases_lt k n) [
      | inl m ↦ first_below_none n f k p.0 m
      | inr m ↦ (let e : k ≡ n = omega arith in rw e p.1)
    ]

-- none at all: no first one
pub none_first_below : {X : Type 0} (n : ℕ) (f : ℕ → Option X) → ((k : ℕ) → k < n → f k ≡ None)
    → first_below n f ≡ None
unfolding first_below
none_first_below zero f h = refl
none_first_below (suc n) f h =
    rw (none_first_below n f (λ k l. h k (omega arith))) (h n (omega arith))

first_below_at : (n : ℕ) (f : ℕ → Option Found) (a : ℕ) (o : Found) → a < n → f a ≡ Some o
    → ((b : ℕ) → b < a → f b ≡ None) → first_below n f ≡ Some o
unfolding first_below
first_below_at zero f a o low is none = absurd (omega arith)
first_below_at (suc n) f a o low is none = elim (cases_lt a n) [
  | inl before ↦ rw (first_below_at n f a o before is none) refl
  | inr past ↦
      (let here : a ≡ n = omega arith in
      let nothing : first_below n f ≡ None =
      none_first_below n f (λ b before. none b (omega arith)) in
      let there : f n ≡ Some o = rw here at is in
      rw (nothing, there) refl)
]

-- the first from address 0 on is the first of all
pub first_is : (trust : TrustValue) (c : Code) (r : Option Found)
    → IsFirstUnsafe trust c 0 (2 ^ 47) r → r ≡ first_unsafe trust c
unfolding first_unsafe
first_is trust c None none =
    sym (none_first_below top (unsafe_at trust c)
    (λ a low. none a (omega arith) (omega (arith, top_is, low))))
first_is trust c (Some o) is =
    sym (first_below_at top (unsafe_at trust c) o.at o (omega (arith, top_is, is.1)) is.2
    (λ a before. is.3 a (omega arith) before))

-- ---- a walk, from each to the next after it

-- the list below the address after what was found has it as its last element
pub walk_next : (trust : TrustValue) (c : Code) (from : ℕ) (o : Found)
    → IsFirstUnsafe trust c from (2 ^ 47) (Some o)
    → list_below (o.at + 1) (unsafe_at trust c) ≡ list_below from (unsafe_at trust c) ++ o ∷ []
walk_next trust c from o is =
    let f = unsafe_at trust c in
    let behind : o.at + 1 ≡ suc o.at = omega arith in
    let gap : list_below o.at f ≡ list_below from f = list_below_gap o.at from f is.0 is.3 in
    rw behind (list_below_next o.at f ∙ rw (gap, is.2) refl)

-- where nothing is found the list below the address is the whole one
pub walk_ends : (trust : TrustValue) (c : Code) (from : ℕ) → from ≤ 2 ^ 47
    → IsFirstUnsafe trust c from (2 ^ 47) None
    → list_below from (unsafe_at trust c) ≡ unsafe_list trust c
unfolding unsafe_list
walk_ends trust c from user none =
    sym (list_below_gap top from (unsafe_at trust c) (omega (arith, top_is))
    (λ a low high. none a low (omega (arith, top_is))))

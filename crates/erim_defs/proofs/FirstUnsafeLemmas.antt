-- The first unsafe sequence of a code whose bytes other than 0 lie in a small range.
use Rattle.std.proofs.Common.{◌≡◌, ◌≢◌, ℕ, zero, suc, ◌+◌, ◌/◌, ◌<◌, ◌≤◌, ◌^◌, List, length, Option}
use Rattle.std.proofs.Common.{Some, None, Bool, true, false, eqb, refl, ◌∙◌, arith, inl, inr}
use Rattle.std.proofs.Common.{eqb-true}
use Rattle.std.specs.Prelude.{◌==◌, if◌then◌else◌}
use Rattle.std.proofs.lemmas.Bool.{cases_Bool, eqb-false}
use Rattle.erim_defs.specs.Inspection.Code.{Code, has, or_else, laid_at}
use Rattle.erim_defs.specs.Inspection.Occurrence.{occurrence_at}
use Rattle.erim_defs.specs.Machine.Pages.{RightsMap, ByteMap, is_published, code_with}
use Rattle.erim_defs.specs.Inspection.Safe.{unsafe_at}
use Rattle.erim_defs.specs.Inspection.Trust.{TrustValue}
use Rattle.erim_defs.specs.Inspection.Unsafe.{first_below, first_unsafe, top, top_is}
use Rattle.erim_defs.proofs.CodeLemmas.{laid_at_before, laid_at_past}
use Rattle.erim_defs.proofs.UnsafeLemmas.{none_first_below}

-- what a function gives first at the n numbers from low on
unfoldable pub first_from : {X : Type 0} → ℕ → ℕ → (ℕ → Option X) → Option X
first_from low zero f = None
first_from low (suc n) f = or_else (first_from low n f) (f (low + n))

or_else_none : {X : Type 0} (o : Option X) → or_else o None ≡ o
or_else_none None = refl
or_else_none (Some x) = refl

first_below_range :
    {X : Type 0} (n low : ℕ) (f : ℕ → Option X) → ((a : ℕ) → a < low → f a ≡ None)
    → first_below (low + n) f ≡ first_from low n f
unfolding first_below first_from
first_below_range zero low f none =
    let e : low + 0 ≡ low = omega arith in rw e (none_first_below low f none)
first_below_range (suc n) low f none =
    let e : low + suc n ≡ suc (low + n) = omega arith in
    rw (e, first_below_range n low f none) refl

first_below_gap :
    {X : Type 0} (n m : ℕ) (f : ℕ → Option X) → m ≤ n → ((a : ℕ) → m ≤ a → a < n → f a ≡ None)
    → first_below n f ≡ first_below m f
unfolding first_below
first_below_gap zero m f le none = let e : m ≡ 0 = omega arith in rw e refl
first_below_gap (suc n) m f le none =
    elim (cases_Bool (eqb m (suc n))) [
      | inl same ↦ rw (eqb-true _ _ same) refl
      | inr other ↦
          let ne : m ≢ suc n = eqb-false _ _ other in
          let here : f n ≡ None = none n (omega (arith, ne)) (omega arith) in
          let below : first_below n f ≡ first_below m f =
          first_below_gap n m f (omega (arith, ne)) (λ a l h. none a l (omega arith)) in
          rw here (or_else_none (first_below n f) ∙ below)
    ]

unsafe_not_first :
    (trust : TrustValue) (c : Code) (a : ℕ) → has (c a) 0x0F ≡ false → unsafe_at trust c a ≡ None
unfolding unsafe_at occurrence_at
unsafe_not_first trust c a h = rw h refl

-- no sequence begins outside the range
pub first_unsafe_in : (trust : TrustValue) (c : Code) (low n : ℕ) → low + n ≤ 2 ^ 47
    → ((a : ℕ) → a < low → has (c a) 0x0F ≡ false)
    → ((a : ℕ) → low + n ≤ a → has (c a) 0x0F ≡ false)
    → first_unsafe trust c ≡ first_from low n (unsafe_at trust c)
unfolding first_unsafe
first_unsafe_in trust c low n le before behind =
    first_below_gap top (low + n) (unsafe_at trust c) (omega (arith, top_is))
    (λ a l h. unsafe_not_first trust c a (behind a l))
    ∙ first_below_range n low (unsafe_at trust c) (λ a l. unsafe_not_first trust c a (before a l))

-- a byte, and 0 where there is none
abbrev pub or_zero : Option ℕ → ℕ
or_zero None = 0
or_zero (Some x) = x

-- these bytes from a place on, and zeros elsewhere
abbrev pub bytes_from : ℕ → List ℕ → ByteMap
bytes_from base bytes = λ a. or_zero (laid_at base bytes a)

-- the code of published pages with one more
code_with_zero :
    (rights : RightsMap) (q base : ℕ) (bytes : List ℕ) (a : ℕ) → laid_at base bytes a ≡ None
    → has (code_with rights (bytes_from base bytes) q a) 0x0F ≡ false
code_with_zero rights q base bytes a none =
    rw none (by (a / 4096 == q) (is_published (rights (a / 4096))))
  where
    by : (x y : Bool) → has (if x then Some 0 else if y then Some 0 else None) 0x0F ≡ false
    by true y = refl
    by false true = refl
    by false false = refl

pub first_unsafe_with :
    (trust : TrustValue) (rights : RightsMap) (q base : ℕ) (bytes : List ℕ)
    → base + length bytes ≤ 2 ^ 47
    → first_unsafe trust (code_with rights (bytes_from base bytes) q)
    ≡ first_from base (length bytes) (unsafe_at trust (code_with rights (bytes_from base bytes) q))
first_unsafe_with trust rights q base bytes le =
    first_unsafe_in trust (code_with rights (bytes_from base bytes) q) base (length bytes) le
    (λ a l. code_with_zero rights q base bytes a (laid_at_before base a bytes l))
    (λ a l. code_with_zero rights q base bytes a (laid_at_past base a bytes l))

-- bytes that are laid at an address
pub first_unsafe_laid :
    (trust : TrustValue) (base : ℕ) (bytes : List ℕ) → base + length bytes ≤ 2 ^ 47
    → first_unsafe trust (laid_at base bytes)
    ≡ first_from base (length bytes) (unsafe_at trust (laid_at base bytes))
first_unsafe_laid trust base bytes le =
    first_unsafe_in trust (laid_at base bytes) base (length bytes) le
    (λ a l. rw (laid_at_before base a bytes l) refl)
    (λ a l. rw (laid_at_past base a bytes l) refl)

-- Code that lost bytes: it has no more unsafe sequences.
use Rattle.std.proofs.Common.{◌≡◌, ℕ, suc, ◌+◌, ◌⊎◌, Bool, true, false, cond, List, []}
use Rattle.std.proofs.Common.{◌∷◌, Option, Some, None, is_some, refl, sym, inl, inr}
use Rattle.std.proofs.lemmas.Bool.{cases_Bool, and_parts, and_from}
use Rattle.erim_defs.specs.declared.found.Found.{Found}
use Rattle.erim_defs.specs.Inspection.Check.{check_of}
use Rattle.erim_defs.specs.Inspection.Code.{Code}
use Rattle.erim_defs.specs.Inspection.Occurrence.{occurrence_at}
use Rattle.erim_defs.specs.Inspection.Safe.{fits, opens_gate, is_safe, unless_safe, unsafe_at}
use Rattle.erim_defs.specs.Inspection.Trust.{TrustValue}
use Rattle.erim_defs.specs.Inspection.Unsafe.{first_unsafe, top}
use Rattle.erim_defs.proofs.OccurrenceLemmas.{occurrence_same, occurrence_there}
use Rattle.erim_defs.proofs.UnsafeLemmas.{none_first_below, first_below_none}

-- c is d, but for bytes that are absent
abbrev pub Loses : Code → Code → Type 0
Loses c d = (x : ℕ) → (c x ≡ d x) ⊎ (c x ≡ None)

-- a byte that is still there is as it was
pub there_same : (c d : Code) (x : ℕ) → Loses c d → is_some (c x) ≡ true → c x ≡ d x
there_same c d x less there =
    elim (less x) [ inl e ↦ e | inr e ↦ absurd (let k : false ≡ true = rw e at there in cc) ]

-- an occurrence is one of the other code too
occurrence_kept : (c d : Code) (a : ℕ) (o : Found) → Loses c d → occurrence_at c a ≡ Some o
    → occurrence_at d a ≡ Some o
occurrence_kept c d a o less h =
    occurrence_same d c a o h
    (λ x low high. sym (there_same c d x less (occurrence_there c a o h x low high)))

-- fewer bytes contradict less
pub fits_loses : (c d : Code) (a : ℕ) (check : List ℕ) → Loses c d → fits d a check ≡ true
    → fits c a check ≡ true
unfolding fits
fits_loses c d a [] less h = refl
fits_loses c d a (x ∷ xs) less h =
    and_from _ _ (elim (less a) [
      | inl e ↦ rw e (and_parts _ _ h).0
      | inr e ↦
          rw e refl
    ]) (fits_loses c d (suc a) xs less (and_parts _ _ h).1)

-- what is safe in the other is safe in this one
pub safe_loses : (trust : TrustValue) (c d : Code) (o : Found) → Loses c d
    → is_safe trust d o ≡ true → is_safe trust c o ≡ true
safe_loses trust c d o less h = elim (cases_Bool (opens_gate trust o.kind (o.at + o.len))) [
  | inl gate ↦ rw gate refl
  | inr shut ↦ rw shut (fits_loses c d (o.at + o.len) (check_of trust o.kind (o.at + o.len)) less
      (rw shut at h))
]

-- nothing but a safe occurrence is passed over
pub cond_safe : (b : Bool) (o : Found) → cond b None (Some o) ≡ None → b ≡ true
cond_safe true o h = refl
cond_safe false o h = absurd cc

-- a lost byte makes nothing unsafe at an address
pub unsafe_loses : (trust : TrustValue) (c d : Code) (a : ℕ) → Loses c d
    → unsafe_at trust d a ≡ None
    → unsafe_at trust c a ≡ None
unfolding unsafe_at
unsafe_loses trust c d a less h = by (occurrence_at c a) refl
  where
    by : (o : Option Found) → occurrence_at c a ≡ o → unless_safe trust c o ≡ None
    by None e = refl
    by (Some o) e =
        let there : occurrence_at d a ≡ Some o = occurrence_kept c d a o less e in
        let k : unless_safe trust d (Some o) ≡ None = rw there at h in
        rw (safe_loses trust c d o less (cond_safe (is_safe trust d o) o k)) refl

-- code that lost bytes has no first unsafe sequence where there was none
pub first_unsafe_loses : (trust : TrustValue) (c d : Code) → Loses c d → first_unsafe trust d ≡ None
    → first_unsafe trust c ≡ None
unfolding first_unsafe
first_unsafe_loses trust c d less h =
    none_first_below top (unsafe_at trust c)
    (λ a l. unsafe_loses trust c d a less (first_below_none top (unsafe_at trust d) a h l))

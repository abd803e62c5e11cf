-- The first unsafe sequence, by a scan.
use Rattle.std.proofs.Common.{◌≡◌, ℕ, ◌+◌, ◌-◌, ◌≤◌, ◌<◌, Some, None, true, false, refl, arith, inl}
use Rattle.std.proofs.Common.{inr}
use Rattle.std.proofs.lemmas.Bool.{cases_lt}
use Rattle.erim_defs.specs.declared.found.Found.{Found}
use Rattle.erim_defs.specs.Inspection.Code.{Code}
use Rattle.erim_defs.specs.Inspection.Occurrence.{IsFirstFrom, occurrence_at}
use Rattle.erim_defs.specs.Inspection.Safe.{is_safe, unsafe_at}
use Rattle.erim_defs.specs.Inspection.Trust.{TrustValue}
use Rattle.erim_defs.specs.Inspection.Unsafe.{NoneUnsafe, IsFirstUnsafe}
use Rattle.erim_defs.proofs.UnsafeLemmas.{unsafe_absent}

unsafe_there : (trust : TrustValue) (c : Code) (o : Found) → occurrence_at c o.at ≡ Some o
    → is_safe trust c o ≡ false → unsafe_at trust c o.at ≡ Some o
unfolding unsafe_at
unsafe_there trust c o there other = rw there (rw other refl)

safe_there : (trust : TrustValue) (c : Code) (o : Found) → occurrence_at c o.at ≡ Some o
    → is_safe trust c o ≡ true → unsafe_at trust c o.at ≡ None
unfolding unsafe_at
safe_there trust c o there safe = rw there (rw safe refl)

-- before the next sequence nothing is unsafe
scan_before : (trust : TrustValue) (c : Code) (low from : ℕ) (o : Found)
    → NoneUnsafe trust c low from → IsFirstFrom c from (Some o) → NoneUnsafe trust c low o.at
scan_before trust c low from o so_far is a l h = elim (cases_lt a from) [
  | inl before ↦ so_far a l before
  | inr past ↦ unsafe_absent trust c a (is.2 a past h)
]

-- nor up to it where it is safe
pub scan_passes : (trust : TrustValue) (c : Code) (base low place : ℕ) (o : Found) → base ≤ o.at
    → NoneUnsafe trust c low (base + place) → IsFirstFrom c (base + place) (Some o)
    → is_safe trust c o ≡ true → NoneUnsafe trust c low (base + (o.at - base + 1))
scan_passes trust c base low place o inside so_far is safe a l h = elim (cases_lt a o.at) [
  | inl before ↦ scan_before trust c low (base + place) o so_far is a l before
  | inr past ↦
      (let here : a ≡ o.at = omega arith in
      rw here (safe_there trust c o is.1 safe))
]

-- the scan stops at the first that isn't
pub scan_stops : (trust : TrustValue) (c : Code) (base low place high : ℕ) (o : Found)
    → low ≤ base + place → o.at < high → NoneUnsafe trust c low (base + place)
    → IsFirstFrom c (base + place) (Some o) → is_safe trust c o ≡ false
    → IsFirstUnsafe trust c low high (Some o)
scan_stops trust c base low place high o ahead under so_far is other = (
  omega (arith, ahead, is.0),
  under,
  unsafe_there trust c o is.1 other,
  scan_before trust c low
      (base + place) o so_far is,
)

-- where no sequence is left nothing is unsafe
pub scan_ends : (trust : TrustValue) (c : Code) (base low place high : ℕ)
    → NoneUnsafe trust c low (base + place) → IsFirstFrom c (base + place) None
    → NoneUnsafe trust c low high
scan_ends trust c base low place high so_far none a l h = elim (cases_lt a (base + place)) [
  | inl before ↦ so_far a l before
  | inr past ↦ unsafe_absent trust c a (none a past)
]

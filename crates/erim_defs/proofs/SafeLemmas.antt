-- A check that is compared byte by byte.
use Rattle.std.proofs.Common.{◌≡◌, ℕ, suc, ◌+◌, ◌<◌, List, [], ◌∷◌, length, get_or, drop, Bool}
use Rattle.std.proofs.Common.{true, false, ◌&&◌, ◌≤◌, lit≤, refl, arith}
use Rattle.std.proofs.Math.Seq.{drop-cons}
use Rattle.std.proofs.Math.ListN.{drop_of_length-le}
use Rattle.erim_defs.specs.Inspection.Code.{Code, allows}
use Rattle.erim_defs.specs.declared.found.SeqKind.{SeqKind}
use Rattle.erim_defs.specs.declared.found.SeqKind.TheVariants.{Wrpkru, Xrstor}
use Rattle.erim_defs.specs.declared.found.Found.{Found}
use Rattle.erim_defs.specs.Inspection.Safe.{fits, opens_gate, is_safe}
use Rattle.erim_defs.proofs.OccurrenceLemmas.{Agrees}
use Rattle.erim_defs.specs.Inspection.Trust.{TrustValue}
use Rattle.erim_defs.specs.Inspection.Check.{check_of}

-- the byte at i decides, and then the rest
pub fits_step : (c : Code) (a i : ℕ) (check : List ℕ) → i < length check → (allowed : Bool)
    → allows (c (a + i)) (get_or check i 0) ≡ allowed
    → fits c (a + i) (drop i check) ≡ (allowed && fits c (a + (i + 1)) (drop (i + 1) check))
unfolding fits
fits_step c a i check lt allowed e =
    let more : i + 1 ≡ suc i = omega arith in
    let next : suc (a + i) ≡ a + suc i = omega arith in
    rw (more, drop-cons check i 0, e, next) refl

-- after the last byte nothing is left to compare
pub fits_nothing : (c : Code) (a i : ℕ) (check : List ℕ) → length check ≤ i
    → fits c a (drop i check) ≡ true
unfolding fits
fits_nothing c a i check past = rw (drop_of_length-le check past) refl

-- a check is short
pub length-check_of : (trust : TrustValue) (kind : SeqKind) (next : ℕ)
    → length (check_of trust kind next) ≤ 14
unfolding check_of
length-check_of trust Wrpkru next = lit≤ tt
length-check_of trust Xrstor next = lit≤ tt

-- an entry after an occurrence makes it safe
pub safe_by_gate : (trust : TrustValue) (c : Code) (o : Found) (next : ℕ) → next ≡ o.at + o.len
    → opens_gate trust o.kind next ≡ true → is_safe trust c o ≡ true
safe_by_gate trust c o next e gate = let opened : opens_gate trust o.kind (o.at + o.len) ≡ true =
    rw e at gate in rw opened refl

-- and without one its check decides
pub safe_by_check : (trust : TrustValue) (c : Code) (o : Found) (next : ℕ) → next ≡ o.at + o.len
    → opens_gate trust o.kind next ≡ false
    → fits c next (check_of trust o.kind next) ≡ is_safe trust c o
safe_by_check trust c o next e gate = let shut : opens_gate trust o.kind (o.at + o.len) ≡ false =
    rw e at gate in rw (e, shut) refl

-- a string fits two codes alike that agree where it is laid
pub fits_agrees : (c d : Code) (a : ℕ) (check : List ℕ) → Agrees c d a (a + length check)
    → fits c a check ≡ fits d a check
unfolding fits
fits_agrees c d a [] same = refl
fits_agrees c d a (x ∷ xs) same =
    let rest : fits c (suc a) xs ≡ fits d (suc a) xs =
    fits_agrees c d (suc a) xs (λ b low high. same b (omega arith) (omega arith)) in
    rw (same a (omega arith) (omega arith), rest) refl

-- an occurrence is as safe in one as in the other
pub safe_agrees : (trust : TrustValue) (c d : Code) (o : Found)
    → Agrees c d o.at (o.at + (o.len + 14)) → is_safe trust c o ≡ is_safe trust d o
safe_agrees trust c d o same =
    let short = length-check_of trust o.kind (o.at + o.len) in
    let fit : fits c (o.at + o.len) (check_of trust o.kind (o.at + o.len))
    ≡ fits d (o.at + o.len) (check_of trust o.kind (o.at + o.len)) =
    fits_agrees c d (o.at + o.len) (check_of trust o.kind (o.at + o.len))
    (λ a low high. same a (omega arith) (omega (arith, short, high))) in
    rw fit refl

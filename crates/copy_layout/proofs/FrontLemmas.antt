-- Sequences by the bytes from an address on, and that none touches some bytes.
use Rattle.std.proofs.Common.{◌≡◌, ℕ, zero, suc, ◌+◌, ◌-◌, ◌<◌, ◌≤◌, ◌&&◌, ◌∙◌, List, take}
use Rattle.std.proofs.Common.{Option, Some, None, is_some, Bool, true, false, not, nat_lt}
use Rattle.std.proofs.Common.{refl, sym, ap, subst, arith, inl, inr}
use Rattle.std.proofs.lemmas.Bool.{cases_lt}
use Rattle.std.proofs.lemmas.List.{get_or-take, length-take}
use Rattle.std.proofs.lemmas.Option.{slice_get-get_or}
use Rattle.erim_defs.specs.declared.found.Found.{Found}
use Rattle.erim_defs.specs.Inspection.Code.{Code, laid_at}
use Rattle.erim_defs.specs.Inspection.Occurrence.{are_present, byte_or_zero, occurrence_at}
use Rattle.erim_defs.specs.Inspection.Occurrence.{xrstor_len}
use Rattle.erim_defs.specs.Rewriting.Layout.{goes_past, is_untouched, none_from, reaches}
use Rattle.erim_defs.proofs.CodeLemmas.{laid_at_place}
use Rattle.erim_defs.proofs.OccurrenceLemmas.{Agrees, AsWrpkru, AsXrstor, OccursAs}
use Rattle.erim_defs.proofs.OccurrenceLemmas.{occurrence_agrees}
use Rattle.erim_defs.proofs.OccurrenceLemmas.{occurrence_facts, occurrence_from, occurrence_inside}
use Rattle.erim_defs.proofs.OccurrenceLemmas.{occurrence_same, occurrence_there, occurrence_view}
use Rattle.copy_layout.specs.declared.front.Front.{Front}
use Rattle.copy_layout.specs.Fronts.{IsFront}

-- ---- a code from an address on

abbrev shifted : Code → ℕ → Code
shifted c a = λ k. c (a + k)

moved : ℕ → Found → Found
moved a o = record { at = a; len = o.len; kind = o.kind }

shifted_present : (c : Code) (a b n : ℕ)
    → are_present c (a + b) n ≡ are_present (shifted c a) b n
unfolding are_present
shifted_present c a b zero = refl
shifted_present c a b (suc n) =
    let next : suc (a + b) ≡ a + suc b = omega arith in
    rw next (ap (λ (x : Bool). is_some (c (a + b)) && x) (shifted_present c a (suc b) n))

-- what occurs there
to_shifted : (c : Code) (a : ℕ) (o : Found) → occurrence_at c a ≡ Some o
    → occurrence_at (shifted c a) 0 ≡ Some (moved 0 o)
unfolding moved
to_shifted c a o h = let w = occurrence_view c a o h in
    occurrence_from (shifted c a) 0 (moved 0 o) (record {
      first = (let here : a + 0 ≡ a = omega arith in rw here w.first);
      rest = by w.rest;
    })
  where
    by : OccursAs c a o → OccursAs (shifted c a) 0 (moved 0 o)
    by (AsWrpkru second third is) = AsWrpkru second third (ap (moved 0) is)
    by (AsXrstor m second third memory there is) =
        let n : ℕ = xrstor_len m (byte_or_zero (c (a + 3))) in
        let here : a + 0 ≡ a = omega arith in
        let present = rw here at (shifted_present c a 0 n) in
        AsXrstor m second third memory (sym present ∙ there) (ap (moved 0) is)

from_shifted : (c : Code) (a : ℕ) (o : Found) → occurrence_at (shifted c a) 0 ≡ Some o
    → occurrence_at c a ≡ Some (moved a o)
unfolding moved
from_shifted c a o h = let w = occurrence_view (shifted c a) 0 o h in
    occurrence_from c a (moved a o) (record {
      first = (let here : a + 0 ≡ a = omega arith in rw here at w.first);
      rest = by w.rest;
    })
  where
    by : OccursAs (shifted c a) 0 o → OccursAs c a (moved a o)
    by (AsWrpkru second third is) = AsWrpkru second third (ap (moved a) is)
    by (AsXrstor m second third memory there is) =
        let n : ℕ = xrstor_len m (byte_or_zero (c (a + 3))) in
        let here : a + 0 ≡ a = omega arith in
        let present = rw here at (shifted_present c a 0 n) in
        AsXrstor m second third memory (present ∙ there) (ap (moved a) is)

-- ---- by the bytes from there on

front_bytes : Front → List ℕ
front_bytes f = take f.len f.bytes

front_agrees : (c : Code) (a : ℕ) (f : Front) → IsFront c a f → (n : ℕ) → n ≤ f.len
    → Agrees (laid_at 0 (take f.len f.bytes)) (shifted c a) 0 (0 + n)
front_agrees c a f is n low k above below =
    let bytes = take f.len f.bytes in
    let long = length-take f.len f.bytes in
    let room = is.room in
    let few = is.few in
    laid_at_place 0 k k bytes (omega arith)
    ∙ slice_get-get_or bytes k 0 (omega (arith, long, room, few))
    ∙ ap Some (get_or-take f.len f.bytes k 0 (omega arith))
    ∙ sym (is.there k (omega arith))

front_to : (c : Code) (a : ℕ) (f : Front) (o : Found) → IsFront c a f
    → occurrence_at (shifted c a) 0 ≡ Some o
    → occurrence_at (laid_at 0 (take f.len f.bytes)) 0 ≡ Some o
front_to c a f o is h = elim (cases_lt f.len o.len) [
  | inl short ↦ absurd (let few = (occurrence_facts (shifted c a) 0 o h).few in
      let some = occurrence_there (shifted c a) 0 o h f.len (omega arith) (omega arith) in
      let none = is.behind (omega arith) in
      let no = rw none at some in
      cc)
  | inr long ↦ occurrence_same (laid_at 0 (take f.len f.bytes)) (shifted c a) 0 o h
      (front_agrees c a f is o.len long)
]

front_from : (c : Code) (a : ℕ) (f : Front) (o : Found) → IsFront c a f
    → occurrence_at (laid_at 0 (take f.len f.bytes)) 0 ≡ Some o
    → occurrence_at (shifted c a) 0 ≡ Some o
front_from c a f o is h =
    let bytes = take f.len f.bytes in
    let place = (occurrence_facts (laid_at 0 bytes) 0 o h).place in
    let here = subst (λ (x : ℕ). occurrence_at (laid_at 0 bytes) x ≡ Some o) (sym place) h in
    let inside = occurrence_inside 0 bytes o here in
    let long = length-take f.len f.bytes in
    let low : o.len ≤ f.len = omega (arith, inside.high, long) in
    let same = front_agrees c a f is o.len low in
    occurrence_same (shifted c a) (laid_at 0 bytes) 0 o h (λ k x y. sym (same k x y))

-- none stands there
pub reaches_none : (c : Code) (low a : ℕ) (f : Front) → IsFront c a f
    → occurrence_at (laid_at 0 (take f.len f.bytes)) 0 ≡ None → reaches c low a ≡ false
reaches_none c low a f is none = by (occurrence_at c a) refl
  where
    by : (o : Option Found) → occurrence_at c a ≡ o → goes_past low o ≡ false
    by None e = refl
    by (Some o) e = absurd (let no = front_to c a f (moved 0 o) is (to_shifted c a o e) in cc)

-- or one that is as long as this
pub reaches_some : (c : Code) (low a : ℕ) (f : Front) (o : Found) → IsFront c a f
    → occurrence_at (laid_at 0 (take f.len f.bytes)) 0 ≡ Some o
    → reaches c low a ≡ nat_lt low (a + o.len)
unfolding moved
reaches_some c low a f o is some =
    ap (goes_past low) (from_shifted c a o (front_from c a f o is some))

-- each begins with 0F
pub reaches_off : (c : Code) (low a : ℕ) (x : Option ℕ) → c a ≡ x → (x ≡ Some 0x0F → ⊥)
    → reaches c low a ≡ false
reaches_off c low a x here other = by (occurrence_at c a) refl
  where
    by : (o : Option Found) → occurrence_at c a ≡ o → goes_past low o ≡ false
    by None e = refl
    by (Some o) e = absurd (other (sym here ∙ (occurrence_facts c a o e).first))

-- ---- none from an address on

none_step : (a n : ℕ) (test : ℕ → Bool)
    → none_from a (suc n) test ≡ (not (test a) && none_from (suc a) n test)
unfolding none_from
none_step a n test = refl

pub none_next : (a high : ℕ) (test : ℕ → Bool) → a < high
    → none_from a (high - a) test ≡ (not (test a) && none_from (a + 1) (high - (a + 1)) test)
none_next a high test lt =
    let count : high - a ≡ suc (high - (a + 1)) = omega arith in
    let next : suc a ≡ a + 1 = omega arith in
    ap (λ (n : ℕ). none_from a n test) count
    ∙ none_step a (high - (a + 1)) test
    ∙ ap (λ (x : ℕ). not (test a) && none_from x (high - (a + 1)) test) next

pub none_end : (a high : ℕ) (test : ℕ → Bool) → high ≤ a → none_from a (high - a) test ≡ true
unfolding none_from
none_end a high test ends = let none : high - a ≡ 0 = omega arith in rw none refl

none_same : (a n : ℕ) (f g : ℕ → Bool) → ((k : ℕ) → a ≤ k → k < a + n → f k ≡ g k)
    → none_from a n f ≡ none_from a n g
unfolding none_from
none_same a zero f g same = refl
none_same a (suc n) f g same = rw (
  same a (omega arith) (omega arith),
  none_same (suc a) n f g (λ k low high. same k (omega arith) (omega arith)),
) refl

-- codes that agree round some bytes
pub untouched_same : (c d : Code) (low high : ℕ) → Agrees c d (low - 8) (high + 16)
    → is_untouched c low high ≡ is_untouched d low high
unfolding is_untouched
untouched_same c d low high same =
    none_same (low - 8) (high - (low - 8)) (reaches c low) (reaches d low)
    (λ a above below. ap (goes_past low) (occurrence_agrees c d a
    (λ k x y. same k (omega arith) (omega arith))))

pub ruleset reaches_steps = (reaches_none, reaches_some, reaches_off)

pub ruleset none_steps = (none_next, none_end)

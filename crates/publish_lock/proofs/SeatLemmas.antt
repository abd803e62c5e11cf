-- One more seat.
use Rattle.std.proofs.Common.{◌≡◌, ◌≢◌, ◌+◌, ◌++◌, ◌∷◌, ◌∙◌, ◌&&◌, ◌==◌, ℕ, List, [], length, Bool}
use Rattle.std.proofs.Common.{true, refl, ap, arith, sym, subst, suc, zero}
use Rattle.std.proofs.Common.{eq-eqb}
use Rattle.std.proofs.lemmas.Bool.Decides.{nat_tests}
use Rattle.std.proofs.lemmas.List.Elements.{All-append}
use Rattle.std.specs.Prelude.{All}
use Rattle.publish_lock.specs.SeatValue.{SeatValue}
use Rattle.publish_lock.specs.Seats.{are_new}

new_number : (k : ℕ) (seat : SeatValue) (rest : Bool)
    → ((seat.number == k) && (seat.steps == 0) && (seat.mark == 0) && rest) ≡ true
    → seat.number ≡ k
new_number k seat rest h = grind (arith, nat_tests)

new_steps : (k : ℕ) (seat : SeatValue) (rest : Bool)
    → ((seat.number == k) && (seat.steps == 0) && (seat.mark == 0) && rest) ≡ true
    → seat.steps ≡ 0
new_steps k seat rest h = grind (arith, nat_tests)

new_mark : (k : ℕ) (seat : SeatValue) (rest : Bool)
    → ((seat.number == k) && (seat.steps == 0) && (seat.mark == 0) && rest) ≡ true
    → seat.mark ≡ 0
new_mark k seat rest h = grind (arith, nat_tests)

new_rest : (k : ℕ) (seat : SeatValue) (rest : Bool)
    → ((seat.number == k) && (seat.steps == 0) && (seat.mark == 0) && rest) ≡ true
    → rest ≡ true
new_rest k seat rest h = grind (arith, nat_tests)

new_and : (k : ℕ) (seats : List SeatValue) (seat : SeatValue) → are_new k seats ≡ true
    → seat.number ≡ k + length seats → seat.steps ≡ 0 → seat.mark ≡ 0
    → are_new k (seats ++ seat ∷ []) ≡ true
new_and k [] seat h number steps mark =
    rw (
      eq-eqb seat.number k (omega (arith, number)),
      eq-eqb seat.steps 0 steps,
      eq-eqb seat.mark 0 mark,
    ) refl
new_and k (x ∷ seats) seat h number steps mark =
    let r = new_and (k + 1) seats seat (new_rest k x (are_new (k + 1) seats) h)
    (omega (arith, number)) steps mark in
    rw (
      eq-eqb x.number k (new_number k x (are_new (k + 1) seats) h),
      eq-eqb x.steps 0 (new_steps k x (are_new (k + 1) seats) h),
      eq-eqb x.mark 0 (new_mark k x (are_new (k + 1) seats) h),
    ) r

pub new_more : (k : ℕ) (old new : List SeatValue) (seat : SeatValue) → new ≡ old ++ seat ∷ []
    → are_new k old ≡ true → seat.number ≡ k + length old → seat.steps ≡ 0 → seat.mark ≡ 0
    → are_new k new ≡ true
new_more k old new seat is h number steps mark =
    ap (are_new k) is ∙ new_and k old seat h number steps mark

-- what holds of each seat and of one more
pub all_more : (P : SeatValue → Type 0) (old new : List SeatValue) (seat : SeatValue)
    → new ≡ old ++ seat ∷ [] → All P old → P seat → All P new
all_more P old new seat is h one =
    subst (All P) (sym is) (All-append P old (seat ∷ []) h (alone P seat one))
  where
    alone : (P : SeatValue → Type 0) (seat : SeatValue) → P seat → All P (seat ∷ [])
    alone P seat one zero d low = one
    alone P seat one (suc k) d low = absurd (omega (arith, low))

-- a mark tells that the process is over, of each seat and of one more
pub marks_more : (over other : Bool) (old new : List SeatValue) (seat : SeatValue)
    → new ≡ old ++ seat ∷ [] → other ≡ over
    → All (λ (s : SeatValue). s.mark ≢ 0 → other ≡ true) old → (seat.mark ≢ 0 → over ≡ true)
    → All (λ (s : SeatValue). s.mark ≢ 0 → over ≡ true) new
marks_more over other old new seat is same h one =
    all_more (λ (s : SeatValue). s.mark ≢ 0 → over ≡ true) old new seat is
    (λ k d low mark. sym same ∙ h k d low mark) one

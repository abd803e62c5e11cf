-- The first function that has an address.
use Rattle.std.proofs.Common.{◌≡◌, ◌<◌, ◌≤◌, ◌∙◌, ℕ, suc, ◌+◌, arith, true, false, Bool, List, []}
use Rattle.std.proofs.Common.{◌∷◌, length}
use Rattle.std.proofs.Common.{drop, get_or, refl, ap}
use Rattle.std.proofs.Math.Seq.{drop-cons}
use Rattle.std.proofs.Math.ListN.{drop_of_length-le}
use Rattle.erim_defs.specs.Rewriting.Sites.{Function, first_of, in_function, insns_in, insns_of}

found_at : (t : Function → Bool) (f : Function) (fs : List Function) → t f ≡ true
    → insns_in (first_of t (f ∷ fs)) ≡ insns_of f
unfolding first_of
found_at t f fs h = rw h refl

passed_over : (t : Function → Bool) (f : Function) (fs : List Function) → t f ≡ false
    → insns_in (first_of t (f ∷ fs)) ≡ insns_in (first_of t fs)
unfolding first_of
passed_over t f fs h = rw h refl

pub first_next : (a k : ℕ) (fs : List Function) (d : Function) → k < length fs
    → in_function a (get_or fs k d) ≡ false
    → insns_in (first_of (in_function a) (drop k fs))
    ≡ insns_in (first_of (in_function a) (drop (k + 1) fs))
first_next a k fs d lt h =
    let one : k + 1 ≡ suc k = omega arith in
    rw one (ap (λ xs. insns_in (first_of (in_function a) xs)) (drop-cons fs k d lt)
    ∙ passed_over (in_function a) (get_or fs k d) (drop (suc k) fs) h)

pub first_here : (a k : ℕ) (fs : List Function) (d : Function) → k < length fs
    → in_function a (get_or fs k d) ≡ true
    → insns_in (first_of (in_function a) (drop k fs)) ≡ insns_of (get_or fs k d)
first_here a k fs d lt h =
    ap (λ xs. insns_in (first_of (in_function a) xs)) (drop-cons fs k d lt)
    ∙ found_at (in_function a) (get_or fs k d) (drop (suc k) fs) h

pub first_none : (a k : ℕ) (fs : List Function) → length fs ≤ k
    → insns_in (first_of (in_function a) (drop k fs)) ≡ []
unfolding first_of
first_none a k fs le =
    ap (λ xs. insns_in (first_of (in_function a) xs)) (drop_of_length-le fs le)

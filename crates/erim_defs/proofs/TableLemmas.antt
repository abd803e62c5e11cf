-- Facts of all numbers below a bound, computed by the checker.
use Rattle.std.proofs.Common.{◌≡◌, ℕ, zero, suc, ◌<◌, Bool, true, false, List, [], ◌∷◌, arith, inl}
use Rattle.std.proofs.Common.{inr}
use Rattle.std.proofs.lemmas.Bool.{cases_lt}

-- the values of a function at the numbers below n
abbrev pub table : {A : Type 0} → (ℕ → A) → ℕ → List A
table f zero = []
table f (suc n) = f n ∷ table f n

-- two functions with one table are one
pub tabulated : {A : Type 0} (f g : ℕ → A) (n : ℕ) → table f n ≡ table g n → (k : ℕ) → k < n
    → f k ≡ g k
tabulated f g zero e k h = absurd (omega arith)
tabulated f g (suc n) e k h =
    elim (cases_lt k n) [
      | inl lt ↦ tabulated f g n (cc) k lt
      | inr le ↦ let same : k ≡ n = omega arith in let here : f n ≡ g n = cc in rw same here
    ]

-- the values of a function of truth values
abbrev pub bools : {A : Type 0} → (Bool → A) → List A
bools f = f true ∷ f false ∷ []

pub by_bools : {A : Type 0} (f g : Bool → A) → bools f ≡ bools g → (b : Bool) → f b ≡ g b
by_bools f g e true = cc
by_bools f g e false = cc

-- When reading answers a part of an encoding exactly. Own.
use Rattle.std.specs.Prelude.{◌≡◌, ℕ, ◌+◌, ◌<◌, ◌≤◌, List, ◌++◌, length, Result, Ok, Err}
use Rattle.erim_defs.specs.declared.grammar.Stop.{Stop}
use Rattle.erim_defs.specs.declared.grammar.Stop.TheVariants.{Undefined, Short}

-- an encoding of the part meets these bytes: it begins them, or they begin it
pub record Meets {A : Type 0} (R : List ℕ → A
    → Type 0) (bytes encoding : List ℕ) (a : A) : Type 0 where
  pub is_encoding : R encoding a
  pub after : List ℕ
  pub rest : List ℕ
  pub same : bytes ++ after ≡ encoding ++ rest

-- an encoding begins the bytes, and rest comes after it
pub record Begins {A : Type 0} (R : List ℕ → A
    → Type 0) (bytes : List ℕ) (a : A) (rest : List ℕ) : Type 0 where
  pub encoding : List ℕ
  pub is_encoding : R encoding a
  pub parts : bytes ≡ encoding ++ rest

-- the bytes begin encodings of the part, and the shortest of these has n more
pub record Wants {A : Type 0} (R : List ℕ → A → Type 0) (bytes : List ℕ) (n : ℕ) : Type 0 where
  pub more : 0 < n
  pub tail : List ℕ
  pub value : A
  pub is_encoding : R (bytes ++ tail) value
  pub long : length tail ≡ n
  pub least : (encoding : List ℕ) (a : A) → Meets R bytes encoding a
      → length bytes + n ≤ length encoding

-- what reading gave is an encoding that begins the bytes, and a stop is right
abbrev pub Exact : {A : Type 0} → (List ℕ → A → Type 0) → List ℕ → Result (A × List ℕ) Stop → Type 0
Exact R bytes (Ok x) = Begins R bytes x.0 x.1
Exact {A} R bytes (Err Undefined) = (encoding : List ℕ) (a : A) → Meets R bytes encoding a → ⊥
Exact R bytes (Err (Short n)) = Wants R bytes n

-- no encoding begins another, and an encoding has one meaning
pub record IsFree {A : Type 0} (R : List ℕ → A → Type 0) : Type 0 where
  pub one : (t u : List ℕ) (a b : A) (x y : List ℕ) → R t a → R u b → t ++ x ≡ u ++ y
      → (t ≡ u) × (a ≡ b)

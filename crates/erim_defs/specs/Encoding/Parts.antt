-- Parts of an encoding: a part relates bytes to what they mean. Own.
use Rattle.std.specs.Prelude.{◌≡◌, ℕ, ◌<◌, Bool, true, false, List, [], ◌∷◌, ◌++◌, length, ℤ, pos}
use Rattle.std.specs.Int.{w8, w32, from_le_bytes, cast_signed}

-- each is a byte
abbrev pub AreBytes : List ℕ → Type 0
AreBytes [] = Unit {0}
AreBytes (b ∷ bs) = (b < 256) × AreBytes bs

-- a byte, and then what it asks for
abbrev pub Byte : {A : Type 0} → (ℕ → List ℕ → A → Type 0) → List ℕ → A → Type 0
Byte S [] a = ⊥
Byte S (b ∷ u) a = (b < 256) × S b u a

-- n bytes, and then what they ask for
pub record Chunk {A : Type 0} (n : ℕ) (S : List ℕ → List ℕ → A → Type 0) (encoding : List ℕ) (a : A)
    : Type 0 where
  pub front : List ℕ
  pub back : List ℕ
  pub parts : encoding ≡ front ++ back
  pub long : length front ≡ n
  pub bytes : AreBytes front
  pub then : S front back a

-- nothing, meaning v
abbrev pub Nothing : {A : Type 0} → A → List ℕ → A → Type 0
Nothing v encoding a = (encoding ≡ []) × (a ≡ v)

-- no bytes at all
abbrev pub Never : {A : Type 0} → List ℕ → A → Type 0
Never encoding a = ⊥

-- one part or another
abbrev pub Choose : {A : Type 0} → Bool → (List ℕ → A → Type 0) → (List ℕ → A → Type 0) → List ℕ → A
    → Type 0
Choose true R S encoding a = R encoding a
Choose false R S encoding a = S encoding a

-- a part, on a condition
abbrev pub When : {A : Type 0} → Bool → (List ℕ → A → Type 0) → List ℕ → A → Type 0
When b R = Choose b R Never

-- the value of no byte, one or four, low byte first, with a sign (SDM volume 2, "Displacement and
-- immediate bytes")
abbrev pub signed_value : List ℕ → ℤ
signed_value (b ∷ []) = cast_signed w8 b
signed_value (a ∷ b ∷ c ∷ d ∷ []) = cast_signed w32 (from_le_bytes w32 (a ∷ b ∷ c ∷ d ∷ []))
signed_value bytes = pos 0

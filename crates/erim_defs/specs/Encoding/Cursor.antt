-- Reading from the front: a value and the bytes after it, or why there is none. Own.
use Rattle.std.specs.Prelude.{ℕ, ◌+◌, ◌-◌, List, [], ◌∷◌, length, take, drop, Result, Ok, Err}
use Rattle.std.specs.Prelude.{nat_lt, if◌then◌else◌}
use Rattle.erim_defs.specs.declared.grammar.Rex.{Rex}
use Rattle.erim_defs.specs.declared.insn.Place.{Place}
use Rattle.erim_defs.specs.Encoding.Parts.{signed_value}
use Rattle.erim_defs.specs.Encoding.Operand.{has_sib, disp_size, place_of}
use Rattle.erim_defs.specs.declared.grammar.Stop.{Stop}
use Rattle.erim_defs.specs.declared.grammar.Stop.TheVariants.{Short}

infixl 10 ◌>>=◌
abbrev pub ◌>>=◌ : {A B : Type 0} → Result A Stop → (A → Result B Stop) → Result B Stop
(Ok x) >>= f = f x
(Err e) >>= f = Err e

-- one byte, or what is to be said where there is none
abbrev pub byte_at : Stop → List ℕ → Result (ℕ × List ℕ) Stop
byte_at stop [] = Err stop
byte_at stop (b ∷ rest) = Ok (b, rest)

-- n bytes, where an instruction needs least more after them
abbrev pub chunk_at : ℕ → ℕ → List ℕ → Result (List ℕ × List ℕ) Stop
chunk_at n least bytes =
    if nat_lt (length bytes) n then Err (Short (n - length bytes + least)) else
    Ok (take n bytes, drop n bytes)

-- the SIB byte of a ModRM byte m, or 0
unfoldable pub sib_at : ℕ → ℕ → List ℕ → Result (ℕ × List ℕ) Stop
sib_at m least bytes =
    if has_sib m then byte_at (Short (1 + (disp_size m 0 + least))) bytes else Ok (0, bytes)

-- the operand of m, and how long its displacement is
unfoldable pub operand_at : Rex → ℕ → ℕ → List ℕ → Result ((Place × ℕ) × List ℕ) Stop
operand_at rex m least bytes = do
  s ← sib_at m least bytes
  d ← chunk_at (disp_size m s.0) least s.1
  Ok ((place_of rex m s.0 (signed_value d.0), disp_size m s.0), d.1)

-- Numbers in bytes, and back.
use Rattle.std.proofs.Common.{rules, ◌≡◌, ℕ, ◌^◌, ◌<◌, true, [], ◌∷◌, length, refl, ap, ◌∙◌, arith}
use Rattle.std.proofs.Common.{ℤ, pos, negsuc}
use Rattle.std.specs.Prelude.{FitsSigned, int_le}
use Rattle.std.specs.Int.{w8, w32, cast_unsigned, cast_signed}
use Rattle.std.proofs.lemmas.Nat.{from_le_bytes-to_le_bytes_4, from_le_bytes-to_le_bytes_8}
use Rattle.std.proofs.lemmas.Int.{to_z-of_z}
use Rattle.std.proofs.lemmas.Bool.{leb-true}
use Rattle.erim_defs.specs.Encoding.Parts.{AreBytes, signed_value}
use Rattle.erim_defs.specs.Encoding.Forms.{imm64}
use Rattle.erim_defs.specs.Encoding.Canonical.{four_bytes, one_byte, eight_bytes, fits_byte}
use Rattle.encoding_laws.proofs.LineLemmas.{and_true}

pub four_length : (z : ℤ) → length (four_bytes z) ≡ 4
unfolding four_bytes
four_length z = refl

pub four_are : (z : ℤ) → AreBytes (four_bytes z)
unfolding four_bytes
four_are z = (omega arith, (omega arith, (omega arith, (omega arith, tt))))

bits_fit : (z : ℤ) → FitsSigned w32 z → cast_unsigned w32 z < 2 ^ 32
bits_fit z f = search rules

pub four_signed : (z : ℤ) → FitsSigned w32 z → signed_value (four_bytes z) ≡ z
unfolding four_bytes
four_signed z f = ap (cast_signed w32)
    (from_le_bytes-to_le_bytes_4 (cast_unsigned w32 z) (bits_fit z f)) ∙ to_z-of_z w32 z f

pub one_length : (z : ℤ) → length (one_byte z) ≡ 1
unfolding one_byte four_bytes
one_length z = refl

pub one_are : (z : ℤ) → AreBytes (one_byte z)
unfolding one_byte four_bytes
one_are z = (omega arith, tt)

-- the lowest byte of a number that fits it
one_is : (z : ℤ) → FitsSigned w8 z → one_byte z ≡ cast_unsigned w8 z ∷ []
unfolding one_byte four_bytes
one_is (pos n) f = let l : n < 128 = f.sfits in ap (λ (b : ℕ). b ∷ []) (omega arith)
one_is (negsuc n) f = let l : n < 128 = f.sfits in ap (λ (b : ℕ). b ∷ []) (omega arith)

pub one_signed : (z : ℤ) → FitsSigned w8 z → signed_value (one_byte z) ≡ z
one_signed z f = ap signed_value (one_is z f) ∙ to_z-of_z w8 z f

pub small_fits : (z : ℤ) → fits_byte z ≡ true → FitsSigned w8 z
unfolding fits_byte
small_fits (pos n) e = let l = leb-true n 127 e in record { sfits = omega arith }
small_fits (negsuc n) e = let l =
    leb-true n 127 (and_true (int_le (negsuc 127) (negsuc n)) true e).0 in
    record { sfits = omega arith }

pub eight_length : (n : ℕ) → length (eight_bytes n) ≡ 8
unfolding eight_bytes
eight_length n = refl

pub eight_are : (n : ℕ) → AreBytes (eight_bytes n)
unfolding eight_bytes
eight_are n = (
  omega arith,
  (
    omega arith,
    (
      omega arith,
      (omega arith, (omega arith, (omega arith, (omega arith, (omega arith, tt))))),
    ),
  ),
)

pub eight_wide : (n : ℕ) → n < 2 ^ 64 → imm64 (eight_bytes n) ≡ n
unfolding eight_bytes imm64
eight_wide n f = from_le_bytes-to_le_bytes_8 n f

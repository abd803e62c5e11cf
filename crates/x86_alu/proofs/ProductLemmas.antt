-- The product of two operands, taken in 128 bits, loses nothing.
use Rattle.std.proofs.Common.{rules, arith, ◌≡◌, ◌≤◌, ◌^◌, ℕ, Bool, ℤ, pos, negsuc, ◌*ℤ◌, ◌∙◌, ap}
use Rattle.std.proofs.Common.{FitsSigned, to_z, of_z, unsigned_abs}
use Rattle.std.specs.Int.{Width, w64, w128, cast_signed}
use Rattle.std.proofs.lemmas.Int.{to_z-of_z, fits_signed_mul}
use Rattle.erim_defs.specs.declared.machine.Flags.{Flags}
use Rattle.erim_defs.specs.declared.machine.Outcome.{Outcome}
use Rattle.erim_defs.specs.Machine.Alu.{imul, is_past_width, wrap}

size_of_operand : (z : ℤ) → FitsSigned w64 z → unsigned_abs z ≤ 2 ^ 63
size_of_operand (pos n) f = omega (arith, f.sfits)
size_of_operand (negsuc n) f = omega (arith, f.sfits)

product_fits : (x y : ℤ) → FitsSigned w64 x → FitsSigned w64 y → FitsSigned w128 (x *ℤ y)
product_fits x y f g = fits_signed_mul w128 x y (2 ^ 63) (2 ^ 63) (size_of_operand x f)
    (size_of_operand y g) (omega arith)

-- what 128 bits hold of a signed number
abbrev pub held : ℤ → ℤ
held z = to_z w128 (of_z w128 z)

held_operand : (z : ℤ) → FitsSigned w64 z → held z ≡ z
held_operand z f = let fits : FitsSigned w128 z = search rules in to_z-of_z w128 z fits

held_product : (x y : ℤ) → FitsSigned w64 x → FitsSigned w64 y → held (held x *ℤ held y) ≡ x *ℤ y
held_product x y f g =
    ap (λ (m : ℤ). held (m *ℤ held y)) (held_operand x f)
    ∙ ap (λ (n : ℤ). held (x *ℤ n)) (held_operand y g)
    ∙ to_z-of_z w128 (x *ℤ y) (product_fits x y f g)

-- the outcome of IMUL, from its operands' signed numbers x and y
pub outcome_of_product : (w : Width) (a b r : ℕ) (x y : ℤ) (past : Bool) (flags : Flags)
    → x ≡ cast_signed w a → FitsSigned w64 x → y ≡ cast_signed w b → FitsSigned w64 y
    → r ≡ wrap w (held (held x *ℤ held y)) → past ≡ is_past_width w (held (held x *ℤ held y))
    → (let o : Outcome = record { value = r; flags = record flags { cf = past; of = past } } in o)
    ≡ imul w a b flags
unfolding imul
outcome_of_product w a b r x y past flags p f q g value overflow =
    let e = held_product x y f g in cc

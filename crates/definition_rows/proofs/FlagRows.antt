-- Results and flags of arithmetic and logic at widths of 1, 4 and 8 bytes, computed. The values are
-- those of a processor (SDM volume 2, ADD OR ADC SBB AND SUB XOR CMP); each flag comes out both
-- ways at each width, but that OR, AND and XOR clear CF and OF.
use Rattle.std.proofs.Common.{◌≡◌, ℕ, Bool, true, false, List, [], ◌∷◌, map, refl}
use Rattle.std.specs.Int.{Width, w8, w32, w64}
use Rattle.std.specs.Int.Count.{ones}
use Rattle.erim_defs.specs.declared.machine.Flags.{Flags}
use Rattle.erim_defs.specs.declared.insn.AluOp.{AluOp}
use Rattle.erim_defs.specs.declared.insn.AluOp.TheVariants.{Add, Or, Adc, Sbb, And, Sub, Xor, Cmp}
use Rattle.erim_defs.specs.Machine.Alu.{alu}
use Rattle.erim_defs.specs.declared.machine.Outcome.{Outcome}

record Row : Type 0 where
  width : Width
  carry : Bool
  a : ℕ
  b : ℕ
  outcome : Outcome

abbrev yes : Bool
yes = true

abbrev no : Bool
no = false

-- width, CF before, the operands; the result, and CF, PF, ZF, SF and OF after it
abbrev row : Width → Bool → ℕ → ℕ → ℕ → Bool → Bool → Bool → Bool → Bool → Row
row width carry a b value cf pf zf sf of = record {
  width = width;
  carry = carry;
  a = a;
  b = b;
  outcome = record
      { value = value; flags = record { cf = cf; pf = pf; zf = zf; sf = sf; of = of } };
}

-- the flags other than CF are set before, and none is looked at
abbrev before : Bool → Flags
before carry = record { cf = carry; pf = true; zf = true; sf = true; of = true }

abbrev computed : AluOp → List Row → List Outcome
computed op rows = map (λ (r : Row). alu op r.width r.a r.b (before r.carry)) rows

abbrev told : List Row → List Outcome
told rows = map (λ (r : Row). r.outcome) rows

-- ADD
additions : List Row
additions =
    row w8 yes 0x12 0x25 0x37 no no no no no ∷
    row w8 no 0xFF 1 0 yes yes yes no no ∷
    row w8 no 0x7F 1 0x80 no no no yes yes ∷
    row w8 no 0x80 0xFF 0x7F yes no no no yes ∷
    row w32 yes 0x12 0x25 0x37 no no no no no ∷
    row w32 no 0xFFFFFFFF 1 0 yes yes yes no no ∷
    row w32 no 0x7FFFFFFF 1 0x80000000 no yes no yes yes ∷
    row w32 no 0x80000000 0xFFFFFFFF 0x7FFFFFFF yes yes no no yes ∷
    row w64 yes 0x12 0x25 0x37 no no no no no ∷
    row w64 no 0xFFFFFFFFFFFFFFFF 1 0 yes yes yes no no ∷
    row w64 no 0x7FFFFFFFFFFFFFFF 1 0x8000000000000000 no yes no yes yes ∷
    row w64 no 0x8000000000000000 0xFFFFFFFFFFFFFFFF 0x7FFFFFFFFFFFFFFF yes yes no no yes ∷ []

add_rows : computed Add additions ≡ told additions
unfolding alu ones additions
add_rows = refl

-- OR
disjunctions : List Row
disjunctions =
    row w8 yes 0x31 0x46 0x77 no yes no no no ∷
    row w8 yes 0 0 0 no yes yes no no ∷
    row w8 no 0x81 8 0x89 no no no yes no ∷
    row w32 yes 0x31 0x46 0x77 no yes no no no ∷
    row w32 yes 0 0 0 no yes yes no no ∷
    row w32 no 0x80000001 8 0x80000009 no yes no yes no ∷
    row w32 no 0x100 1 0x101 no no no no no ∷
    row w64 yes 0x31 0x46 0x77 no yes no no no ∷
    row w64 yes 0 0 0 no yes yes no no ∷
    row w64 no 0x8000000000000001 8 0x8000000000000009 no yes no yes no ∷
    row w64 no 0x100 1 0x101 no no no no no ∷ []

or_rows : computed Or disjunctions ≡ told disjunctions
unfolding alu ones disjunctions
or_rows = refl

-- ADC
additions_with_carry : List Row
additions_with_carry =
    row w8 no 0x12 0x25 0x37 no no no no no ∷
    row w8 yes 0x12 0x25 0x38 no no no no no ∷
    row w8 yes 0xFF 0 0 yes yes yes no no ∷
    row w8 yes 0x7F 0 0x80 no no no yes yes ∷
    row w8 yes 0xFF 0xFF 0xFF yes yes no yes no ∷
    row w32 no 0x12 0x25 0x37 no no no no no ∷
    row w32 yes 0x12 0x25 0x38 no no no no no ∷
    row w32 yes 0xFFFFFFFF 0 0 yes yes yes no no ∷
    row w32 yes 0x7FFFFFFF 0 0x80000000 no yes no yes yes ∷
    row w32 yes 0xFFFFFFFF 0xFFFFFFFF 0xFFFFFFFF yes yes no yes no ∷
    row w64 no 0x12 0x25 0x37 no no no no no ∷
    row w64 yes 0x12 0x25 0x38 no no no no no ∷
    row w64 yes 0xFFFFFFFFFFFFFFFF 0 0 yes yes yes no no ∷
    row w64 yes 0x7FFFFFFFFFFFFFFF 0 0x8000000000000000 no yes no yes yes ∷
    row w64 yes 0xFFFFFFFFFFFFFFFF 0xFFFFFFFFFFFFFFFF 0xFFFFFFFFFFFFFFFF yes yes no yes no ∷ []

adc_rows : computed Adc additions_with_carry ≡ told additions_with_carry
unfolding alu ones additions_with_carry
adc_rows = refl

-- SBB
subtractions_with_borrow : List Row
subtractions_with_borrow =
    row w8 no 0x25 0x12 0x13 no no no no no ∷
    row w8 yes 0x25 0x12 0x12 no yes no no no ∷
    row w8 yes 0x25 0x24 0 no yes yes no no ∷
    row w8 yes 0x80 0 0x7F no no no no yes ∷
    row w8 yes 0 0xFF 0 yes yes yes no no ∷
    row w8 no 0x7F 0xFF 0x80 yes no no yes yes ∷
    row w32 no 0x25 0x12 0x13 no no no no no ∷
    row w32 yes 0x25 0x12 0x12 no yes no no no ∷
    row w32 yes 0x25 0x24 0 no yes yes no no ∷
    row w32 yes 0x80000000 0 0x7FFFFFFF no yes no no yes ∷
    row w32 yes 0 0xFFFFFFFF 0 yes yes yes no no ∷
    row w32 no 0x7FFFFFFF 0xFFFFFFFF 0x80000000 yes yes no yes yes ∷
    row w64 no 0x25 0x12 0x13 no no no no no ∷
    row w64 yes 0x25 0x12 0x12 no yes no no no ∷
    row w64 yes 0x25 0x24 0 no yes yes no no ∷
    row w64 yes 0x8000000000000000 0 0x7FFFFFFFFFFFFFFF no yes no no yes ∷
    row w64 yes 0 0xFFFFFFFFFFFFFFFF 0 yes yes yes no no ∷
    row w64 no 0x7FFFFFFFFFFFFFFF 0xFFFFFFFFFFFFFFFF 0x8000000000000000 yes yes no yes yes ∷ []

sbb_rows : computed Sbb subtractions_with_borrow ≡ told subtractions_with_borrow
unfolding alu ones subtractions_with_borrow
sbb_rows = refl

-- AND
conjunctions : List Row
conjunctions =
    row w8 yes 0x3D 0x57 0x15 no no no no no ∷
    row w8 yes 0xF 0x30 0 no yes yes no no ∷
    row w8 no 0xFF 0x83 0x83 no no no yes no ∷
    row w32 yes 0x3D 0x57 0x15 no no no no no ∷
    row w32 yes 0xF 0x30 0 no yes yes no no ∷
    row w32 no 0xFFFFFFFF 0x80000003 0x80000003 no yes no yes no ∷
    row w64 yes 0x3D 0x57 0x15 no no no no no ∷
    row w64 yes 0xF 0x30 0 no yes yes no no ∷
    row w64 no 0xFFFFFFFFFFFFFFFF 0x8000000000000003 0x8000000000000003 no yes no yes no ∷ []

and_rows : computed And conjunctions ≡ told conjunctions
unfolding alu ones conjunctions
and_rows = refl

-- SUB
subtractions : List Row
subtractions =
    row w8 yes 0x25 0x12 0x13 no no no no no ∷
    row w8 no 0x12 0x25 0xED yes yes no yes no ∷
    row w8 yes 5 5 0 no yes yes no no ∷
    row w8 no 0x80 1 0x7F no no no no yes ∷
    row w8 no 0x7F 0xFF 0x80 yes no no yes yes ∷
    row w32 yes 0x25 0x12 0x13 no no no no no ∷
    row w32 no 0x12 0x25 0xFFFFFFED yes yes no yes no ∷
    row w32 yes 5 5 0 no yes yes no no ∷
    row w32 no 0x80000000 1 0x7FFFFFFF no yes no no yes ∷
    row w32 no 0x7FFFFFFF 0xFFFFFFFF 0x80000000 yes yes no yes yes ∷
    row w64 yes 0x25 0x12 0x13 no no no no no ∷
    row w64 no 0x12 0x25 0xFFFFFFFFFFFFFFED yes yes no yes no ∷
    row w64 yes 5 5 0 no yes yes no no ∷
    row w64 no 0x8000000000000000 1 0x7FFFFFFFFFFFFFFF no yes no no yes ∷
    row w64 no 0x7FFFFFFFFFFFFFFF 0xFFFFFFFFFFFFFFFF 0x8000000000000000 yes yes no yes yes ∷ []

sub_rows : computed Sub subtractions ≡ told subtractions
unfolding alu ones subtractions
sub_rows = refl

-- XOR
differences : List Row
differences =
    row w8 yes 0x31 0x57 0x66 no yes no no no ∷
    row w8 yes 0x15 0x15 0 no yes yes no no ∷
    row w8 no 0x87 2 0x85 no no no yes no ∷
    row w32 yes 0x31 0x57 0x66 no yes no no no ∷
    row w32 yes 0x15 0x15 0 no yes yes no no ∷
    row w32 no 0x80000007 2 0x80000005 no yes no yes no ∷
    row w32 no 0x1301 0x1100 0x201 no no no no no ∷
    row w64 yes 0x31 0x57 0x66 no yes no no no ∷
    row w64 yes 0x15 0x15 0 no yes yes no no ∷
    row w64 no 0x8000000000000007 2 0x8000000000000005 no yes no yes no ∷
    row w64 no 0x1301 0x1100 0x201 no no no no no ∷ []

xor_rows : computed Xor differences ≡ told differences
unfolding alu ones differences
xor_rows = refl

-- CMP
comparisons : List Row
comparisons =
    row w8 yes 0x25 0x12 0x25 no no no no no ∷
    row w8 no 0x12 0x25 0x12 yes yes no yes no ∷
    row w8 yes 5 5 5 no yes yes no no ∷
    row w8 no 0x80 1 0x80 no no no no yes ∷
    row w8 no 0x7F 0xFF 0x7F yes no no yes yes ∷
    row w32 yes 0x25 0x12 0x25 no no no no no ∷
    row w32 no 0x12 0x25 0x12 yes yes no yes no ∷
    row w32 yes 5 5 5 no yes yes no no ∷
    row w32 no 0x80000000 1 0x80000000 no yes no no yes ∷
    row w32 no 0x7FFFFFFF 0xFFFFFFFF 0x7FFFFFFF yes yes no yes yes ∷
    row w64 yes 0x25 0x12 0x25 no no no no no ∷
    row w64 no 0x12 0x25 0x12 yes yes no yes no ∷
    row w64 yes 5 5 5 no yes yes no no ∷
    row w64 no 0x8000000000000000 1 0x8000000000000000 no yes no no yes ∷
    row w64 no 0x7FFFFFFFFFFFFFFF 0xFFFFFFFFFFFFFFFF 0x7FFFFFFFFFFFFFFF yes yes no yes yes ∷ []

cmp_rows : computed Cmp comparisons ≡ told comparisons
unfolding alu ones comparisons
cmp_rows = refl

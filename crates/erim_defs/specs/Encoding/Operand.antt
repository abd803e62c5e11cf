-- The operand that a ModRM byte m names, with its SIB byte and displacement. SDM volume 2, "ModR/M
-- and SIB bytes".
use Rattle.std.specs.Prelude.{ℕ, ◌+◌, ◌/◌, ◌%◌, Bool, ◌&&◌, ◌||◌, ◌==◌, not, if◌then◌else◌, List}
use Rattle.std.specs.Prelude.{Some, None, ℤ}
use Rattle.erim_defs.specs.declared.grammar.Rex.{Rex}
use Rattle.erim_defs.specs.declared.insn.Mem.{Mem}
use Rattle.erim_defs.specs.declared.insn.Place.{Place}
use Rattle.erim_defs.specs.declared.insn.Place.TheVariants.{Reg, At}
use Rattle.erim_defs.specs.declared.insn.Base.TheVariants as bases
use Rattle.erim_defs.specs.Encoding.Parts.{Byte, Chunk, Choose, signed_value}

-- a register's number with its bit of REX
unfoldable pub reg_with_bit : Bool → ℕ → ℕ
reg_with_bit bit n = if bit then n + 8 else n

-- memory with r/m 4 has a SIB byte
unfoldable pub has_sib : ℕ → Bool
has_sib m = not (m / 64 == 3) && m % 8 == 4

-- mod 1 and 2 have a displacement of one byte and of four; mod 0 has four bytes where there is no
-- base
unfoldable pub disp_size : ℕ → ℕ → ℕ
disp_size m sib =
    if m / 64 == 0 then (if m % 8 == 5 || (m % 8 == 4 && sib % 8 == 5) then 4 else 0) else
    if m / 64 == 1 then 1 else
    if m / 64 == 2 then 4 else 0

-- index 4 is no index, base 5 with mod 0 is no base
unfoldable pub sib_mem : Rex → ℕ → ℕ → ℤ → Mem
sib_mem rex mode sib disp =
    let index = reg_with_bit rex.x (sib / 8 % 8) in
    let base =
    if mode == 0 && sib % 8 == 5 then bases.Zero else bases.Reg (reg_with_bit rex.b (sib % 8)) in
    if index == 4 then record { base = base; index = None; scale = 0; disp = disp } else
    record { base = base; index = Some index; scale = sib / 64; disp = disp }

-- mod 3 is a register, and mod 0 with r/m 5 counts from the next instruction
unfoldable pub place_of : Rex → ℕ → ℕ → ℤ → Place
place_of rex m sib disp =
    if m / 64 == 3 then Reg (reg_with_bit rex.b (m % 8)) else
    if m % 8 == 4 then At (sib_mem rex (m / 64) sib disp) else
    let base =
    if m / 64 == 0 && m % 8 == 5 then bases.Rip else bases.Reg (reg_with_bit rex.b (m % 8)) in
    At (record { base = base; index = None; scale = 0; disp = disp })

-- SIB where there is one, and then what it asks for
abbrev pub WhereSib : {A : Type 0} → ℕ → (ℕ → List ℕ → A → Type 0) → List ℕ → A → Type 0
WhereSib m S = Choose (has_sib m) (Byte S) (S 0)

-- SIB, the displacement, and then what the operand and the size of its displacement ask for
abbrev pub Operand : {A : Type 0} → Rex → ℕ → (Place × ℕ → List ℕ → A → Type 0) → List ℕ → A
    → Type 0
Operand rex m S =
    WhereSib m
    (λ sib. Chunk (disp_size m sib)
    (λ disp. S (place_of rex m sib (signed_value disp), disp_size m sib)))

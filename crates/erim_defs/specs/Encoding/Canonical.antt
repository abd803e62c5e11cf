-- The canonical encoding of an instruction: of those that encode it, the one that these rules
-- choose. The layouts are of SDM volume 2 ("Instruction format", "ModR/M and SIB bytes", "REX
-- prefixes"), and the choice is own.
use Rattle.std.specs.Prelude.{ℕ, ◌+◌, ◌*◌, ◌%◌, Bool, true, false, ◌&&◌, ◌||◌, ◌==◌, not, nat_le}
use Rattle.std.specs.Prelude.{nat_lt, if◌then◌else◌, List, [], ◌∷◌, ◌++◌, take, Option, Some, None}
use Rattle.std.specs.Prelude.{ℤ, pos, negsuc, int_le}
use Rattle.std.specs.Ordering.{int_eq}
use Rattle.std.specs.Int.{w32, w64, to_le_bytes, cast_unsigned}
use Rattle.erim_defs.specs.declared.insn.Base.TheVariants as bases
use Rattle.erim_defs.specs.declared.insn.Mem.{Mem}
use Rattle.erim_defs.specs.declared.insn.Place.{Place}
use Rattle.erim_defs.specs.declared.insn.Place.TheVariants.{Reg, High, At}
use Rattle.erim_defs.specs.declared.insn.Src.{Src}
use Rattle.erim_defs.specs.declared.insn.Src.TheVariants.{From, Imm}
use Rattle.erim_defs.specs.declared.insn.By.{By}
use Rattle.erim_defs.specs.declared.insn.By.TheVariants.{Count, Cl}
use Rattle.erim_defs.specs.declared.insn.Width.{Width}
use Rattle.erim_defs.specs.declared.insn.Width.TheVariants.{W1, W4, W8}
use Rattle.erim_defs.specs.declared.insn.AluOp.{AluOp}
use Rattle.erim_defs.specs.declared.insn.AluOp.TheVariants.{Add, Or, Adc, Sbb, And, Sub, Xor, Cmp}
use Rattle.erim_defs.specs.declared.insn.UnaryOp.{UnaryOp}
use Rattle.erim_defs.specs.declared.insn.UnaryOp.TheVariants.{Not, Neg, Inc, Dec}
use Rattle.erim_defs.specs.declared.insn.ShiftOp.{ShiftOp}
use Rattle.erim_defs.specs.declared.insn.ShiftOp.TheVariants.{Shl, Shr, Sar}
use Rattle.erim_defs.specs.declared.insn.Insn.{Insn}
use Rattle.erim_defs.specs.declared.insn.Insn.TheVariants.{Alu, Test, Xchg, Mov, MovWide, Lea, Push}
use Rattle.erim_defs.specs.declared.insn.Insn.TheVariants.{Pop, MovSxd, MovZx, MovSx, Imul, Jcc}
use Rattle.erim_defs.specs.declared.insn.Insn.TheVariants.{Jmp, Call, JmpTo, CallTo, Ret, Leave}
use Rattle.erim_defs.specs.declared.insn.Insn.TheVariants.{Widen, Spread, Shift, Unary, Cmov, Set}
use Rattle.erim_defs.specs.declared.insn.Insn.TheVariants.{Bt, Cmpxchg, Xadd, Syscall, Wrpkru}
use Rattle.erim_defs.specs.declared.insn.Insn.TheVariants.{Rdpkru, Xrstor, Fence, Nop}
use Rattle.erim_defs.specs.Encoding.Grammar.{rex_bytes}

-- ---- immediates and displacements

-- in four bytes, low byte first
unfoldable pub four_bytes : ℤ → List ℕ
four_bytes z = to_le_bytes w32 (cast_unsigned w32 z)

-- in one byte, the lowest
unfoldable pub one_byte : ℤ → List ℕ
one_byte z = take 1 (four_bytes z)

-- in eight bytes
unfoldable pub eight_bytes : ℕ → List ℕ
eight_bytes n = to_le_bytes w64 n

-- one byte is enough
unfoldable pub fits_byte : ℤ → Bool
fits_byte z = int_le (negsuc 127) z && int_le z (pos 127)

-- an operand of a width: one byte with width 1, else four
unfoldable pub width_bytes : Width → ℤ → List ℕ
width_bytes W1 z = one_byte z
width_bytes W4 z = four_bytes z
width_bytes W8 z = four_bytes z

-- one byte where it fits, else four
unfoldable pub shortest_bytes : ℤ → List ℕ
shortest_bytes z = if fits_byte z then one_byte z else four_bytes z

-- ---- what stands before the opcode

-- no prefix but F0 for lock
unfoldable pub lock_bytes : Bool → List ℕ
lock_bytes lock = if lock then 0xF0 ∷ [] else []

-- W only where the width asks it
unfoldable pub is_wide : Width → Bool
is_wide W1 = false
is_wide W4 = false
is_wide W8 = true

-- a byte register 4 to 7 that is named as Reg asks REX
unfoldable pub asks_rex : Width → Place → Bool
asks_rex W1 (Reg n) = nat_le 4 n && nat_lt n 8
asks_rex w place = false

-- registers 8 to 15 need a bit of REX, beside three bits in the opcode, ModRM or SIB
unfoldable pub is_upper : ℕ → Bool
is_upper n = nat_le 8 n

unfoldable pub bit_value : Bool → ℕ → ℕ
bit_value b n = if b then n else 0

-- W, R, X and B
unfoldable pub rex_byte : Bool → Bool → Bool → Bool → ℕ
rex_byte w r x b = 0x40 + bit_value w 8 + bit_value r 4 + bit_value x 2 + bit_value b 1

-- REX only where it is asked or one of its bits is needed
unfoldable pub rex_of : Bool → Bool → Bool → Bool → Bool → Option ℕ
rex_of asked w r x b = if asked || w || r || x || b then Some (rex_byte w r x b) else None

-- ---- the opcode

-- with the escape opcode 0F or without
unfoldable pub opcode_bytes : Bool → ℕ → List ℕ
opcode_bytes escape op = if escape then 0x0F ∷ op ∷ [] else op ∷ []

-- an even opcode is of width 1, and the odd one after it of the others
unfoldable pub opcode_of_width : Width → ℕ → ℕ
opcode_of_width W1 op = op
opcode_of_width W4 op = op + 1
opcode_of_width W8 op = op + 1

-- ---- the operand

-- the number of a register; AH, CH, DH and BH have 4 to 7
unfoldable pub register_number : Place → ℕ
register_number (Reg n) = n
register_number (High n) = n % 4 + 4
register_number (At m) = 0

-- mod, reg and r/m
unfoldable pub modrm_byte : ℕ → ℕ → ℕ → ℕ
modrm_byte mode reg rm = 64 * mode + 8 * (reg % 8) + rm % 8

-- index 4 is no index
unfoldable pub index_number : Option ℕ → ℕ
index_number None = 4
index_number (Some i) = i % 8

-- scale, index and base
unfoldable pub sib_byte : ℕ → Option ℕ → ℕ → ℕ
sib_byte scale index base = 64 * (scale % 4) + 8 * index_number index + base % 8

-- with a base, a displacement of no byte, one or four, the least that there is for it: no byte is
-- for 0 and a base but 5 and 13; mod is 0, 1 or 2
unfoldable pub disp_mode : ℕ → ℤ → ℕ
disp_mode base disp =
    if int_eq disp (pos 0) && not (base % 8 == 5) then 0 else if fits_byte disp then 1 else 2

unfoldable pub disp_bytes : ℕ → ℤ → List ℕ
disp_bytes mode disp =
    if mode == 0 then [] else if mode == 1 then one_byte disp else four_bytes disp

-- with a base, SIB only where there is an index or the base is 4 or 12
unfoldable pub needs_sib : ℕ → Option ℕ → Bool
needs_sib base None = base % 8 == 4
needs_sib base (Some i) = true

unfoldable pub base_disp_bytes : ℕ → ℕ → Mem → List ℕ
base_disp_bytes reg base m =
    let mode = disp_mode base m.disp in
    if needs_sib base m.index
    then modrm_byte mode reg 4 ∷ sib_byte m.scale m.index base ∷ disp_bytes mode m.disp
    else modrm_byte mode reg base ∷ disp_bytes mode m.disp

-- RIP and no base have four bytes of displacement; no base has SIB 25, or that of the index
unfoldable pub memory_bytes : ℕ → Mem → List ℕ
memory_bytes reg m = elim m.base [
  | bases.Zero ↦ modrm_byte 0 reg 4 ∷ sib_byte m.scale m.index 5 ∷ four_bytes m.disp
  | bases.Reg base ↦ base_disp_bytes reg base m
  | bases.Rip ↦ modrm_byte 0 reg 5 ∷ four_bytes m.disp
]

-- ModRM, SIB and displacement, of reg and r/m
unfoldable pub operand_bytes : ℕ → Place → List ℕ
operand_bytes reg (At m) = memory_bytes reg m
operand_bytes reg (Reg n) = modrm_byte 3 reg n ∷ []
operand_bytes reg (High n) = modrm_byte 3 reg (register_number (High n)) ∷ []

unfoldable pub has_upper_index : Place → Bool
has_upper_index (At m) = elim m.index [ None ↦ false | Some i ↦ is_upper i ]
has_upper_index place = false

unfoldable pub has_upper_base : Place → Bool
has_upper_base (At m) =
    elim m.base [ bases.Reg base ↦ is_upper base | bases.Zero ↦ false | bases.Rip ↦ false ]
has_upper_base (Reg n) = is_upper n
has_upper_base (High n) = false

-- ---- an encoding but for its immediate

-- an opcode with the operands reg and r/m
unfoldable pub opcode_with_modrm : Bool → Bool → Bool → Bool → ℕ → ℕ → Place → List ℕ
opcode_with_modrm lock w asked escape op reg e =
    lock_bytes lock ++
    (rex_bytes (rex_of asked w (is_upper reg) (has_upper_index e) (has_upper_base e)) ++
    (opcode_bytes escape op ++ operand_bytes reg e))

-- an opcode with a register in it
unfoldable pub opcode_with_register : Bool → Bool → ℕ → ℕ → List ℕ
opcode_with_register w asked op n =
    rex_bytes (rex_of asked w false false (is_upper n)) ++ ((op + n % 8) ∷ [])

-- an opcode alone
unfoldable pub opcode_alone : Bool → Bool → ℕ → List ℕ
opcode_alone w escape op = rex_bytes (rex_of false w false false false) ++ opcode_bytes escape op

-- the operands reg and r/m of a width
unfoldable pub reg_rm_bytes : Bool → Width → Bool → ℕ → Place → Place → List ℕ
reg_rm_bytes lock w escape op g e =
    let asked = asks_rex w g || asks_rex w e in
    opcode_with_modrm lock (is_wide w) asked escape (opcode_of_width w op) (register_number g) e

-- an opcode extension, and the operand r/m of a width
unfoldable pub rm_bytes : Bool → Width → ℕ → ℕ → Place → List ℕ
rm_bytes lock w op reg e =
    opcode_with_modrm lock (is_wide w) (asks_rex w e) false (opcode_of_width w op) reg e

-- a register or opcode extension, and r/m without byte registers
unfoldable pub word_rm_bytes : Width → Bool → ℕ → ℕ → Place → List ℕ
word_rm_bytes w escape op reg e = opcode_with_modrm false (is_wide w) false escape op reg e

-- a register or opcode extension, and r/m of one byte
unfoldable pub byte_rm_bytes : Width → ℕ → ℕ → Place → List ℕ
byte_rm_bytes w op reg e = opcode_with_modrm false (is_wide w) (asks_rex W1 e) true op reg e

-- ---- the kinds of instructions

unfoldable pub alu_number : AluOp → ℕ
alu_number Add = 0
alu_number Or = 1
alu_number Adc = 2
alu_number Sbb = 3
alu_number And = 4
alu_number Sub = 5
alu_number Xor = 6
alu_number Cmp = 7

-- 80, 81 and 83
unfoldable pub alu_imm_bytes : ℕ → Width → Place → ℤ → Bool → List ℕ
alu_imm_bytes n W1 dst z lock = rm_bytes lock W1 0x80 n dst ++ one_byte z
alu_imm_bytes n w dst z lock =
    opcode_with_modrm lock (is_wide w) false false (if fits_byte z then 0x83 else 0x81) n dst ++
    shortest_bytes z

-- two registers, or a register into memory, by operand encoding MR; memory into a register by RM
unfoldable pub alu_bytes : ℕ → Width → Place → Src → Bool → List ℕ
alu_bytes n w dst (From (At m)) lock = reg_rm_bytes lock w false (8 * n + 2) dst (At m)
alu_bytes n w dst (From (Reg r)) lock = reg_rm_bytes lock w false (8 * n) (Reg r) dst
alu_bytes n w dst (From (High r)) lock = reg_rm_bytes lock w false (8 * n) (High r) dst
alu_bytes n w dst (Imm z) lock = alu_imm_bytes n w dst z lock

-- 84, 85, F6 and F7
unfoldable pub test_bytes : Width → Place → Src → List ℕ
test_bytes w a (From r) = reg_rm_bytes false w false 0x84 r a
test_bytes w a (Imm z) = rm_bytes false w 0xF6 0 a ++ width_bytes w z

-- an immediate into a register by B0 or B8, and with width 8 by C7; into memory by C6 or C7
unfoldable pub mov_imm_bytes : Width → Place → ℤ → List ℕ
mov_imm_bytes w (At m) z = rm_bytes false w 0xC6 0 (At m) ++ width_bytes w z
mov_imm_bytes W1 dst z =
    opcode_with_register false (asks_rex W1 dst) 0xB0 (register_number dst) ++ one_byte z
mov_imm_bytes W4 dst z = opcode_with_register false false 0xB8 (register_number dst) ++ four_bytes z
mov_imm_bytes W8 dst z = rm_bytes false W8 0xC6 0 dst ++ four_bytes z

unfoldable pub mov_bytes : Width → Place → Src → List ℕ
mov_bytes w dst (From (At m)) = reg_rm_bytes false w false 0x8A dst (At m)
mov_bytes w dst (From (Reg r)) = reg_rm_bytes false w false 0x88 (Reg r) dst
mov_bytes w dst (From (High r)) = reg_rm_bytes false w false 0x88 (High r) dst
mov_bytes w dst (Imm z) = mov_imm_bytes w dst z

-- a register by 50, memory by FF, an immediate by 6A or 68
unfoldable pub push_bytes : Src → List ℕ
push_bytes (From (At m)) = word_rm_bytes W4 false 0xFF 6 (At m)
push_bytes (From (Reg r)) = opcode_with_register false false 0x50 r
push_bytes (From (High r)) = opcode_with_register false false 0x50 (register_number (High r))
push_bytes (Imm z) =
    opcode_alone false false (if fits_byte z then 0x6A else 0x68) ++ shortest_bytes z

-- from 1 byte by the first opcode, from 2 by the next
unfoldable pub extension_bytes : ℕ → Width → ℕ → ℕ → Place → List ℕ
extension_bytes op w r from src =
    if from == 1 then byte_rm_bytes w op r src else word_rm_bytes w true (op + 1) r src

unfoldable pub imul_bytes : Width → ℕ → Place → Option ℤ → List ℕ
imul_bytes w r a None = word_rm_bytes w true 0xAF r a
imul_bytes w r a (Some z) =
    word_rm_bytes w false (if fits_byte z then 0x6B else 0x69) r a ++ shortest_bytes z

unfoldable pub shift_number : ShiftOp → ℕ
shift_number Shl = 4
shift_number Shr = 5
shift_number Sar = 7

-- by 1, too, with the immediate
unfoldable pub shift_bytes : ℕ → Width → Place → By → List ℕ
shift_bytes n w dst (Count k) = rm_bytes false w 0xC0 n dst ++ (k ∷ [])
shift_bytes n w dst Cl = rm_bytes false w 0xD2 n dst

unfoldable pub unary_bytes : UnaryOp → Width → Place → Bool → List ℕ
unary_bytes Not w dst lock = rm_bytes lock w 0xF6 2 dst
unary_bytes Neg w dst lock = rm_bytes lock w 0xF6 3 dst
unary_bytes Inc w dst lock = rm_bytes lock w 0xFE 0 dst
unary_bytes Dec w dst lock = rm_bytes lock w 0xFE 1 dst

-- jumps, the stack, and system instructions; direct jumps and calls have four bytes, and Nop is 90
unfoldable pub control_bytes : Insn → List ℕ
control_bytes (Push src) = push_bytes src
control_bytes (Pop r) = opcode_with_register false false 0x58 r
control_bytes (Jcc c rel) = opcode_alone false true (0x80 + c % 16) ++ four_bytes rel
control_bytes (Jmp rel) = opcode_alone false false 0xE9 ++ four_bytes rel
control_bytes (Call rel) = opcode_alone false false 0xE8 ++ four_bytes rel
control_bytes (JmpTo to) = word_rm_bytes W4 false 0xFF 4 to
control_bytes (CallTo to) = word_rm_bytes W4 false 0xFF 2 to
control_bytes Ret = opcode_alone false false 0xC3
control_bytes Leave = opcode_alone false false 0xC9
control_bytes Syscall = opcode_alone false true 0x05
control_bytes Wrpkru = word_rm_bytes W4 true 0x01 5 (Reg 7)
control_bytes Rdpkru = word_rm_bytes W4 true 0x01 5 (Reg 6)
control_bytes (Xrstor m) = word_rm_bytes W4 true 0xAE 5 (At m)
control_bytes (Fence kind) = word_rm_bytes W4 true 0xAE kind (Reg 0)
control_bytes Nop = opcode_alone false false 0x90
control_bytes insn = []

-- all of them; the reg of Set is 0
unfoldable pub canonical_encoding : Insn → List ℕ
canonical_encoding (Alu op w dst src lock) = alu_bytes (alu_number op) w dst src lock
canonical_encoding (Test w a src) = test_bytes w a src
canonical_encoding (Xchg w a r lock) = reg_rm_bytes lock w false 0x86 r a
canonical_encoding (Mov w dst src) = mov_bytes w dst src
canonical_encoding (MovWide r imm) = opcode_with_register true false 0xB8 r ++ eight_bytes imm
canonical_encoding (Lea w r m) = word_rm_bytes w false 0x8D r (At m)
canonical_encoding (MovSxd r src) = word_rm_bytes W8 false 0x63 r src
canonical_encoding (MovZx w r from src) = extension_bytes 0xB6 w r from src
canonical_encoding (MovSx w r from src) = extension_bytes 0xBE w r from src
canonical_encoding (Imul w r a b) = imul_bytes w r a b
canonical_encoding (Widen w) = opcode_alone (is_wide w) false 0x98
canonical_encoding (Spread w) = opcode_alone (is_wide w) false 0x99
canonical_encoding (Shift op w dst by) = shift_bytes (shift_number op) w dst by
canonical_encoding (Unary op w dst lock) = unary_bytes op w dst lock
canonical_encoding (Cmov c w r src) = word_rm_bytes w true (0x40 + c % 16) r src
canonical_encoding (Set c dst) = byte_rm_bytes W4 (0x90 + c % 16) 0 dst
canonical_encoding (Bt w a k) = word_rm_bytes w true 0xBA 4 a ++ (k ∷ [])
canonical_encoding (Cmpxchg w dst r lock) = reg_rm_bytes lock w true 0xB0 r dst
canonical_encoding (Xadd w dst r lock) = reg_rm_bytes lock w true 0xC0 r dst
canonical_encoding insn = control_bytes insn

-- The table of opcodes as a decision by opcode, the order in which the decoder's code looks it up.
-- Own; that it finds the rows of `OpcodeTable` is computed over all opcodes and ModRM bytes.
use Rattle.std.specs.Prelude.{ℕ, ◌/◌, ◌%◌, Bool, ◌&&◌, ◌||◌, ◌==◌, nat_lt, nat_le, if◌then◌else◌}
use Rattle.std.specs.Prelude.{Option, Some, None}
use Rattle.erim_defs.specs.declared.grammar.Row.{Row}
use Rattle.erim_defs.specs.declared.grammar.Form.TheVariants.{Arithmetic, Move, Flow, Exchange}
use Rattle.erim_defs.specs.declared.grammar.Form.TheVariants.{System}
use Rattle.erim_defs.specs.declared.grammar.Arithmetic.TheVariants.{AluMr, AluRm, AluI, AluMi}
use Rattle.erim_defs.specs.declared.grammar.Arithmetic.TheVariants.{TestMr, TestI, TestMi, ImulRm}
use Rattle.erim_defs.specs.declared.grammar.Arithmetic.TheVariants.{ImulRmi, UnaryM, ShiftMi}
use Rattle.erim_defs.specs.declared.grammar.Arithmetic.TheVariants.{ShiftM1, ShiftMc, BtMi}
use Rattle.erim_defs.specs.declared.grammar.Move.TheVariants.{MovMr, MovRm, MovByteOi, MovOi, MovMi}
use Rattle.erim_defs.specs.declared.grammar.Move.TheVariants.{MovWideOi, LeaRm, MovSxdRm}
use Rattle.erim_defs.specs.declared.grammar.Move.TheVariants.{MovZxByteRm, MovZxWordRm, MovSxByteRm}
use Rattle.erim_defs.specs.declared.grammar.Move.TheVariants.{MovSxWordRm, WidenZo, SpreadZo}
use Rattle.erim_defs.specs.declared.grammar.Move.TheVariants.{CmovRm, SetM}
use Rattle.erim_defs.specs.declared.grammar.Flow.TheVariants.{JccD, JmpD, CallD, JmpM, CallM, RetZo}
use Rattle.erim_defs.specs.declared.grammar.Flow.TheVariants.{PushO, PushI, PushM, PopO, LeaveZo}
use Rattle.erim_defs.specs.declared.grammar.Exchange.TheVariants.{XchgMr, CmpxchgMr, XaddMr}
use Rattle.erim_defs.specs.declared.grammar.System.TheVariants.{SyscallZo, WrpkruZo, RdpkruZo}
use Rattle.erim_defs.specs.declared.grammar.System.TheVariants.{XrstorM, FenceZo, Nop}
use Rattle.erim_defs.specs.Encoding.OpcodeTable.{plain_row, with_lock, with_size_prefix}
use Rattle.erim_defs.specs.Encoding.OpcodeTable.{without_rex_b}

abbrev pub within : ℕ → ℕ → ℕ → Bool
within lo hi op = nat_le lo op && nat_le op hi

-- reg, the opcode extension, of a shift
unfoldable pub is_shift_reg : ℕ → Bool
is_shift_reg reg = reg == 4 || reg == 5 || reg == 7

-- rows of C0 to FF
unfoldable pub high_opcode_row : ℕ → ℕ → Option Row
high_opcode_row op m =
    let reg = m / 8 % 8 in
    if (op == 0xC0 || op == 0xC1) && is_shift_reg reg then
    Some (plain_row (Arithmetic ShiftMi) 1) else
    if op == 0xC3 then Some (plain_row (Flow RetZo) 0) else
    if op == 0xC6 && reg == 0 then Some (plain_row (Move MovMi) 1) else
    if op == 0xC7 && reg == 0 then Some (plain_row (Move MovMi) 4) else
    if op == 0xC9 then Some (plain_row (Flow LeaveZo) 0) else
    if (op == 0xD0 || op == 0xD1) && is_shift_reg reg then
    Some (plain_row (Arithmetic ShiftM1) 0) else
    if (op == 0xD2 || op == 0xD3) && is_shift_reg reg then
    Some (plain_row (Arithmetic ShiftMc) 0) else
    if op == 0xE8 then Some (plain_row (Flow CallD) 4) else
    if op == 0xE9 then Some (plain_row (Flow JmpD) 4) else
    if op == 0xEB then Some (plain_row (Flow JmpD) 1) else
    if op == 0xF6 && reg == 0 then Some (plain_row (Arithmetic TestMi) 1) else
    if op == 0xF7 && reg == 0 then Some (plain_row (Arithmetic TestMi) 4) else
    if (op == 0xF6 || op == 0xF7) && (reg == 2 || reg == 3) then
    Some (with_lock (plain_row (Arithmetic UnaryM) 0)) else
    if (op == 0xFE || op == 0xFF) && nat_lt reg 2 then
    Some (with_lock (plain_row (Arithmetic UnaryM) 0)) else
    if op == 0xFF then (
    if reg == 2 then Some (plain_row (Flow CallM) 0) else
    if reg == 4 then Some (plain_row (Flow JmpM) 0) else
    if reg == 6 then Some (plain_row (Flow PushM) 0) else None) else
    None

-- rows of 00 to 3F
unfoldable pub alu_opcode_row : ℕ → Option Row
alu_opcode_row op =
    if (op % 8 == 0 || op % 8 == 1) && nat_le op 0x37 then
    Some (with_lock (plain_row (Arithmetic AluMr) 0)) else
    if op % 8 == 0 || op % 8 == 1 then Some (plain_row (Arithmetic AluMr) 0) else
    if op % 8 == 2 || op % 8 == 3 then Some (plain_row (Arithmetic AluRm) 0) else
    if op % 8 == 4 then Some (plain_row (Arithmetic AluI) 1) else
    if op % 8 == 5 then Some (plain_row (Arithmetic AluI) 4) else None

-- rows of 40 to BF
unfoldable pub middle_opcode_row : Bool → ℕ → ℕ → Option Row
middle_opcode_row w op m =
    let reg = m / 8 % 8 in
    if within 0x50 0x57 op then Some (plain_row (Flow PushO) 0) else
    if within 0x58 0x5F op then Some (plain_row (Flow PopO) 0) else
    if op == 0x63 && w then Some (plain_row (Move MovSxdRm) 0) else
    if op == 0x68 then Some (plain_row (Flow PushI) 4) else
    if op == 0x69 then Some (plain_row (Arithmetic ImulRmi) 4) else
    if op == 0x6A then Some (plain_row (Flow PushI) 1) else
    if op == 0x6B then Some (plain_row (Arithmetic ImulRmi) 1) else
    if within 0x70 0x7F op then Some (plain_row (Flow JccD) 1) else
    if (op == 0x80 || op == 0x83) && nat_lt reg 7 then
    Some (with_lock (plain_row (Arithmetic AluMi) 1)) else
    if op == 0x80 || op == 0x83 then Some (plain_row (Arithmetic AluMi) 1) else
    if op == 0x81 && nat_lt reg 7 then Some (with_lock (plain_row (Arithmetic AluMi) 4)) else
    if op == 0x81 then Some (plain_row (Arithmetic AluMi) 4) else
    if op == 0x84 || op == 0x85 then Some (plain_row (Arithmetic TestMr) 0) else
    if op == 0x86 || op == 0x87 then Some (with_lock (plain_row (Exchange XchgMr) 0)) else
    if op == 0x88 || op == 0x89 then Some (plain_row (Move MovMr) 0) else
    if op == 0x8A || op == 0x8B then Some (plain_row (Move MovRm) 0) else
    if op == 0x8D && nat_lt m 192 then Some (plain_row (Move LeaRm) 0) else
    if op == 0x98 then Some (plain_row (Move WidenZo) 0) else
    if op == 0x99 then Some (plain_row (Move SpreadZo) 0) else
    if op == 0xA8 then Some (plain_row (Arithmetic TestI) 1) else
    if op == 0xA9 then Some (plain_row (Arithmetic TestI) 4) else
    if within 0xB0 0xB7 op then Some (plain_row (Move MovByteOi) 1) else
    if within 0xB8 0xBF op && w then Some (plain_row (Move MovWideOi) 8) else
    if within 0xB8 0xBF op then Some (plain_row (Move MovOi) 4) else None

-- rows of opcodes of one byte
unfoldable pub one_byte_row : Bool → Bool → ℕ → ℕ → Option Row
one_byte_row f3 w op m =
    if op == 0x90 && f3 then Some (without_rex_b (plain_row (System Nop) 0)) else
    if op == 0x90 then Some (without_rex_b (with_size_prefix (plain_row (System Nop) 0))) else
    if f3 then None else
    if within 0x00 0x3F op then alu_opcode_row op else
    if within 0x40 0xBF op then middle_opcode_row w op m else
    high_opcode_row op m

-- rows of opcodes after the escape opcode 0F
unfoldable pub two_byte_row : Bool → ℕ → ℕ → Option Row
two_byte_row f3 op m =
    let reg = m / 8 % 8 in
    if op == 0x1E && f3 && m == 0xFA then Some (plain_row (System Nop) 0) else
    if f3 then None else
    if op == 0x01 && m == 0xEF then Some (plain_row (System WrpkruZo) 0) else
    if op == 0x01 && m == 0xEE then Some (plain_row (System RdpkruZo) 0) else
    if op == 0x05 then Some (plain_row (System SyscallZo) 0) else
    if op == 0x1F && reg == 0 then Some (with_size_prefix (plain_row (System Nop) 0)) else
    if within 0x40 0x4F op then Some (plain_row (Move CmovRm) 0) else
    if within 0x80 0x8F op then Some (plain_row (Flow JccD) 4) else
    if within 0x90 0x9F op then Some (plain_row (Move SetM) 0) else
    if op == 0xAE && reg == 5 && nat_lt m 192 then Some (plain_row (System XrstorM) 0) else
    if op == 0xAE && (m == 0xE8 || m == 0xF0 || m == 0xF8) then
    Some (plain_row (System FenceZo) 0) else
    if op == 0xAF then Some (plain_row (Arithmetic ImulRm) 0) else
    if op == 0xB0 || op == 0xB1 then Some (with_lock (plain_row (Exchange CmpxchgMr) 0)) else
    if op == 0xB6 then Some (plain_row (Move MovZxByteRm) 0) else
    if op == 0xB7 then Some (plain_row (Move MovZxWordRm) 0) else
    if op == 0xBA && reg == 4 then Some (plain_row (Arithmetic BtMi) 1) else
    if op == 0xBE then Some (plain_row (Move MovSxByteRm) 0) else
    if op == 0xBF then Some (plain_row (Move MovSxWordRm) 0) else
    if op == 0xC0 || op == 0xC1 then Some (with_lock (plain_row (Exchange XaddMr) 0)) else
    None

-- whether a ModRM byte stands after an opcode of one byte
unfoldable pub one_byte_has_modrm : ℕ → Bool
one_byte_has_modrm op =
    if within 0x00 0x3F op then nat_lt (op % 8) 4 else
    op == 0x63 || op == 0x69 || op == 0x6B || op == 0x80 || op == 0x81 || op == 0x83 ||
    within 0x84 0x8B op || op == 0x8D || op == 0xC0 || op == 0xC1 || op == 0xC6 || op == 0xC7 ||
    within 0xD0 0xD3 op || op == 0xF6 || op == 0xF7 || op == 0xFE || op == 0xFF

-- the same after 0F
unfoldable pub two_byte_has_modrm : ℕ → Bool
two_byte_has_modrm op =
    op == 0x01 || op == 0x1E || op == 0x1F || within 0x40 0x4F op || within 0x90 0x9F op ||
    op == 0xAE || op == 0xAF || op == 0xB0 || op == 0xB1 || op == 0xB6 || op == 0xB7 ||
    op == 0xBA || op == 0xBE || op == 0xBF || op == 0xC0 || op == 0xC1

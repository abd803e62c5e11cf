-- The table of instructions. Each row is of SDM volume 2 ("Opcode map", and the instruction's own
-- page); which rows there are is own.
use Rattle.std.specs.Prelude.{ℕ, ◌+◌, ◌*◌, ◌/◌, ◌%◌, Bool, true, false, ◌&&◌, ◌||◌, ◌==◌, not}
use Rattle.std.specs.Prelude.{nat_lt, nat_le, if◌then◌else◌, List, [], ◌∷◌, ◌++◌, Option, Some}
use Rattle.std.specs.Prelude.{None}
use Rattle.erim_defs.specs.declared.grammar.Row.{Row}
use Rattle.erim_defs.specs.declared.grammar.Form.{Form}
use Rattle.erim_defs.specs.declared.grammar.Form.TheVariants.{Arithmetic, Move, Flow, Exchange}
use Rattle.erim_defs.specs.declared.grammar.Form.TheVariants.{System}
use Rattle.erim_defs.specs.declared.grammar.Arithmetic.TheVariants.{AluMr, AluRm, AluI, AluMi}
use Rattle.erim_defs.specs.declared.grammar.Arithmetic.TheVariants.{TestMr, TestI, TestMi, ImulRm}
use Rattle.erim_defs.specs.declared.grammar.Arithmetic.TheVariants.{ImulRmi, UnaryM, ShiftMi}
use Rattle.erim_defs.specs.declared.grammar.Arithmetic.TheVariants.{ShiftM1, ShiftMc, BtMi}
use Rattle.erim_defs.specs.declared.grammar.Move.TheVariants.{MovMr, MovRm, MovByteOi, MovOi, MovMi}
use Rattle.erim_defs.specs.declared.grammar.Move.TheVariants.{MovWideOi, LeaRm, MovSxdRm}
use Rattle.erim_defs.specs.declared.grammar.Move.TheVariants.{MovZxByteRm, MovZxWordRm, MovSxByteRm}
use Rattle.erim_defs.specs.declared.grammar.Move.TheVariants.{MovSxWordRm, WidenZo, SpreadZo}
use Rattle.erim_defs.specs.declared.grammar.Move.TheVariants.{CmovRm, SetM}
use Rattle.erim_defs.specs.declared.grammar.Flow.TheVariants.{JccD, JmpD, CallD, JmpM, CallM, RetZo}
use Rattle.erim_defs.specs.declared.grammar.Flow.TheVariants.{PushO, PushI, PushM, PopO, LeaveZo}
use Rattle.erim_defs.specs.declared.grammar.Exchange.TheVariants.{XchgMr, CmpxchgMr, XaddMr}
use Rattle.erim_defs.specs.declared.grammar.System.TheVariants.{SyscallZo, WrpkruZo, RdpkruZo}
use Rattle.erim_defs.specs.declared.grammar.System.TheVariants.{XrstorM, FenceZo, Nop}

-- a row of a form and the size of its immediate, with neither F0 nor 66
abbrev pub plain_row : Form → ℕ → Row
plain_row form imm =
    record { form = form; imm = imm; locks = false; size_prefix = false; low = false }

-- F0 may stand before it
abbrev pub with_lock : Row → Row
with_lock r = record r { locks = true }

-- 66 may stand before it
abbrev pub with_size_prefix : Row → Row
with_size_prefix r = record r { size_prefix = true }

-- REX.B may not be set
abbrev pub without_rex_b : Row → Row
without_rex_b r = record r { low = true }

-- what a line asks of the byte after its opcode: nothing, a ModRM byte, one with this opcode
-- extension in reg ("/0" to "/7"), one with memory, one with this extension and memory, or this
-- very byte
pub data Ask : Type 0 where
  NoModRM : Ask
  Any : Ask
  Ext : (reg : ℕ) → Ask
  AnyMemory : Ask
  Memory : (reg : ℕ) → Ask
  Exactly : (m : ℕ) → Ask

-- a line of the table: count opcodes from here on, after the escape opcode 0F or not, with F3 or
-- not, with REX.W or without or either; what it asks of ModRM; and the row that they have
pub record Line : Type 0 where
  pub escape : Bool
  pub f3 : Bool
  pub w : Option Bool
  pub from : ℕ
  pub count : ℕ
  pub ask : Ask
  pub row : Row

-- opcodes of one byte
abbrev pub one_byte_opcode : ℕ → ℕ → Ask → Row → Line
one_byte_opcode from count ask row =
    record {
      escape = false;
      f3 = false;
      w = None;
      from = from;
      count = count;
      ask = ask;
      row = row;
    }

-- opcodes after the escape opcode 0F
abbrev pub two_byte_opcode : ℕ → ℕ → Ask → Row → Line
two_byte_opcode from count ask row =
    record { escape = true; f3 = false; w = None; from = from; count = count; ask = ask; row = row }

-- with REX.W, or without it
abbrev pub with_w : Bool → Line → Line
with_w w line = record line { w = Some w }

-- after F3
abbrev pub behind_f3 : Line → Line
behind_f3 line = record line { f3 = true }

-- arithmetic and logic number i: ADD, OR, ADC, SBB, AND, SUB, XOR, CMP; the last takes no F0
abbrev pub alu_lines : ℕ → List Line
alu_lines i =
    let l = λ (r : Row). if i == 7 then r else with_lock r in
    one_byte_opcode (8 * i) 2 Any (l (plain_row (Arithmetic AluMr) 0)) ∷
    one_byte_opcode (8 * i + 2) 2 Any (plain_row (Arithmetic AluRm) 0) ∷
    one_byte_opcode (8 * i + 4) 1 NoModRM (plain_row (Arithmetic AluI) 1) ∷
    one_byte_opcode (8 * i + 5) 1 NoModRM (plain_row (Arithmetic AluI) 4) ∷
    one_byte_opcode 0x80 1 (Ext i) (l (plain_row (Arithmetic AluMi) 1)) ∷
    one_byte_opcode 0x81 1 (Ext i) (l (plain_row (Arithmetic AluMi) 4)) ∷
    one_byte_opcode 0x83 1 (Ext i) (l (plain_row (Arithmetic AluMi) 1)) ∷ []

-- shift number n
abbrev pub shift_lines : ℕ → List Line
shift_lines n =
    one_byte_opcode 0xC0 2 (Ext n) (plain_row (Arithmetic ShiftMi) 1) ∷
    one_byte_opcode 0xD0 2 (Ext n) (plain_row (Arithmetic ShiftM1) 0) ∷
    one_byte_opcode 0xD2 2 (Ext n) (plain_row (Arithmetic ShiftMc) 0) ∷ []

-- all of them
abbrev pub table_lines : List Line
table_lines =
    alu_lines 0 ++ alu_lines 1 ++ alu_lines 2 ++ alu_lines 3 ++ alu_lines 4 ++ alu_lines 5 ++
    alu_lines 6 ++ alu_lines 7 ++
    one_byte_opcode 0x84 2 Any (plain_row (Arithmetic TestMr) 0) ∷
    one_byte_opcode 0xA8 1 NoModRM (plain_row (Arithmetic TestI) 1) ∷
    one_byte_opcode 0xA9 1 NoModRM (plain_row (Arithmetic TestI) 4) ∷
    one_byte_opcode 0xF6 1 (Ext 0) (plain_row (Arithmetic TestMi) 1) ∷
    one_byte_opcode 0xF7 1 (Ext 0) (plain_row (Arithmetic TestMi) 4) ∷
    one_byte_opcode 0x86 2 Any (with_lock (plain_row (Exchange XchgMr) 0)) ∷
    one_byte_opcode 0x88 2 Any (plain_row (Move MovMr) 0) ∷
    one_byte_opcode 0x8A 2 Any (plain_row (Move MovRm) 0) ∷
    one_byte_opcode 0xB0 8 NoModRM (plain_row (Move MovByteOi) 1) ∷
    with_w false (one_byte_opcode 0xB8 8 NoModRM (plain_row (Move MovOi) 4)) ∷
    one_byte_opcode 0xC6 1 (Ext 0) (plain_row (Move MovMi) 1) ∷
    one_byte_opcode 0xC7 1 (Ext 0) (plain_row (Move MovMi) 4) ∷
    with_w true (one_byte_opcode 0xB8 8 NoModRM (plain_row (Move MovWideOi) 8)) ∷
    one_byte_opcode 0x8D 1 AnyMemory (plain_row (Move LeaRm) 0) ∷
    one_byte_opcode 0x50 8 NoModRM (plain_row (Flow PushO) 0) ∷
    one_byte_opcode 0x68 1 NoModRM (plain_row (Flow PushI) 4) ∷
    one_byte_opcode 0x6A 1 NoModRM (plain_row (Flow PushI) 1) ∷
    one_byte_opcode 0xFF 1 (Ext 6) (plain_row (Flow PushM) 0) ∷
    one_byte_opcode 0x58 8 NoModRM (plain_row (Flow PopO) 0) ∷
    with_w true (one_byte_opcode 0x63 1 Any (plain_row (Move MovSxdRm) 0)) ∷
    two_byte_opcode 0xB6 1 Any (plain_row (Move MovZxByteRm) 0) ∷
    two_byte_opcode 0xB7 1 Any (plain_row (Move MovZxWordRm) 0) ∷
    two_byte_opcode 0xBE 1 Any (plain_row (Move MovSxByteRm) 0) ∷
    two_byte_opcode 0xBF 1 Any (plain_row (Move MovSxWordRm) 0) ∷
    two_byte_opcode 0xAF 1 Any (plain_row (Arithmetic ImulRm) 0) ∷
    one_byte_opcode 0x69 1 Any (plain_row (Arithmetic ImulRmi) 4) ∷
    one_byte_opcode 0x6B 1 Any (plain_row (Arithmetic ImulRmi) 1) ∷
    one_byte_opcode 0x70 16 NoModRM (plain_row (Flow JccD) 1) ∷
    two_byte_opcode 0x80 16 NoModRM (plain_row (Flow JccD) 4) ∷
    one_byte_opcode 0xEB 1 NoModRM (plain_row (Flow JmpD) 1) ∷
    one_byte_opcode 0xE9 1 NoModRM (plain_row (Flow JmpD) 4) ∷
    one_byte_opcode 0xE8 1 NoModRM (plain_row (Flow CallD) 4) ∷
    one_byte_opcode 0xFF 1 (Ext 4) (plain_row (Flow JmpM) 0) ∷
    one_byte_opcode 0xFF 1 (Ext 2) (plain_row (Flow CallM) 0) ∷
    one_byte_opcode 0xC3 1 NoModRM (plain_row (Flow RetZo) 0) ∷
    one_byte_opcode 0xC9 1 NoModRM (plain_row (Flow LeaveZo) 0) ∷
    one_byte_opcode 0x98 1 NoModRM (plain_row (Move WidenZo) 0) ∷
    one_byte_opcode 0x99 1 NoModRM (plain_row (Move SpreadZo) 0) ∷ [] ++ shift_lines 4 ++
    shift_lines 5 ++ shift_lines 7 ++
    one_byte_opcode 0xF6 2 (Ext 2) (with_lock (plain_row (Arithmetic UnaryM) 0)) ∷
    one_byte_opcode 0xF6 2 (Ext 3) (with_lock (plain_row (Arithmetic UnaryM) 0)) ∷
    one_byte_opcode 0xFE 2 (Ext 0) (with_lock (plain_row (Arithmetic UnaryM) 0)) ∷
    one_byte_opcode 0xFE 2 (Ext 1) (with_lock (plain_row (Arithmetic UnaryM) 0)) ∷
    two_byte_opcode 0x40 16 Any (plain_row (Move CmovRm) 0) ∷
    two_byte_opcode 0x90 16 Any (plain_row (Move SetM) 0) ∷
    two_byte_opcode 0xBA 1 (Ext 4) (plain_row (Arithmetic BtMi) 1) ∷
    two_byte_opcode 0xB0 2 Any (with_lock (plain_row (Exchange CmpxchgMr) 0)) ∷
    two_byte_opcode 0xC0 2 Any (with_lock (plain_row (Exchange XaddMr) 0)) ∷
    two_byte_opcode 0x05 1 NoModRM (plain_row (System SyscallZo) 0) ∷
    two_byte_opcode 0x01 1 (Exactly 0xEF) (plain_row (System WrpkruZo) 0) ∷
    two_byte_opcode 0x01 1 (Exactly 0xEE) (plain_row (System RdpkruZo) 0) ∷
    two_byte_opcode 0xAE 1 (Memory 5) (plain_row (System XrstorM) 0) ∷
    two_byte_opcode 0xAE 1 (Exactly 0xE8) (plain_row (System FenceZo) 0) ∷
    two_byte_opcode 0xAE 1 (Exactly 0xF0) (plain_row (System FenceZo) 0) ∷
    two_byte_opcode 0xAE 1 (Exactly 0xF8) (plain_row (System FenceZo) 0) ∷
    one_byte_opcode 0x90 1 NoModRM (without_rex_b (with_size_prefix (plain_row (System Nop) 0))) ∷
    behind_f3 (one_byte_opcode 0x90 1 NoModRM (without_rex_b (plain_row (System Nop) 0))) ∷
    two_byte_opcode 0x1F 1 (Ext 0) (with_size_prefix (plain_row (System Nop) 0)) ∷
    behind_f3 (two_byte_opcode 0x1E 1 (Exactly 0xFA) (plain_row (System Nop) 0)) ∷ []

-- ---- which line fits

abbrev pub same_bool : Bool → Bool → Bool
same_bool a b = if a then b else not b

abbrev pub w_fits : Option Bool → Bool → Bool
w_fits None w = true
w_fits (Some v) w = same_bool v w

-- mod 3 is no memory
abbrev pub ask_fits : Ask → ℕ → Bool
ask_fits NoModRM m = true
ask_fits Any m = true
ask_fits AnyMemory m = nat_lt m 192
ask_fits (Ext reg) m = m / 8 % 8 == reg
ask_fits (Memory reg) m = m / 8 % 8 == reg && nat_lt m 192
ask_fits (Exactly n) m = m == n

abbrev pub has_modrm : Ask → Bool
has_modrm NoModRM = false
has_modrm Any = true
has_modrm AnyMemory = true
has_modrm (Ext reg) = true
has_modrm (Memory reg) = true
has_modrm (Exactly m) = true

-- the opcode is one of the line's
abbrev pub in_line : Line → Bool → ℕ → Bool
in_line line escape op =
    same_bool line.escape escape && (nat_le line.from op && nat_lt op (line.from + line.count))

abbrev pub hit : Line → Bool → Bool → Bool → ℕ → ℕ → Bool
hit line escape f3 w op m =
    in_line line escape op && (same_bool line.f3 f3 && (w_fits line.w w && ask_fits line.ask m))

-- the row of the first line that fits
abbrev pub lookup : List Line → Bool → Bool → Bool → ℕ → ℕ → Option Row
lookup [] escape f3 w op m = None
lookup (line ∷ ls) escape f3 w op m =
    if hit line escape f3 w op m then Some line.row else lookup ls escape f3 w op m

-- some line of the opcode asks for a byte after it
abbrev pub any_modrm : List Line → Bool → ℕ → Bool
any_modrm [] escape op = false
any_modrm (line ∷ ls) escape op =
    (in_line line escape op && has_modrm line.ask) || any_modrm ls escape op

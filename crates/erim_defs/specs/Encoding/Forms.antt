-- What each form says of its fields. SDM volume 2, the instructions by name, and "REX prefixes" on
-- byte registers.
use Rattle.std.specs.Prelude.{ℕ, ◌-◌, ◌/◌, ◌%◌, Bool, false, ◌&&◌, ◌==◌, not, nat_lt, nat_le}
use Rattle.std.specs.Prelude.{if◌then◌else◌, List, [], ◌∷◌, Some, None, pos}
use Rattle.std.specs.Int.{w64, from_le_bytes}
use Rattle.erim_defs.specs.declared.grammar.Fields.{Fields}
use Rattle.erim_defs.specs.declared.grammar.Form.{Form}
use Rattle.erim_defs.specs.declared.grammar.Form.TheVariants as forms
use Rattle.erim_defs.specs.declared.grammar.Arithmetic.{Arithmetic}
use Rattle.erim_defs.specs.declared.grammar.Arithmetic.TheVariants as arithmetics
use Rattle.erim_defs.specs.declared.grammar.Move.{Move}
use Rattle.erim_defs.specs.declared.grammar.Move.TheVariants as moves
use Rattle.erim_defs.specs.declared.grammar.Flow.{Flow}
use Rattle.erim_defs.specs.declared.grammar.Flow.TheVariants as flows
use Rattle.erim_defs.specs.declared.grammar.Exchange.{Exchange}
use Rattle.erim_defs.specs.declared.grammar.Exchange.TheVariants as exchanges
use Rattle.erim_defs.specs.declared.grammar.System.{System}
use Rattle.erim_defs.specs.declared.grammar.System.TheVariants as systems
use Rattle.erim_defs.specs.declared.insn.Base.TheVariants as bases
use Rattle.erim_defs.specs.declared.insn.Mem.{Mem}
use Rattle.erim_defs.specs.declared.insn.Place.{Place}
use Rattle.erim_defs.specs.declared.insn.Place.TheVariants.{Reg, High, At}
use Rattle.erim_defs.specs.declared.insn.Src.TheVariants.{From, Imm}
use Rattle.erim_defs.specs.declared.insn.By.TheVariants.{Count, Cl}
use Rattle.erim_defs.specs.declared.insn.Width.{Width}
use Rattle.erim_defs.specs.declared.insn.Width.TheVariants.{W1, W4, W8}
use Rattle.erim_defs.specs.declared.insn.AluOp.{AluOp}
use Rattle.erim_defs.specs.declared.insn.AluOp.TheVariants.{Add, Or, Adc, Sbb, And, Sub, Xor, Cmp}
use Rattle.erim_defs.specs.declared.insn.UnaryOp.{UnaryOp}
use Rattle.erim_defs.specs.declared.insn.UnaryOp.TheVariants.{Not, Neg, Inc, Dec}
use Rattle.erim_defs.specs.declared.insn.ShiftOp.{ShiftOp}
use Rattle.erim_defs.specs.declared.insn.ShiftOp.TheVariants.{Shl, Shr, Sar}
use Rattle.erim_defs.specs.declared.insn.Insn.{Insn}
use Rattle.erim_defs.specs.declared.insn.Insn.TheVariants.{Alu, Test, Xchg, Mov, MovWide, Lea, Push}
use Rattle.erim_defs.specs.declared.insn.Insn.TheVariants.{Pop, MovSxd, MovZx, MovSx, Imul, Jcc}
use Rattle.erim_defs.specs.declared.insn.Insn.TheVariants.{Jmp, Call, JmpTo, CallTo, Ret, Leave}
use Rattle.erim_defs.specs.declared.insn.Insn.TheVariants.{Widen, Spread, Shift, Unary, Cmov, Set}
use Rattle.erim_defs.specs.declared.insn.Insn.TheVariants.{Bt, Cmpxchg, Xadd, Syscall, Wrpkru}
use Rattle.erim_defs.specs.declared.insn.Insn.TheVariants.{Rdpkru, Xrstor, Fence, Nop}
use Rattle.erim_defs.specs.Encoding.Parts.{signed_value}
use Rattle.erim_defs.specs.Encoding.Operand.{reg_with_bit}

-- one byte where the opcode is even, else 8 with REX.W and 4 without
unfoldable pub operand_width : Fields → Width
operand_width f = if f.op % 2 == 0 then W1 else if f.rex.w then W8 else W4

-- by REX.W alone: 8 bytes with it and 4 without
unfoldable pub rex_width : Fields → Width
rex_width f = if f.rex.w then W8 else W4

-- the register of a number; byte registers 4 to 7 without REX are AH, CH, DH and BH
unfoldable pub register_named : Width → Bool → ℕ → Place
register_named W1 any n = if not any && (nat_le 4 n && nat_lt n 8) then High (n - 4) else Reg n
register_named w any n = Reg n

-- what r/m names
unfoldable pub rm_place : Fields → Place
rm_place f =
    elim f.place [
      | Reg n ↦ register_named (operand_width f) f.rex.any n
      | High n ↦ High n
      | At m ↦ At m
    ]

-- what r/m names, of one byte
unfoldable pub byte_rm_place : Fields → Place
byte_rm_place f =
    elim f.place [ Reg n ↦ register_named W1 f.rex.any n | High n ↦ High n | At m ↦ At m ]

-- what reg names
unfoldable pub reg_place : Fields → Place
reg_place f = register_named (operand_width f) f.rex.any (reg_with_bit f.rex.r (f.m / 8 % 8))

-- the number of the register that reg names
unfoldable pub reg_number : Fields → ℕ
reg_number f = reg_with_bit f.rex.r (f.m / 8 % 8)

-- what r/m names where a row takes memory alone; no row comes to its last line
unfoldable pub memory_of : Place → Mem
memory_of (At m) = m
memory_of place = record { base = bases.Zero; index = None; scale = 0; disp = pos 0 }

abbrev pub accumulator : Place
accumulator = Reg 0

-- the register in the opcode
unfoldable pub opcode_reg : Fields → ℕ
opcode_reg f = reg_with_bit f.rex.b (f.op % 8)

unfoldable pub alu_op : ℕ → AluOp
alu_op n =
    if n == 0 then Add else if n == 1 then Or else if n == 2 then Adc else if n == 3 then Sbb else
    if n == 4 then And else if n == 5 then Sub else if n == 6 then Xor else Cmp

-- by the opcode extension of opcodes 0xF6, 0xF7, 0xFE and 0xFF
unfoldable pub unary_op : ℕ → UnaryOp
unary_op n = if n == 0 then Inc else if n == 1 then Dec else if n == 2 then Not else Neg

-- by the opcode extension of opcodes 0xC0, 0xC1 and 0xD0 to 0xD3
unfoldable pub shift_op : ℕ → ShiftOp
shift_op n = if n == 4 then Shl else if n == 5 then Shr else Sar

-- an immediate of one byte, without sign
unfoldable pub imm8 : List ℕ → ℕ
imm8 (b ∷ bs) = b
imm8 [] = 0

-- an immediate of 8 bytes, without sign
unfoldable pub imm64 : List ℕ → ℕ
imm64 (a ∷ b ∷ c ∷ d ∷ e ∷ f ∷ g ∷ h ∷ []) = from_le_bytes w64 (a ∷ b ∷ c ∷ d ∷ e ∷ f ∷ g ∷ h ∷ [])
imm64 imm = 0

-- ---- the instruction of a form, with these fields and the bytes of its immediate

unfoldable pub arithmetic_of : Arithmetic → Fields → List ℕ → Insn
arithmetic_of arithmetics.AluMr f imm =
    Alu (alu_op (f.op / 8)) (operand_width f) (rm_place f) (From (reg_place f)) f.lock
arithmetic_of arithmetics.AluRm f imm =
    Alu (alu_op (f.op / 8)) (operand_width f) (reg_place f) (From (rm_place f)) false
arithmetic_of arithmetics.AluI f imm =
    Alu (alu_op (f.op / 8)) (operand_width f) accumulator (Imm (signed_value imm)) false
arithmetic_of arithmetics.AluMi f imm =
    Alu (alu_op (f.m / 8 % 8)) (operand_width f) (rm_place f) (Imm (signed_value imm)) f.lock
arithmetic_of arithmetics.TestMr f imm = Test (operand_width f) (rm_place f) (From (reg_place f))
arithmetic_of arithmetics.TestI f imm = Test (operand_width f) accumulator (Imm (signed_value imm))
arithmetic_of arithmetics.TestMi f imm =
    Test (operand_width f) (rm_place f) (Imm (signed_value imm))
arithmetic_of arithmetics.ImulRm f imm = Imul (rex_width f) (reg_number f) f.place None
arithmetic_of arithmetics.ImulRmi f imm =
    Imul (rex_width f) (reg_number f) f.place (Some (signed_value imm))
arithmetic_of arithmetics.UnaryM f imm =
    Unary (unary_op (f.m / 8 % 8)) (operand_width f) (rm_place f) f.lock
arithmetic_of arithmetics.ShiftMi f imm =
    Shift (shift_op (f.m / 8 % 8)) (operand_width f) (rm_place f) (Count (imm8 imm))
arithmetic_of arithmetics.ShiftM1 f imm =
    Shift (shift_op (f.m / 8 % 8)) (operand_width f) (rm_place f) (Count 1)
arithmetic_of arithmetics.ShiftMc f imm =
    Shift (shift_op (f.m / 8 % 8)) (operand_width f) (rm_place f) Cl
arithmetic_of arithmetics.BtMi f imm = Bt (rex_width f) f.place (imm8 imm)

unfoldable pub move_of : Move → Fields → List ℕ → Insn
move_of moves.MovMr f imm = Mov (operand_width f) (rm_place f) (From (reg_place f))
move_of moves.MovRm f imm = Mov (operand_width f) (reg_place f) (From (rm_place f))
move_of moves.MovByteOi f imm =
    Mov W1 (register_named W1 f.rex.any (opcode_reg f)) (Imm (signed_value imm))
move_of moves.MovOi f imm = Mov W4 (Reg (opcode_reg f)) (Imm (signed_value imm))
move_of moves.MovMi f imm = Mov (operand_width f) (rm_place f) (Imm (signed_value imm))
move_of moves.MovWideOi f imm = MovWide (opcode_reg f) (imm64 imm)
move_of moves.LeaRm f imm = Lea (rex_width f) (reg_number f) (memory_of f.place)
move_of moves.MovSxdRm f imm = MovSxd (reg_number f) f.place
move_of moves.MovZxByteRm f imm = MovZx (rex_width f) (reg_number f) 1 (byte_rm_place f)
move_of moves.MovZxWordRm f imm = MovZx (rex_width f) (reg_number f) 2 f.place
move_of moves.MovSxByteRm f imm = MovSx (rex_width f) (reg_number f) 1 (byte_rm_place f)
move_of moves.MovSxWordRm f imm = MovSx (rex_width f) (reg_number f) 2 f.place
move_of moves.WidenZo f imm = Widen (rex_width f)
move_of moves.SpreadZo f imm = Spread (rex_width f)
move_of moves.CmovRm f imm = Cmov (f.op % 16) (rex_width f) (reg_number f) f.place
move_of moves.SetM f imm = Set (f.op % 16) (byte_rm_place f)

unfoldable pub flow_of : Flow → Fields → List ℕ → Insn
flow_of flows.JccD f imm = Jcc (f.op % 16) (signed_value imm)
flow_of flows.JmpD f imm = Jmp (signed_value imm)
flow_of flows.CallD f imm = Call (signed_value imm)
flow_of flows.JmpM f imm = JmpTo f.place
flow_of flows.CallM f imm = CallTo f.place
flow_of flows.RetZo f imm = Ret
flow_of flows.PushO f imm = Push (From (Reg (opcode_reg f)))
flow_of flows.PushI f imm = Push (Imm (signed_value imm))
flow_of flows.PushM f imm = Push (From f.place)
flow_of flows.PopO f imm = Pop (opcode_reg f)
flow_of flows.LeaveZo f imm = Leave

unfoldable pub exchange_of : Exchange → Fields → List ℕ → Insn
exchange_of exchanges.XchgMr f imm = Xchg (operand_width f) (rm_place f) (reg_place f) f.lock
exchange_of exchanges.CmpxchgMr f imm = Cmpxchg (operand_width f) (rm_place f) (reg_place f) f.lock
exchange_of exchanges.XaddMr f imm = Xadd (operand_width f) (rm_place f) (reg_place f) f.lock

unfoldable pub system_of : System → Fields → List ℕ → Insn
system_of systems.SyscallZo f imm = Syscall
system_of systems.WrpkruZo f imm = Wrpkru
system_of systems.RdpkruZo f imm = Rdpkru
system_of systems.XrstorM f imm = Xrstor (memory_of f.place)
system_of systems.FenceZo f imm = Fence (f.m / 8 % 8)
system_of systems.Nop f imm = Nop

unfoldable pub insn_of : Form → Fields → List ℕ → Insn
insn_of (forms.Arithmetic v) f imm = arithmetic_of v f imm
insn_of (forms.Move v) f imm = move_of v f imm
insn_of (forms.Flow v) f imm = flow_of v f imm
insn_of (forms.Exchange v) f imm = exchange_of v f imm
insn_of (forms.System v) f imm = system_of v f imm

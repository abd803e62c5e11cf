-- What each kind of instruction wants. SDM volume 2, the instructions by name. Own: a failing
-- CMPXCHG leaves a register destination as it was; a branch may lead anywhere; of XRSTOR all but
-- its encoding.
use Rattle.std.specs.Prelude.{ℕ, ◌+◌, ◌-◌, ◌*◌, ◌/◌, ◌%◌, ◌^◌, ◌==◌, ◌&&◌, not, Bool, Option}
use Rattle.std.specs.Prelude.{Some, None, if◌then◌else◌, ℤ, List, [], ◌∷◌, zero, suc, slice_index}
use Rattle.std.specs.Prelude.{bit_or}
use Rattle.erim_defs.specs.declared.machine.Thread.{Thread}
use Rattle.erim_defs.specs.declared.machine.Outcome.{Outcome}
use Rattle.erim_defs.specs.declared.insn.Insn.{Insn}
use Rattle.erim_defs.specs.declared.insn.Insn.TheVariants.{Alu, Test, Xchg, Mov, MovWide, Lea, Push}
use Rattle.erim_defs.specs.declared.insn.Insn.TheVariants.{Pop, MovSxd, MovZx, MovSx, Imul, Jcc}
use Rattle.erim_defs.specs.declared.insn.Insn.TheVariants.{Jmp}
use Rattle.erim_defs.specs.declared.insn.Insn.TheVariants.{Call as CallInsn, JmpTo, CallTo, Ret}
use Rattle.erim_defs.specs.declared.insn.Insn.TheVariants.{Leave, Widen, Spread, Shift, Unary, Cmov}
use Rattle.erim_defs.specs.declared.insn.Insn.TheVariants.{Set, Bt, Cmpxchg, Xadd, Syscall, Wrpkru}
use Rattle.erim_defs.specs.declared.insn.Insn.TheVariants.{Rdpkru, Xrstor, Fence, Nop}
use Rattle.erim_defs.specs.declared.insn.AluOp.{AluOp}
use Rattle.erim_defs.specs.declared.insn.AluOp.TheVariants.{Add, And, Cmp}
use Rattle.erim_defs.specs.declared.insn.ShiftOp.{ShiftOp}
use Rattle.erim_defs.specs.declared.insn.UnaryOp.{UnaryOp}
use Rattle.erim_defs.specs.declared.insn.By.{By}
use Rattle.erim_defs.specs.declared.insn.By.TheVariants.{Count, Cl}
use Rattle.erim_defs.specs.declared.insn.Mem.{Mem}
use Rattle.erim_defs.specs.declared.insn.Place.{Place}
use Rattle.erim_defs.specs.declared.insn.Place.TheVariants.{At}
use Rattle.erim_defs.specs.declared.insn.Src.{Src}
use Rattle.erim_defs.specs.declared.insn.Width.{Width}
use Rattle.erim_defs.specs.declared.insn.Width.TheVariants.{W1, W8}
use Rattle.erim_defs.specs.declared.register.TheConstants.{RAX, RBP, RCX, RDX, RSP}
use Rattle.erim_defs.specs.Bits.{has_bit}
use Rattle.erim_defs.specs.Inspection.Check.{pkru_bit}
use Rattle.erim_defs.specs.Machine.Alu.{alu, imul, unary, shift, bt, condition, is_negative}
use Rattle.erim_defs.specs.Machine.Plan.{Plan, Ask, Give, Refuse, Call}
use Rattle.erim_defs.specs.Machine.Registers.{byte_count, int_width, low_bytes, sign_extended}
use Rattle.erim_defs.specs.Machine.Registers.{register, with_register, low_half, eax, operand}
use Rattle.erim_defs.specs.Machine.Registers.{with_low, with_operand, with_flags, next_rip, onward}
use Rattle.erim_defs.specs.Machine.Registers.{jump}
use Rattle.erim_defs.specs.Machine.Operands.{address, on_place, immediate, on_source, write_to}
use Rattle.erim_defs.specs.Machine.Operands.{raised_rsp, push}

-- ---- arithmetic and logic

-- CMP writes nothing
abbrev pub write_outcome : AluOp → Width → Place → ℕ → Thread → Outcome → Plan
write_outcome Cmp w dst len t o = Give (with_flags (onward len t) o.flags) None
write_outcome op w dst len t o = write_to w dst len t (with_flags (onward len t) o.flags) o.value

unfoldable pub plan_alu : AluOp → Width → Place → Src → ℕ → Thread → Plan
plan_alu op w dst src len t = on_place (byte_count w) dst len t (λ a. on_source w src len t (λ b.
    write_outcome op w dst len t (alu op (int_width w) a b t.flags)))

-- the flags of AND
unfoldable pub plan_test : Width → Place → Src → ℕ → Thread → Plan
plan_test w first src len t = on_place (byte_count w) first len t (λ a. on_source w src len t (λ b.
    Give (with_flags (onward len t) (alu And (int_width w) a b t.flags).flags) None))

unfoldable pub plan_unary : UnaryOp → Width → Place → ℕ → Thread → Plan
plan_unary op w dst len t = on_place (byte_count w) dst len t (λ a.
    let o = unary op (int_width w) a t.flags in
    write_to w dst len t (with_flags (onward len t) o.flags) o.value)

-- CL is the low byte of RCX
abbrev pub count_of : By → Thread → ℕ
count_of (Count n) t = n
count_of Cl t = low_bytes 1 (register t RCX)

-- a shift by 0 writes its operand too
unfoldable pub plan_shift : ShiftOp → Width → Place → By → ℕ → Thread → Plan
plan_shift op w dst by len t = on_place (byte_count w) dst len t (λ a.
    let o = shift op (int_width w) a (count_of by t) t.flags in
    write_to w dst len t (with_flags (onward len t) o.flags) o.value)

-- the register itself is a factor where there is no immediate
abbrev pub factor : Width → Option ℤ → ℕ → Thread → ℕ
factor w None r t = low_bytes (byte_count w) (register t r)
factor w (Some i) r t = immediate w i

unfoldable pub plan_imul : Width → ℕ → Place → Option ℤ → ℕ → Thread → Plan
plan_imul w r place i len t = on_place (byte_count w) place len t (λ a.
    let o = imul (int_width w) a (factor w i r t) t.flags in
    Give (with_low w (with_flags (onward len t) o.flags) r o.value) None)

unfoldable pub plan_bt : Width → Place → ℕ → ℕ → Thread → Plan
plan_bt w place bit len t = on_place (byte_count w) place len t (λ a.
    Give (with_flags (onward len t) (bt (int_width w) a bit t.flags)) None)

-- ---- moves

unfoldable pub plan_mov : Width → Place → Src → ℕ → Thread → Plan
plan_mov w dst src len t = on_source w src len t (λ x. write_to w dst len t (onward len t) x)

-- a register and an operand; the register is written first, the operand then
unfoldable pub plan_xchg : Width → Place → Place → ℕ → Thread → Plan
plan_xchg w place r len t = on_place (byte_count w) place len t (λ x.
    write_to w place len t (with_operand w r (onward len t) x) (operand (byte_count w) r t))

unfoldable pub plan_lea : Width → ℕ → Mem → ℕ → Thread → Plan
plan_lea w r m len t =
    Give (with_low w (onward len t) r (low_bytes (byte_count w) (address m len t))) None

-- MOVSX and MOVZX extend 1 byte or 2
abbrev pub extended_bytes : ℕ → ℕ
extended_bytes from = if from == 1 then 1 else 2

-- n bytes are extended with their sign to the width
unfoldable pub plan_movsx : Width → ℕ → ℕ → Place → ℕ → Thread → Plan
plan_movsx w r n src len t = on_place n src len t (λ x.
    Give (with_low w (onward len t) r (low_bytes (byte_count w) (sign_extended n x))) None)

-- n bytes are extended with zeros
unfoldable pub plan_movzx : Width → ℕ → ℕ → Place → ℕ → Thread → Plan
plan_movzx w r n src len t = on_place n src len t (λ x.
    Give (with_low w (onward len t) r (low_bytes (byte_count w) x)) None)

-- the source is loaded also where the condition fails; then 4 bytes clear the upper half too
unfoldable pub plan_cmov : ℕ → Width → ℕ → Place → ℕ → Thread → Plan
plan_cmov c w r src len t = on_place (byte_count w) src len t (λ x.
    Give (with_low w (onward len t) r
    (if condition c t.flags then x else low_bytes (byte_count w) (register t r))) None)

unfoldable pub plan_set : ℕ → Place → ℕ → Thread → Plan
plan_set c dst len t = write_to W1 dst len t (onward len t) (if condition c t.flags then 1 else 0)

-- CWDE and CDQE: half of RAX is extended with its sign to the width
unfoldable pub plan_widen : Width → ℕ → Thread → Plan
plan_widen w len t = (let half = byte_count w / 2 in
    Give (with_low w (onward len t) RAX
    (low_bytes (byte_count w) (sign_extended half (low_bytes half (register t RAX))))) None)

-- CDQ and CQO: RDX is all ones where RAX is negative, else 0
unfoldable pub plan_spread : Width → ℕ → Thread → Plan
plan_spread w len t =
    Give (with_low w (onward len t) RDX
    (if is_negative (int_width w) (low_bytes (byte_count w) (register t RAX))
    then 2 ^ (8 * byte_count w) - 1 else 0)) None

-- ---- the stack, jumps and calls

-- the value is taken before RSP is lowered
unfoldable pub plan_push : Src → ℕ → Thread → Plan
plan_push src len t = on_source W8 src len t (λ x. push (onward len t) x)

-- RSP is raised before the register is written
unfoldable pub plan_pop : ℕ → ℕ → Thread → Plan
plan_pop r len t = Ask (register t RSP) 8 (λ x.
    Give (with_register (with_register (onward len t) RSP (raised_rsp (register t RSP))) r x) None)

-- RSP becomes RBP, and RBP is popped
unfoldable pub plan_leave : ℕ → Thread → Plan
plan_leave len t = Ask (register t RBP) 8 (λ x.
    Give (with_register (with_register (onward len t) RSP (raised_rsp (register t RBP))) RBP x)
    None)

unfoldable pub plan_jcc : ℕ → ℤ → ℕ → Thread → Plan
plan_jcc c rel len t = Give (if condition c t.flags then jump len rel t else onward len t) None

unfoldable pub plan_call : ℤ → ℕ → Thread → Plan
plan_call rel len t = push (jump len rel t) (next_rip len t)

unfoldable pub plan_jmp_to : Place → ℕ → Thread → Plan
plan_jmp_to place len t = on_place 8 place len t (λ x. Give (record t { rip = x }) None)

unfoldable pub plan_call_to : Place → ℕ → Thread → Plan
plan_call_to place len t =
    on_place 8 place len t (λ x. push (record t { rip = x }) (next_rip len t))

unfoldable pub plan_ret : Thread → Plan
plan_ret t = Ask (register t RSP) 8 (λ x.
    Give (with_register (record t { rip = x }) RSP (raised_rsp (register t RSP))) None)

-- ---- exchanges that are locked

-- a + b to the destination, the old destination to the register
unfoldable pub plan_xadd : Width → Place → Place → ℕ → Thread → Plan
plan_xadd w dst r len t = on_place (byte_count w) dst len t (λ a.
    let o = alu Add (int_width w) a (operand (byte_count w) r t) t.flags in
    write_to w dst len t (with_operand w r (with_flags (onward len t) o.flags) a) o.value)

-- memory is stored with what it held, a register isn't written
abbrev pub write_back : Width → Place → ℕ → Thread → Thread → ℕ → Plan
write_back w (At m) len t next a = write_to w (At m) len t next a
write_back w place len t next a = Give next None

-- a is the destination; where RAX has it the register goes there, else it goes to RAX
unfoldable pub plan_cmpxchg : Width → Place → Place → ℕ → Thread → Plan
plan_cmpxchg w dst r len t = on_place (byte_count w) dst len t (λ a.
    let x = low_bytes (byte_count w) (register t RAX) in
    let next = with_flags (onward len t) (alu Cmp (int_width w) x a t.flags).flags in
    if x == a then write_to w dst len t next (operand (byte_count w) r t)
    else write_back w dst len t (with_low w next RAX a) a)

-- ---- PKRU

-- WRPKRU needs ECX and EDX 0
unfoldable pub plan_wrpkru : ℕ → Thread → Plan
plan_wrpkru len t =
    if low_half (register t RCX) == 0 && low_half (register t RDX) == 0
    then Give (record (onward len t) { pkru = eax t }) None else Refuse

-- RDPKRU needs ECX 0, and clears RDX
unfoldable pub plan_rdpkru : ℕ → Thread → Plan
plan_rdpkru len t = if low_half (register t RCX) == 0
    then Give (with_register (with_register (onward len t) RAX t.pkru) RDX 0) None else Refuse

-- XRSTOR. XCR0 is 0x203: x87, SSE and, by bit 9, PKRU. The header of an area is its 64 bytes from
-- 512 on: XSTATE_BV, and two numbers that have to be 0. PKRU is at 2688.

-- loads n numbers of 8 bytes from an address on, one after the other
unfoldable pub on_numbers : ℕ → ℕ → (List ℕ → Plan) → Plan
on_numbers zero a k = k []
on_numbers (suc n) a k = Ask (a % 2 ^ 64) 8 (λ x. on_numbers n (a + 8) (λ xs. k (x ∷ xs)))

-- no component but those of XCR0, in the one form that is read
abbrev pub is_header : List ℕ → Bool
is_header xs = (bit_or (slice_index xs 0) 0x203 == 0x203)
    && (slice_index xs 1 == 0) && (slice_index xs 2 == 0)

-- PKRU is restored where bit 9 of EAX asks it: from the area where XSTATE_BV has it, else to 0
abbrev pub restore_pkru : ℕ → List ℕ → ℕ → Thread → Plan
restore_pkru area header len t =
    if not (has_bit (eax t) pkru_bit) then Give (onward len t) None
    else if has_bit (slice_index header 0) pkru_bit
    then Ask ((area + 2688) % 2 ^ 64) 4 (λ x. Give (record (onward len t) { pkru = x }) None)
    else Give (record (onward len t) { pkru = 0 }) None

unfoldable pub plan_xrstor : Mem → ℕ → Thread → Plan
plan_xrstor m len t = (let area = address m len t in
    if area % 64 == 0
    then on_numbers 8 (area + 512)
    (λ header. if is_header header then restore_pkru area header len t else Refuse)
    else Refuse)

-- ---- all kinds

unfoldable pub plan : Insn → ℕ → Thread → Plan
plan (Alu op w dst src lock) len t = plan_alu op w dst src len t
plan (Test w a src) len t = plan_test w a src len t
plan (Xchg w a r lock) len t = plan_xchg w a r len t
plan (Mov w dst src) len t = plan_mov w dst src len t
plan (MovWide r imm) len t = Give (with_register (onward len t) r imm) None
plan (Lea w r m) len t = plan_lea w r m len t
plan (Push src) len t = plan_push src len t
plan (Pop r) len t = plan_pop r len t
plan (MovSxd r src) len t = plan_movsx W8 r 4 src len t
plan (MovZx w r from src) len t = plan_movzx w r (extended_bytes from) src len t
plan (MovSx w r from src) len t = plan_movsx w r (extended_bytes from) src len t
plan (Imul w r a b) len t = plan_imul w r a b len t
plan (Jcc c rel) len t = plan_jcc c rel len t
plan (Jmp rel) len t = Give (jump len rel t) None
plan (CallInsn rel) len t = plan_call rel len t
plan (JmpTo to) len t = plan_jmp_to to len t
plan (CallTo to) len t = plan_call_to to len t
plan Ret len t = plan_ret t
plan Leave len t = plan_leave len t
plan (Widen w) len t = plan_widen w len t
plan (Spread w) len t = plan_spread w len t
plan (Shift op w dst by) len t = plan_shift op w dst by len t
plan (Unary op w dst lock) len t = plan_unary op w dst len t
plan (Cmov c w r src) len t = plan_cmov c w r src len t
plan (Set c dst) len t = plan_set c dst len t
plan (Bt w a bit) len t = plan_bt w a bit len t
plan (Cmpxchg w dst r lock) len t = plan_cmpxchg w dst r len t
plan (Xadd w dst r lock) len t = plan_xadd w dst r len t
plan Syscall len t = Call
plan Wrpkru len t = plan_wrpkru len t
plan Rdpkru len t = plan_rdpkru len t
plan (Xrstor m) len t = plan_xrstor m len t
plan (Fence kind) len t = Give (onward len t) None
plan Nop len t = Give (onward len t) None

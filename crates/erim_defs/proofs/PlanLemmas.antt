-- What instructions leave as they were: a line for each part of a plan, and one for each kind.
use Rattle.std.proofs.Common.{◌≡◌, ◌≢◌, ℕ, zero, suc, ◌+◌, ◌%◌, ◌^◌, ◌==◌, ◌&&◌, length, Option}
use Rattle.std.proofs.Common.{Some, None, Bool, true, false, cond, eqb, List, [], ◌∷◌, refl, sym}
use Rattle.std.proofs.Common.{subst, ◌∙◌, length-set, inl, inr}
use Rattle.std.specs.Prelude.{ℤ, slice_index}
use Rattle.std.proofs.lemmas.Bool.{cases_Bool}
use Rattle.erim_defs.specs.declared.machine.Thread.{Thread}
use Rattle.erim_defs.specs.declared.machine.Flags.{Flags}
use Rattle.erim_defs.specs.declared.machine.Outcome.{Outcome}
use Rattle.erim_defs.specs.declared.machine.Access.{Access}
use Rattle.erim_defs.specs.declared.insn.Insn.{Insn}
use Rattle.erim_defs.specs.declared.insn.Insn.TheVariants.{Alu, Test, Xchg, Mov, MovWide, Lea, Push}
use Rattle.erim_defs.specs.declared.insn.Insn.TheVariants.{Pop, MovSxd, MovZx, MovSx, Imul, Jcc}
use Rattle.erim_defs.specs.declared.insn.Insn.TheVariants.{Jmp, Call as CallInsn, JmpTo, CallTo}
use Rattle.erim_defs.specs.declared.insn.Insn.TheVariants.{Ret, Leave, Widen, Spread, Shift, Unary}
use Rattle.erim_defs.specs.declared.insn.Insn.TheVariants.{Cmov, Set, Bt, Cmpxchg, Xadd, Syscall}
use Rattle.erim_defs.specs.declared.insn.Insn.TheVariants.{Wrpkru, Rdpkru, Xrstor, Fence, Nop}
use Rattle.erim_defs.specs.declared.insn.AluOp.{AluOp}
use Rattle.erim_defs.specs.declared.insn.AluOp.TheVariants.{Cmp}
use Rattle.erim_defs.specs.declared.insn.ShiftOp.{ShiftOp}
use Rattle.erim_defs.specs.declared.insn.UnaryOp.{UnaryOp}
use Rattle.erim_defs.specs.declared.insn.By.{By}
use Rattle.erim_defs.specs.declared.insn.Mem.{Mem}
use Rattle.erim_defs.specs.declared.insn.Place.{Place}
use Rattle.erim_defs.specs.declared.insn.Place.TheVariants.{Reg, High, At}
use Rattle.erim_defs.specs.declared.insn.Src.{Src}
use Rattle.erim_defs.specs.declared.insn.Src.TheVariants.{From, Imm}
use Rattle.erim_defs.specs.declared.insn.Width.{Width}
use Rattle.erim_defs.specs.declared.insn.Width.TheVariants.{W1, W4, W8}
use Rattle.erim_defs.specs.Machine.Pages.{ByteMap, word}
use Rattle.erim_defs.specs.Machine.Access.{Seen, stop}
use Rattle.erim_defs.specs.Machine.Plan.{Plan, Ask, Give, Refuse, Call, Write, Effect, Done, effect}
use Rattle.erim_defs.specs.Machine.Plan.{unless, effect_of_write}
use Rattle.erim_defs.specs.Machine.Registers.{byte_count, operand, register, with_register}
use Rattle.erim_defs.specs.Machine.Registers.{with_low, with_operand, with_flags, onward}
use Rattle.erim_defs.specs.Machine.Registers.{jump, next_rip, low_half, eax}
use Rattle.erim_defs.specs.Machine.Operands.{address, on_place, on_source, write_to, push}
use Rattle.erim_defs.specs.Machine.Alu.{condition}
use Rattle.erim_defs.specs.Machine.Meaning.{plan, plan_alu, plan_test, plan_unary, plan_shift}
use Rattle.erim_defs.specs.Machine.Meaning.{plan_imul, plan_bt, plan_mov, plan_xchg, plan_lea}
use Rattle.erim_defs.specs.Machine.Meaning.{plan_movsx, plan_movzx, plan_cmov, plan_set, plan_widen}
use Rattle.erim_defs.specs.Machine.Meaning.{plan_spread, plan_push, plan_pop, plan_leave, plan_jcc}
use Rattle.erim_defs.specs.Machine.Meaning.{plan_call, plan_jmp_to, plan_call_to, plan_ret}
use Rattle.erim_defs.specs.Machine.Meaning.{plan_xadd, plan_cmpxchg, plan_rdpkru, write_outcome}
use Rattle.erim_defs.specs.Machine.Meaning.{write_back, plan_wrpkru, plan_xrstor, on_numbers}
use Rattle.erim_defs.specs.Machine.Meaning.{is_header, restore_pkru}
use Rattle.erim_defs.specs.Machine.Step.{writes_pkru}
use Rattle.erim_defs.specs.Bits.{has_bit}
use Rattle.erim_defs.specs.Inspection.Check.{pkru_bit}

-- ---- what comes of a plan

-- every result that a plan can give, whatever it loads
abbrev pub AllGive : (Thread → Option Write → Type 0) → Plan → Type 0
AllGive P (Ask a n k) = (v : ℕ) → AllGive P (k v)
AllGive P (Give t w) = P t w
AllGive P Refuse = Unit {0}
AllGive P Call = Unit {0}

pub unless_done : (x : Option Access) (d : Effect) (t : Thread) (w : Option Write)
    → unless x d ≡ Done t w → (x ≡ None) × (d ≡ Done t w)
unless_done None d t w h = (refl, h)
unless_done (Some a) d t w h = absurd cc

pair_of : (P : Thread → Option Write → Type 0) (t u : Thread) (v w : Option Write)
    → Done t v ≡ Done u w → P t v → P u w
pair_of P t u v w h p = let e : t ≡ u = cc in let f : v ≡ w = cc in
    subst (λ (x : Option Write). P u x) f (subst (λ (x : Thread). P x v) e p)

given_gives : (P : Thread → Option Write → Type 0) (t new : Thread) (o w : Option Write)
    (seen : Seen) (pkru : ℕ) → P t o → effect_of_write t o seen pkru ≡ Done new w → P new w
given_gives P t new None w seen pkru p h = pair_of P t new None w h p
given_gives P t new (Some x) w seen pkru p h = pair_of P t new (Some x) w
    (unless_done (stop seen true pkru x.addr x.count) (Done t (Some x)) new w h).1 p

-- what all results of a plan have, the result has
pub does_gives : (P : Thread → Option Write → Type 0) (p : Plan) (seen : Seen) (bytes : ByteMap)
    (pkru rip : ℕ) (new : Thread) (w : Option Write)
    → AllGive P p → effect p seen bytes pkru rip ≡ Done new w → P new w
unfolding effect
does_gives P (Ask a n k) seen bytes pkru rip new w all h =
    does_gives P (k (word bytes a n)) seen bytes pkru rip new w (all (word bytes a n))
    (unless_done (stop seen false pkru a n) (effect (k (word bytes a n)) seen bytes pkru rip) new w
    h).1
does_gives P (Give t o) seen bytes pkru rip new w all h = given_gives P t new o w seen pkru all h
does_gives P Refuse seen bytes pkru rip new w all h = absurd cc
does_gives P Call seen bytes pkru rip new w all h = absurd cc

-- ---- parts of plans

pub cond_all : (P : Thread → Option Write → Type 0) (b : Bool) (x y : Plan) → AllGive P x
    → AllGive P y → AllGive P (cond b x y)
cond_all P true x y h k = h
cond_all P false x y h k = k

on_place_all : (P : Thread → Option Write → Type 0) (n : ℕ) (place : Place) (len : ℕ) (t : Thread)
    (k : ℕ → Plan) → ((x : ℕ) → AllGive P (k x)) → AllGive P (on_place n place len t k)
on_place_all P n (At m) len t k h = h
on_place_all P n (Reg r) len t k h = h (operand n (Reg r) t)
on_place_all P n (High r) len t k h = h (operand n (High r) t)

-- ---- every kind that leaves PKRU

-- what it leaves
pub record Plain (t new : Thread) : Type 0 where
  pub pkru : new.pkru ≡ t.pkru
  pub origin : new.origin ≡ t.origin
  pub regs : length new.regs ≡ length t.regs
  pub live : new.live ≡ t.live

-- every thread that a plan gives is left so
abbrev pub AllPlain : Thread → Plan → Type 0
AllPlain t = AllGive (λ new w. Plain t new)

place_plain : (n : ℕ) (place : Place) (len : ℕ) (t : Thread) (k : ℕ → Plan)
    → ((x : ℕ) → AllPlain t (k x)) → AllPlain t (on_place n place len t k)
place_plain n place len t k h = on_place_all (λ new w. Plain t new) n place len t k h

source_plain : (w : Width) (src : Src) (len : ℕ) (t : Thread) (k : ℕ → Plan)
    → ((x : ℕ) → AllPlain t (k x)) → AllPlain t (on_source w src len t k)
source_plain w (From place) len t k h = place_plain (byte_count w) place len t k h
source_plain w (Imm i) len t k h = h _

-- RIP and flags don't matter
moved_plain : (t : Thread) (rip : ℕ) (flags : Flags)
    → Plain t (record t { rip = rip; flags = flags })
moved_plain t rip flags = record { pkru = refl; origin = refl; regs = refl; live = refl }

set_plain : (t u : Thread) (n v : ℕ) → Plain t u → Plain t (with_register u n v)
set_plain t u n v h = record {
  pkru = h.pkru;
  origin = h.origin;
  regs = length-set u.regs n v ∙ h.regs;
  live = h.live;
}

low_plain : (w : Width) (t u : Thread) (r value : ℕ) → Plain t u → Plain t (with_low w u r value)
low_plain W1 t u r value h = set_plain t u r _ h
low_plain W4 t u r value h = set_plain t u r value h
low_plain W8 t u r value h = set_plain t u r value h

operand_plain : (w : Width) (place : Place) (t u : Thread) (value : ℕ) → Plain t u
    → Plain t (with_operand w place u value)
operand_plain w (Reg r) t u value h = low_plain w t u r value h
operand_plain w (High r) t u value h = set_plain t u r _ h
operand_plain w (At m) t u value h = h

write_plain : (w : Width) (place : Place) (len : ℕ) (t next : Thread) (value : ℕ) → Plain t next
    → AllPlain t (write_to w place len t next value)
write_plain w (At m) len t next value h = h
write_plain w (Reg r) len t next value h = operand_plain w (Reg r) t next value h
write_plain w (High r) len t next value h = operand_plain w (High r) t next value h

back_plain : (w : Width) (place : Place) (len : ℕ) (t next : Thread) (a : ℕ) → Plain t next
    → AllPlain t (write_back w place len t next a)
back_plain w (At m) len t next a h = h
back_plain w (Reg r) len t next a h = h
back_plain w (High r) len t next a h = h

push_plain : (t next : Thread) (value : ℕ) → Plain t next → AllPlain t (push next value)
push_plain t next value h = set_plain t next 4 _ h

outcome_plain : (op : AluOp) (w : Width) (dst : Place) (len : ℕ) (t : Thread) (o : Outcome)
    → AllPlain t (write_outcome op w dst len t o)
outcome_plain Cmp w dst len t o = moved_plain t _ _
outcome_plain op w dst len t o =
    write_plain w dst len t (with_flags (onward len t) o.flags) o.value (moved_plain t _ _)

cond_plain : (b : Bool) (t x y : Thread) → Plain t x → Plain t y → Plain t (cond b x y)
cond_plain true t x y h k = h
cond_plain false t x y h k = k

-- ---- kinds of instructions

alu_plain : (op : AluOp) (w : Width) (dst : Place) (src : Src) (len : ℕ) (t : Thread)
    → AllPlain t (plan_alu op w dst src len t)
unfolding plan_alu
alu_plain op w dst src len t = place_plain (byte_count w) dst len t _ (λ a.
    source_plain w src len t _ (λ b. outcome_plain op w dst len t _))

test_plain : (w : Width) (first : Place) (src : Src) (len : ℕ) (t : Thread)
    → AllPlain t (plan_test w first src len t)
unfolding plan_test
test_plain w first src len t = place_plain (byte_count w) first len t _ (λ a.
    source_plain w src len t _ (λ b. moved_plain t _ _))

unary_plain : (op : UnaryOp) (w : Width) (dst : Place) (len : ℕ) (t : Thread)
    → AllPlain t (plan_unary op w dst len t)
unfolding plan_unary
unary_plain op w dst len t = place_plain (byte_count w) dst len t _ (λ a.
    write_plain w dst len t _ _ (moved_plain t _ _))

shift_plain : (op : ShiftOp) (w : Width) (dst : Place) (by : By) (len : ℕ) (t : Thread)
    → AllPlain t (plan_shift op w dst by len t)
unfolding plan_shift
shift_plain op w dst by len t = place_plain (byte_count w) dst len t _ (λ a.
    write_plain w dst len t _ _ (moved_plain t _ _))

imul_plain : (w : Width) (r : ℕ) (place : Place) (i : Option ℤ) (len : ℕ) (t : Thread)
    → AllPlain t (plan_imul w r place i len t)
unfolding plan_imul
imul_plain w r place i len t = place_plain (byte_count w) place len t _ (λ a.
    low_plain w t _ r _ (moved_plain t _ _))

bt_plain : (w : Width) (place : Place) (bit len : ℕ) (t : Thread)
    → AllPlain t (plan_bt w place bit len t)
unfolding plan_bt
bt_plain w place bit len t =
    place_plain (byte_count w) place len t _ (λ a. moved_plain t _ _)

mov_plain : (w : Width) (dst : Place) (src : Src) (len : ℕ) (t : Thread)
    → AllPlain t (plan_mov w dst src len t)
unfolding plan_mov
mov_plain w dst src len t = source_plain w src len t _ (λ x.
    write_plain w dst len t _ x (moved_plain t _ _))

xchg_plain : (w : Width) (place r : Place) (len : ℕ) (t : Thread)
    → AllPlain t (plan_xchg w place r len t)
unfolding plan_xchg
xchg_plain w place r len t = place_plain (byte_count w) place len t _ (λ x.
    write_plain w place len t _ _ (operand_plain w r t _ x (moved_plain t _ _)))

lea_plain : (w : Width) (r : ℕ) (m : Mem) (len : ℕ) (t : Thread) → AllPlain t (plan_lea w r m len t)
unfolding plan_lea
lea_plain w r m len t = low_plain w t _ r _ (moved_plain t _ _)

movsx_plain : (w : Width) (r n : ℕ) (src : Place) (len : ℕ) (t : Thread)
    → AllPlain t (plan_movsx w r n src len t)
unfolding plan_movsx
movsx_plain w r n src len t =
    place_plain n src len t _ (λ x. low_plain w t _ r _ (moved_plain t _ _))

movzx_plain : (w : Width) (r n : ℕ) (src : Place) (len : ℕ) (t : Thread)
    → AllPlain t (plan_movzx w r n src len t)
unfolding plan_movzx
movzx_plain w r n src len t =
    place_plain n src len t _ (λ x. low_plain w t _ r _ (moved_plain t _ _))

cmov_plain : (c : ℕ) (w : Width) (r : ℕ) (src : Place) (len : ℕ) (t : Thread)
    → AllPlain t (plan_cmov c w r src len t)
unfolding plan_cmov
cmov_plain c w r src len t =
    place_plain (byte_count w) src len t _ (λ x. low_plain w t _ r _ (moved_plain t _ _))

set_byte_plain : (c : ℕ) (dst : Place) (len : ℕ) (t : Thread) → AllPlain t (plan_set c dst len t)
unfolding plan_set
set_byte_plain c dst len t = write_plain W1 dst len t _ _ (moved_plain t _ _)

widen_plain : (w : Width) (len : ℕ) (t : Thread) → AllPlain t (plan_widen w len t)
unfolding plan_widen
widen_plain w len t = low_plain w t _ 0 _ (moved_plain t _ _)

spread_plain : (w : Width) (len : ℕ) (t : Thread) → AllPlain t (plan_spread w len t)
unfolding plan_spread
spread_plain w len t = low_plain w t _ 2 _ (moved_plain t _ _)

push_insn_plain : (src : Src) (len : ℕ) (t : Thread) → AllPlain t (plan_push src len t)
unfolding plan_push
push_insn_plain src len t =
    source_plain W8 src len t _ (λ x. push_plain t _ x (moved_plain t _ _))

pop_plain : (r len : ℕ) (t : Thread) → AllPlain t (plan_pop r len t)
unfolding plan_pop
pop_plain r len t = λ x. set_plain t _ r x (set_plain t _ 4 _ (moved_plain t _ _))

leave_plain : (len : ℕ) (t : Thread) → AllPlain t (plan_leave len t)
unfolding plan_leave
leave_plain len t = λ x. set_plain t _ 5 x (set_plain t _ 4 _ (moved_plain t _ _))

jcc_plain : (c : ℕ) (rel : ℤ) (len : ℕ) (t : Thread) → AllPlain t (plan_jcc c rel len t)
unfolding plan_jcc
jcc_plain c rel len t = cond_plain (condition c t.flags) t (jump len rel t) (onward len t)
    (moved_plain t _ _) (moved_plain t _ _)

call_plain : (rel : ℤ) (len : ℕ) (t : Thread) → AllPlain t (plan_call rel len t)
unfolding plan_call
call_plain rel len t = push_plain t (jump len rel t) (next_rip len t) (moved_plain t _ _)

jmp_to_plain : (place : Place) (len : ℕ) (t : Thread) → AllPlain t (plan_jmp_to place len t)
unfolding plan_jmp_to
jmp_to_plain place len t = place_plain 8 place len t _ (λ x. moved_plain t x _)

call_to_plain : (place : Place) (len : ℕ) (t : Thread) → AllPlain t (plan_call_to place len t)
unfolding plan_call_to
call_to_plain place len t =
    place_plain 8 place len t _ (λ x. push_plain t _ (next_rip len t) (moved_plain t x _))

ret_plain : (t : Thread) → AllPlain t (plan_ret t)
unfolding plan_ret
ret_plain t = λ x. set_plain t _ 4 _ (moved_plain t x _)

xadd_plain : (w : Width) (dst r : Place) (len : ℕ) (t : Thread)
    → AllPlain t (plan_xadd w dst r len t)
unfolding plan_xadd
xadd_plain w dst r len t = place_plain (byte_count w) dst len t _ (λ a.
    write_plain w dst len t _ _ (operand_plain w r t _ a (moved_plain t _ _)))

cmpxchg_plain : (w : Width) (dst r : Place) (len : ℕ) (t : Thread)
    → AllPlain t (plan_cmpxchg w dst r len t)
unfolding plan_cmpxchg
cmpxchg_plain w dst r len t = place_plain (byte_count w) dst len t _ (λ a.
    cond_all (λ new v. Plain t new) _ _ _ (write_plain w dst len t _ _ (moved_plain t _ _))
    (back_plain w dst len t _ a (low_plain w t _ 0 a (moved_plain t _ _))))

rdpkru_plain : (len : ℕ) (t : Thread) → AllPlain t (plan_rdpkru len t)
unfolding plan_rdpkru
rdpkru_plain len t = cond_all (λ new v. Plain t new) (eqb (low_half (register t 1)) 0) _ Refuse
    (set_plain t _ 2 0 (set_plain t _ 0 t.pkru (moved_plain t _ _))) tt

numbers_all : (P : Thread → Option Write → Type 0) (n a : ℕ) (k : List ℕ → Plan)
    → ((xs : List ℕ) → AllGive P (k xs)) → AllGive P (on_numbers n a k)
unfolding on_numbers
numbers_all P zero a k h = h []
numbers_all P (suc n) a k h =
    λ x. numbers_all P n (a + 8) (λ xs. k (x ∷ xs)) (λ xs. h (x ∷ xs))

-- what each way of XRSTOR to its end has, its plan has
xrstor_all : (P : Thread → Option Write → Type 0) (m : Mem) (len : ℕ) (t : Thread)
    → ((header : List ℕ) → AllGive P (restore_pkru (address m len t) header len t))
    → AllGive P (plan_xrstor m len t)
unfolding plan_xrstor
xrstor_all P m len t h =
    cond_all P (address m len t % 64 == 0) _ Refuse
    (numbers_all P 8 (address m len t + 512) _ (λ header.
    cond_all P (is_header header) _ Refuse (h header) tt)) tt

-- it isn't asked for PKRU
xrstor_plain : (m : Mem) (len : ℕ) (t : Thread) → has_bit (eax t) pkru_bit ≡ false
    → AllPlain t (plan_xrstor m len t)
xrstor_plain m len t n =
    xrstor_all (λ new v. Plain t new) m len t (λ header. rw n (moved_plain t _ _))

-- one line a kind
plan_plain : (insn : Insn) (len : ℕ) (t : Thread) → writes_pkru insn t ≡ false
    → AllPlain t (plan insn len t)
unfolding plan
plan_plain (Alu op w dst src lock) len t n = alu_plain op w dst src len t
plan_plain (Test w a src) len t n = test_plain w a src len t
plan_plain (Xchg w a r lock) len t n = xchg_plain w a r len t
plan_plain (Mov w dst src) len t n = mov_plain w dst src len t
plan_plain (MovWide r imm) len t n = set_plain t (onward len t) r imm (moved_plain t _ _)
plan_plain (Lea w r m) len t n = lea_plain w r m len t
plan_plain (Push src) len t n = push_insn_plain src len t
plan_plain (Pop r) len t n = pop_plain r len t
plan_plain (MovSxd r src) len t n = movsx_plain W8 r 4 src len t
plan_plain (MovZx w r from src) len t n = movzx_plain w r _ src len t
plan_plain (MovSx w r from src) len t n = movsx_plain w r _ src len t
plan_plain (Imul w r a b) len t n = imul_plain w r a b len t
plan_plain (Jcc c rel) len t n = jcc_plain c rel len t
plan_plain (Jmp rel) len t n = moved_plain t _ _
plan_plain (CallInsn rel) len t n = call_plain rel len t
plan_plain (JmpTo to) len t n = jmp_to_plain to len t
plan_plain (CallTo to) len t n = call_to_plain to len t
plan_plain Ret len t n = ret_plain t
plan_plain Leave len t n = leave_plain len t
plan_plain (Widen w) len t n = widen_plain w len t
plan_plain (Spread w) len t n = spread_plain w len t
plan_plain (Shift op w dst by) len t n = shift_plain op w dst by len t
plan_plain (Unary op w dst lock) len t n = unary_plain op w dst len t
plan_plain (Cmov c w r src) len t n = cmov_plain c w r src len t
plan_plain (Set c dst) len t n = set_byte_plain c dst len t
plan_plain (Bt w a bit) len t n = bt_plain w a bit len t
plan_plain (Cmpxchg w dst r lock) len t n = cmpxchg_plain w dst r len t
plan_plain (Xadd w dst r lock) len t n = xadd_plain w dst r len t
plan_plain Syscall len t n = tt
plan_plain Wrpkru len t n = absurd cc
plan_plain Rdpkru len t n = rdpkru_plain len t
plan_plain (Xrstor m) len t n = xrstor_plain m len t n
plan_plain (Fence kind) len t n = moved_plain t _ _
plan_plain Nop len t n = moved_plain t _ _

-- ---- all kinds

-- an instruction that goes from t to new
pub record Goes (insn : Insn) (len : ℕ) (t new : Thread) : Type 0 where
  pub regs : length new.regs ≡ length t.regs
  pub origin : new.origin ≡ t.origin
  pub live : new.live ≡ t.live
  pub pkru : writes_pkru insn t ≡ false → new.pkru ≡ t.pkru
  pub next : writes_pkru insn t ≡ true → new.rip ≡ (t.rip + len) % 2 ^ 64
  pub same : writes_pkru insn t ≡ true → new.regs ≡ t.regs
  pub value : insn ≡ Wrpkru → new.pkru ≡ eax t

plain_goes : (insn : Insn) (len : ℕ) (t new : Thread) → writes_pkru insn t ≡ false → insn ≢ Wrpkru
    → Plain t new → Goes insn len t new
plain_goes insn len t new f n p = record {
  regs = p.regs;
  origin = p.origin;
  live = p.live;
  pkru = λ _. p.pkru;
  next = λ e. absurd (let k : false ≡ true = sym f ∙ e in cc);
  same = λ e. absurd (let k : false ≡ true = sym f ∙ e in cc);
  value = λ e. absurd (n e);
}

wrpkru_goes : (len : ℕ) (t : Thread) → AllGive (λ new w. Goes Wrpkru len t new) (plan Wrpkru len t)
unfolding plan plan_wrpkru
wrpkru_goes len t =
    cond_all (λ new w. Goes Wrpkru len t new) (eqb (low_half (register t 1)) 0
    && eqb (low_half (register t 2)) 0) _ Refuse
    (record {
      regs = refl;
      origin = refl;
      live = refl;
      pkru = λ e. absurd cc;
      next = λ _. refl;
      same = λ _. refl;
      value = λ _. refl;
    }) tt

-- it is asked for PKRU
restored_goes : (m : Mem) (len : ℕ) (t : Thread) (pkru : ℕ) → has_bit (eax t) pkru_bit ≡ true
    → Goes (Xrstor m) len t (let n = onward len t in record n { pkru = pkru })
restored_goes m len t pkru f = record {
  regs = refl;
  origin = refl;
  live = refl;
  pkru = λ e. absurd (let k : false ≡ true = sym e ∙ f in cc);
  next = λ _. refl;
  same = λ _. refl;
  value = λ e. absurd cc;
}

xrstor_goes : (m : Mem) (len : ℕ) (t : Thread) → has_bit (eax t) pkru_bit ≡ true
    → AllGive (λ new w. Goes (Xrstor m) len t new) (plan (Xrstor m) len t)
unfolding plan
xrstor_goes m len t f =
    xrstor_all (λ new w. Goes (Xrstor m) len t new) m len t (λ header.
    rw f (cond_all (λ new w. Goes (Xrstor m) len t new)
    (has_bit (slice_index header 0) pkru_bit) _ _ (λ x. restored_goes m len t x f)
    (restored_goes m len t 0 f)))

-- the thread with which an instruction is done
pub done_goes : (insn : Insn) (len : ℕ) (t new : Thread) (w : Option Write) (seen : Seen)
    (bytes : ByteMap) (pkru rip : ℕ) → effect (plan insn len t) seen bytes pkru rip ≡ Done new w
    → Goes insn len t new
done_goes Wrpkru len t new w seen bytes pkru rip h =
    does_gives (λ x v. Goes Wrpkru len t x) (plan Wrpkru len t) seen bytes pkru rip new w
    (wrpkru_goes len t) h
done_goes (Xrstor m) len t new w seen bytes pkru rip h =
    elim (cases_Bool (has_bit (eax t) pkru_bit)) [
      | inl asked ↦ does_gives (λ x v. Goes (Xrstor m) len t x) (plan
          (Xrstor m) len t) seen bytes pkru
          rip
          new w (xrstor_goes m len t asked) h
      | inr not ↦ plain_goes (Xrstor m) len t new not (λ e. absurd cc)
          (does_gives (λ x v. Plain t x) (plan (Xrstor m) len t) seen bytes pkru rip new w
          (plan_plain (Xrstor m) len t not) h)
    ]
done_goes insn len t new w seen bytes pkru rip h =
    plain_goes insn len t new refl (λ e. absurd cc)
    (does_gives (λ x v. Plain t x) (plan insn len t) seen bytes pkru rip new w
    (plan_plain insn len t refl) h)

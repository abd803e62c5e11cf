-- One step of a thread. SDM volume 2 for SYSCALL; publication at a fault, origin and escape are
-- own, after ERIM's inspection before a page can be executed.
use Rattle.std.specs.Prelude.{ℕ, ◌+◌, ◌-◌, ◌/◌, ◌^◌, ◌&&◌, nat_lt, Option, Some, None, [], ◌∷◌}
use Rattle.std.specs.Prelude.{◌++◌, length, slice_get, slice_set, Bool, true, false, is_none}
use Rattle.std.specs.Prelude.{if◌then◌else◌}
use Rattle.erim_defs.specs.declared.machine.Rights.{Rights}
use Rattle.erim_defs.specs.declared.machine.Thread.{Thread}
use Rattle.erim_defs.specs.declared.machine.Flags.{Flags}
use Rattle.erim_defs.specs.declared.found.SeqKind.TheVariants.{Wrpkru as WrpkruKind}
use Rattle.erim_defs.specs.declared.found.SeqKind.TheVariants.{Xrstor as XrstorKind}
use Rattle.erim_defs.specs.declared.found.Found.{Found}
use Rattle.erim_defs.specs.declared.machine.End.{End}
use Rattle.erim_defs.specs.declared.machine.End.TheVariants.{Exit, Fault as EndFault, Refused}
use Rattle.erim_defs.specs.declared.machine.Cause.TheVariants.{Exec, Undefined as UndefinedCause}
use Rattle.erim_defs.specs.declared.machine.Cause.TheVariants.{Write as WriteCause}
use Rattle.erim_defs.specs.declared.machine.Access.{Access}
use Rattle.erim_defs.specs.declared.machine.Access.TheVariants.{Fault, Missing}
use Rattle.erim_defs.specs.declared.insn.Insn.{Insn}
use Rattle.erim_defs.specs.declared.insn.Insn.TheVariants.{Wrpkru, Xrstor}
use Rattle.erim_defs.specs.declared.insn.Decoded.{Decoded}
use Rattle.erim_defs.specs.declared.insn.Decoded.TheVariants as decoding
use Rattle.erim_defs.specs.declared.insn.FetchOutcome.{FetchOutcome}
use Rattle.erim_defs.specs.declared.insn.FetchOutcome.TheVariants.{Runs, Need, Wrong}
use Rattle.erim_defs.specs.declared.register.TheConstants.{R11, RAX, RCX}
use Rattle.erim_defs.specs.Bits.{has_bit}
use Rattle.erim_defs.specs.Inspection.Check.{pkru_bit}
use Rattle.erim_defs.specs.Inspection.Code.{Code}
use Rattle.erim_defs.specs.Machine.Pages.{asks_exec, published_rights, code_with, code_bytes}
use Rattle.erim_defs.specs.Machine.Pages.{with_value_at, asks_write, taken_back_rights}
use Rattle.erim_defs.specs.Machine.Access.{whole, opens_write}
use Rattle.erim_defs.specs.Machine.MapCalls.{is_pinned}
use Rattle.erim_defs.specs.Inspection.Unsafe.{first_unsafe}
use Rattle.erim_defs.specs.Encoding.Decoding.{decode}
use Rattle.erim_defs.specs.Machine.Plan.{Effect, Done, Stopped, Called, effect, bytes_after_write}
use Rattle.erim_defs.specs.Machine.Registers.{eax, with_register, onward}
use Rattle.erim_defs.specs.Machine.Meaning.{plan}
use Rattle.erim_defs.specs.Machine.State.{State, code, trust_of, with_origin, is_escape}
use Rattle.erim_defs.specs.Machine.State.{first_escape, any_live}
use Rattle.erim_defs.specs.Machine.CallResult.{Change, CallResult, Refusal, Answer, ThreadEnd}
use Rattle.erim_defs.specs.Machine.CallResult.{Quit}
use Rattle.erim_defs.specs.Machine.Calls.{call_result}

-- ---- fetch: what the published bytes from an address on begin with, at most 15 of them

abbrev pub fetch_as : Decoded → ℕ → FetchOutcome
fetch_as (decoding.Insn insn len skip) x = Runs insn len skip
fetch_as decoding.Undefined x = Wrong
fetch_as decoding.Short x = Need x

-- x is the first absent address
unfoldable pub fetch : Code → ℕ → FetchOutcome
fetch c rip = fetch_as (decode (code_bytes c rip 15)) (rip + length (code_bytes c rip 15))

-- ---- who makes a step

-- a thread as it stands before its step, and its number
pub record Runner : Type 0 where
  pub number : ℕ
  pub thread : Thread

-- an instruction, its length, and how many of its bytes stand before the opcode
pub record CodedInsn : Type 0 where
  pub insn : Insn
  pub len : ℕ
  pub skip : ℕ

-- ---- ends and faults

abbrev pub with_end : End → State → State
with_end e s = record s { end = Some e }

-- a fault ends the process, and leaves the thread as it stands; a whole memory is never missing
-- anything
abbrev pub after_fault : Access → Runner → State → State
after_fault (Fault cause a) r s = with_end (EndFault r.number r.thread.rip cause a) s
after_fault (Missing q) r s = s

-- ---- exec faults

-- page q is published where nothing unsafe stands in the code with it, else refused for the first
-- that does
abbrev pub after_verdict : Option Found → ℕ → Rights → Runner → State → State
after_verdict None q rights r s =
    record s { rights = with_value_at s.rights q (Some (published_rights rights)) }
after_verdict (Some first) q rights r s = with_end (Refused q first r.number) s

-- x is the absent address that the thread needs
abbrev pub after_exec_fault : Option Rights → ℕ → Runner → State → State
after_exec_fault None x r s = after_fault (Fault Exec x) r s
after_exec_fault (Some rights) x r s =
    if asks_exec rights.asked && nat_lt (x / 4096) (2 ^ 35)
    then after_verdict (first_unsafe (trust_of s) (code_with s.rights s.bytes (x / 4096)))
    (x / 4096) rights r s
    else after_fault (Fault Exec x) r s

-- ---- write faults: a thread may write the page but for its publication

-- the page q with these rights takes its publication back where it isn't pinned, and stays else
abbrev pub after_take_back : ℕ → Rights → State → State
after_take_back q rights s = if is_pinned s.threads q then s
    else record s { rights = with_value_at s.rights q (Some (taken_back_rights rights)) }

-- a published page that asks PROT_WRITE, and whose key the thread may write
abbrev pub is_write_fault : Rights → ℕ → Bool
is_write_fault rights pkru =
    rights.exec && (asks_write rights.asked && opens_write pkru rights.key)

abbrev pub after_write_fault : Option Rights → ℕ → Runner → State → State
after_write_fault None a r s = after_fault (Fault WriteCause a) r s
after_write_fault (Some rights) a r s =
    if is_write_fault rights r.thread.pkru then after_take_back (a / 4096) rights s
    else after_fault (Fault WriteCause a) r s

-- what an access that stops makes of the state
abbrev pub after_stop : Access → Runner → State → State
after_stop (Fault WriteCause a) r s = after_write_fault (s.rights (a / 4096)) a r s
after_stop other r s = after_fault other r s

-- ---- the thread goes on

-- the sequence that an instruction is, its bytes from the opcode on at an address
abbrev pub sequence_at : Insn → ℕ → ℕ → Option Found
sequence_at Wrpkru at len = Some (record { at = at; len = len; kind = WrpkruKind })
sequence_at (Xrstor m) at len = Some (record { at = at; len = len; kind = XrstorKind })
sequence_at other at len = None

-- the sequence that an instruction at rip is; prefixes don't belong to it
abbrev pub sequence_of : CodedInsn → ℕ → Option Found
sequence_of i rip = sequence_at i.insn (rip + i.skip) (i.len - i.skip)

-- is an instruction of a thread that stands so free of escape: it writes PKRU
abbrev pub writes_pkru : Insn → Thread → Bool
writes_pkru Wrpkru t = true
writes_pkru (Xrstor m) t = has_bit (eax t) pkru_bit
writes_pkru other t = false

-- how a thread goes on
pub record Move : Type 0 where
  pub runner : Runner
  -- the thread afterwards, but for its origin
  pub after : Thread
  -- the sequence that the instruction executed, if it is one
  pub executed : Option Found
  pub free : Bool

abbrev pub after_move : Move → State → State
after_move m s = record s {
  threads = slice_set s.threads m.runner.number (with_origin (trust_of s) m.executed m.after);
  escape = first_escape s.escape (is_escape (trust_of s) m.free m.runner.thread m.after)
      (record { step = s.steps; thread = m.runner.number; rip = m.after.rip });
}

-- ---- system calls

-- RFLAGS: bits 1 and 9 are set; CF 0, PF 2, ZF 6, SF 7, OF 11
abbrev pub flags_word : Flags → ℕ
flags_word f =
    0x202 + (if f.cf then 1 else 0) + (if f.pf then 4 else 0) + (if f.zf then 64 else 0)
    + (if f.sf then 128 else 0) + (if f.of then 2048 else 0)

-- the thread after SYSCALL, before its call: the next RIP goes to RCX, RFLAGS to R11
abbrev pub after_syscall : ℕ → Thread → Thread
after_syscall len t = (let n = onward len t in
    with_register (with_register n RCX n.rip) R11 (flags_word t.flags))

abbrev pub with_new_thread : Option Thread → State → State
with_new_thread None s = s
with_new_thread (Some u) s =
    record s { threads = s.threads ++ with_origin (trust_of s) None u ∷ [] }

abbrev pub with_change : Change → State → State
with_change c s = record s {
  rights = c.rights;
  bytes = c.bytes;
  keys = c.keys;
  blocks = c.blocks;
  output = c.output;
}

-- the caller t after a call that isn't refused
abbrev pub caller_after : ℕ → Change → Thread → Thread
caller_after value c t = (let u = with_register t RAX value in record u { pkru = c.pkru })

-- the process ends with its last live thread
abbrev pub with_last_end : ℕ → State → State
with_last_end status s = if any_live s.threads then s else with_end (Exit status) s

-- t is the caller after SYSCALL
abbrev pub after_call : CallResult → Runner → Thread → State → State
after_call (Refusal e) r t s =
    after_move (record {
      runner = r;
      after = with_register t RAX (2 ^ 64 - e);
      executed = None;
      free = false;
    }) s
after_call (Answer v c) r t s =
    with_new_thread c.clone
    (after_move (record { runner = r; after = caller_after v c t; executed = None; free = false })
    (with_change c s))
after_call (ThreadEnd status) r t s =
    with_last_end status (after_move
    (record { runner = r; after = record t { live = false }; executed = None; free = false }) s)
after_call (Quit status) r t s =
    with_end (Exit status) (after_move
    (record { runner = r; after = t; executed = None; free = false }) s)

-- ---- instructions

-- what an instruction makes of the state, by what came of it
abbrev pub after_instruction : Effect → CodedInsn → Runner → State → State
after_instruction (Done t w) i r s =
    after_move (record {
      runner = r;
      after = t;
      executed = sequence_of i r.thread.rip;
      free = writes_pkru i.insn r.thread;
    })
    (record s { bytes = bytes_after_write w s.bytes })
after_instruction (Stopped a) i r s = after_stop a r s
after_instruction Called i r s =
    after_call (call_result s r.number (after_syscall i.len r.thread)) r
    (after_syscall i.len r.thread) s

-- a step without its guard
abbrev pub after_fetch : FetchOutcome → Runner → State → State
after_fetch (Runs insn len skip) r s =
    after_instruction (effect (plan insn len r.thread) (whole s.rights) s.bytes r.thread.pkru
    r.thread.rip)
    (record { insn = insn; len = len; skip = skip }) r s
after_fetch (Need x) r s = after_exec_fault (s.rights (x / 4096)) x r s
after_fetch Wrong r s = after_fault (Fault UndefinedCause r.thread.rip) r s

-- ---- the guard: no end, steps left, a live thread

abbrev pub if_live : Option Thread → Option Thread
if_live None = None
if_live (Some thread) = if thread.live then Some thread else None

-- the thread of this number, where it can make a step
abbrev pub ready_thread : State → ℕ → Option Thread
ready_thread s t = if is_none s.end && nat_lt s.steps s.setup.budget
    then if_live (slice_get s.threads t) else None

abbrev pub after_step_of : Option Thread → ℕ → State → Option State
after_step_of None t s = None
after_step_of (Some thread) t s =
    Some (after_fetch (fetch (code s) thread.rip) (record { number = t; thread = thread })
    (record s { steps = s.steps + 1 }))

-- the state after one step of thread t, where it is defined
unfoldable pub step : ℕ → State → Option State
step t s = after_step_of (ready_thread s t) t s

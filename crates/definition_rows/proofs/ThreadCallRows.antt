-- The calls on threads on small states, computed. Linux on x86-64: sched_yield 24, clone 56, exit
-- 60, gettid 186; EAGAIN 11, EINVAL 22; the numbers of threads and the order of refusals are own.
use Rattle.std.proofs.Common.{◌≡◌, ℕ, List, [], ◌∷◌, ◌++◌, map, replicate, Option, Some, None, refl}
use Rattle.std.proofs.Common.{Bool, true, false}
use Rattle.erim_defs.specs.declared.found.SeqKind.TheVariants.{Wrpkru}
use Rattle.erim_defs.specs.declared.machine.End.{End}
use Rattle.erim_defs.specs.declared.machine.End.TheVariants.{Exit}
use Rattle.erim_defs.specs.declared.machine.Thread.{Thread}
use Rattle.erim_defs.specs.Machine.CallResult.{Refusal, Answer, ThreadEnd, Quit, CallResult}
use Rattle.erim_defs.specs.Machine.CallResult.{no_change}
use Rattle.erim_defs.specs.Machine.Calls.{call_result}
use Rattle.erim_defs.specs.Machine.State.{State, any_live}
use Rattle.erim_defs.specs.Machine.Step.{after_call}
use Rattle.erim_defs.specs.Machine.ThreadCalls.{gettid_result}
use Rattle.definition_rows.proofs.SmallMachine.{call_by, caller_at, state_of, thread_at}

-- closed, with RAX, RDI, RSI
caller : ℕ → ℕ → ℕ → Thread
caller rax rdi rsi = caller_at 0x401002 rax 1 2 rsi rdi 11

-- a given number of threads were made, live ones and ended ones
state : ℕ → ℕ → State
state live ended =
    let t = thread_at 0x401000 0 0 0 in
    record (state_of t []) {
      threads = replicate live t ++ replicate ended (record t { live = false });
    }

-- clone(flags, stack)
clone : State → ℕ → ℕ → CallResult
unfolding call_by caller
clone s flags stack = call_by s (caller 56 flags stack)

-- an answer that changes nothing but that it makes a thread
abbrev makes : Thread → ℕ → Thread → CallResult
makes t number new = Answer number (record (no_change (state 1 0) t) { clone = Some new })

-- ---- clone: RAX is 0 for the new thread, and RSP (register 4) the stack where one is given

same_stack :
    clone (state 1 0) 0x50F00 0
    ≡ makes (caller 56 0x50F00 0) 2 (record (thread_at 0x401002 0 0 0) {
      regs = 0 ∷ 1 ∷ 2 ∷ 3 ∷ 4 ∷ 5 ∷ 0 ∷ 0x50F00 ∷ 8 ∷ 9 ∷ 10 ∷ 11 ∷ 12 ∷ 13 ∷ 14 ∷ 15 ∷ [];
    })
unfolding clone caller state
same_stack = refl

other_stack :
    clone (state 1 0) 0x50F00 0x403FF0
    ≡ makes (caller 56 0x50F00 0x403FF0) 2 (record (thread_at 0x401002 0 0 0) {
      regs = 0 ∷ 1 ∷ 2 ∷ 3 ∷ 0x403FF0 ∷ 5 ∷ 0x403FF0 ∷ 0x50F00 ∷ 8 ∷ 9 ∷ 10 ∷ 11 ∷ 12 ∷ 13 ∷ 14 ∷ 15
          ∷ [];
    })
unfolding clone caller state
other_stack = refl

-- RFLAGS' flags, PKRU and the origin are the maker's
abbrev opened : Thread → Thread
opened t = record t {
  pkru = 0x55555550;
  origin = Some (record { at = 0x401003; len = 3; kind = Wrpkru });
}

open_maker :
    call_by (state 1 0) (opened (caller 56 0x50F00 0))
    ≡ makes (opened (caller 56 0x50F00 0)) 2 (opened (caller 0 0x50F00 0))
unfolding call_by caller state
open_maker = refl

-- what is said of clone: the error or the number
abbrev told : CallResult → ℕ × ℕ
told (Refusal e) = (e, 0)
told (Answer number c) = (0, number)
told (ThreadEnd status) = (0, 0)
told (Quit status) = (0, 0)

-- bits above 32 don't count
high_flags : told (clone (state 1 0) 0x700050F00 0) ≡ (0, 2)
unfolding clone caller state
high_flags = refl

-- none, without CLONE_VM, one more, with an exit signal, with CLONE_SETTLS, the highest of 32
other_flags :
    map (λ flags. told (clone (state 1 0) flags 0))
    (0 ∷ 0x50E00 ∷ 0x50F01 ∷ 0x50F11 ∷ 0xD0F00 ∷ 0x80050F00 ∷ [])
    ≡ (22, 0) ∷ (22, 0) ∷ (22, 0) ∷ (22, 0) ∷ (22, 0) ∷ (22, 0) ∷ []
unfolding clone caller state
other_flags = refl

-- ended threads count
numbers :
    map (λ (s : State). told (clone s 0x50F00 0))
    (state 2 0 ∷ state 1 2 ∷ state 15 0 ∷ state 1 14 ∷ state 16 0 ∷ state 1 15 ∷ [])
    ≡ (0, 3) ∷ (0, 4) ∷ (0, 16) ∷ (0, 16) ∷ (11, 0) ∷ (11, 0) ∷ []
unfolding clone caller state
numbers = refl

flags_before_room : told (clone (state 16 0) 0x50F01 0) ≡ (22, 0)
unfolding clone caller state
flags_before_room = refl

-- ---- gettid: numbers count from 1

thread_number : ℕ → CallResult
unfolding call_result gettid_result caller state
thread_number number = call_result (state 16 0) number (caller 186 0 0)

thread_numbers :
    map thread_number (0 ∷ 15 ∷ [])
    ≡ Answer 1 (no_change (state 16 0) (caller 186 0 0))
    ∷ Answer 16 (no_change (state 16 0) (caller 186 0 0)) ∷ []
unfolding thread_number
thread_numbers = refl

-- ---- sched_yield changes nothing

yields : call_by (state 1 0) (caller 24 7 8) ≡ Answer 0 (no_change (state 1 0) (caller 24 7 8))
unfolding call_by caller state
yields = refl

-- ---- exit: the low 8 bits of the status

exit_statuses :
    map (λ status. call_by (state 1 0) (caller 60 status 0))
    (0 ∷ 7 ∷ 255 ∷ 256 ∷ 0x107 ∷ 0x1000000FF ∷ [])
    ≡ ThreadEnd 0 ∷ ThreadEnd 7 ∷ ThreadEnd 255 ∷ ThreadEnd 0 ∷ ThreadEnd 7 ∷ ThreadEnd 255 ∷ []
unfolding call_by caller state
exit_statuses = refl

-- ---- what such a call makes of the threads, and of the end

-- the state after a call of this thread
after : State → ℕ → Thread → State
unfolding call_by any_live
after s number t =
    after_call (call_by s t) (record { number = number; thread = t }) t s

-- the maker gets the number; the new thread stands after the others
made_threads :
    (after (state 1 1) 0 (caller 56 0x50F00 0)).threads
    ≡ caller 3 0x50F00 0 ∷ record (thread_at 0x401000 0 0 0) { live = false }
    ∷ caller 0 0x50F00 0 ∷ []
unfolding after caller state
made_threads = refl

-- one that is open outside trusted text has its maker's origin; one in trusted text has none
made_origins :
    map (λ rip. map (λ (t : Thread). t.origin)
    (after (state 1 0) 0 (record (opened (caller 56 0x50F00 0)) { rip = rip })).threads)
    (0x401002 ∷ 0x402002 ∷ [])
    ≡ (Some (record { at = 0x401003; len = 3; kind = Wrpkru })
    ∷ Some (record { at = 0x401003; len = 3; kind = Wrpkru }) ∷ []) ∷ (None ∷ None ∷ []) ∷ []
unfolding after caller state
made_origins = refl

-- exit ends its thread alone, and the last one ends the process
abbrev lives_and_end : State → List Bool × Option End
lives_and_end s = (map (λ (t : Thread). t.live) s.threads, s.end)

ended_threads :
    lives_and_end (after (state 3 0) 1 (caller 60 7 0))
    ∷ lives_and_end (after (state 1 2) 0 (caller 60 0x107 0)) ∷ []
    ≡ (true ∷ false ∷ true ∷ [], None) ∷ (false ∷ false ∷ false ∷ [], Some (Exit 7)) ∷ []
unfolding after caller state
ended_threads = refl

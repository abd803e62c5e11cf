-- The calls on threads. Linux: sched_yield(2), clone(2), gettid(2). Numbers of threads are own:
-- they count from 0, and a program sees them from 1 on.
use Rattle.std.specs.Prelude.{ℕ, ◌+◌, ◌%◌, ◌^◌, ◌==◌, not, nat_le, Some, length, if◌then◌else◌}
use Rattle.erim_defs.specs.declared.limits.TheConstants.{MOST_THREADS}
use Rattle.erim_defs.specs.declared.linux.TheConstants.{CLONE_FLAGS, EAGAIN, EINVAL}
use Rattle.erim_defs.specs.declared.machine.Thread.{Thread}
use Rattle.erim_defs.specs.declared.register.TheConstants.{RAX, RSP}
use Rattle.erim_defs.specs.Machine.Registers.{with_register}
use Rattle.erim_defs.specs.Machine.State.{State}
use Rattle.erim_defs.specs.Machine.CallResult.{CallResult, Answer, no_change, or_refuse}

-- a copy of the caller, as it goes on after its call, with 0 in RAX, and another stack where one is
-- given
abbrev pub new_thread : Thread → ℕ → Thread
new_thread t stack =
    let u = with_register t RAX 0 in if stack == 0 then u else with_register u RSP stack

-- clone(flags, stack); the flags are looked at in their low 32 bits. EAGAIN where 16 threads were
-- made, ended ones among them
unfoldable pub clone_result : State → Thread → ℕ → ℕ → CallResult
clone_result s t flags stack =
    or_refuse (not (flags % 2 ^ 32 == CLONE_FLAGS)) EINVAL
    (or_refuse (nat_le MOST_THREADS (length s.threads)) EAGAIN
    (Answer (length s.threads + 1)
    (let c = no_change s t in record c { clone = Some (new_thread t stack) })))

-- gettid() of the thread of this number
unfoldable pub gettid_result : State → ℕ → Thread → CallResult
gettid_result s number t = Answer (number + 1) (no_change s t)

-- sched_yield(), which changes nothing
unfoldable pub sched_yield_result : State → Thread → CallResult
sched_yield_result s t = Answer 0 (no_change s t)

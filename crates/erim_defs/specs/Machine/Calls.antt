-- The system calls. Linux on x86-64: number in RAX, arguments in RDI, RSI, RDX, R10.
use Rattle.std.specs.Prelude.{ℕ, ◌+◌, ◌%◌, ◌^◌, ◌==◌, ◌++◌, not, nat_lt, is_some, length}
use Rattle.std.specs.Prelude.{false, if◌then◌else◌}
use Rattle.erim_defs.specs.declared.limits.TheConstants.{MOST_OUTPUT}
use Rattle.erim_defs.specs.declared.machine.Thread.{Thread}
use Rattle.erim_defs.specs.declared.linux.TheConstants.{EBADF, EFAULT, ENOSPC, ENOSYS}
use Rattle.erim_defs.specs.declared.linux.TheConstants.{SYS_WRITE, SYS_MMAP, SYS_MPROTECT}
use Rattle.erim_defs.specs.declared.linux.TheConstants.{SYS_MUNMAP, SYS_SCHED_YIELD, SYS_CLONE}
use Rattle.erim_defs.specs.declared.linux.TheConstants.{SYS_EXIT, SYS_GETTID, SYS_EXIT_GROUP}
use Rattle.erim_defs.specs.declared.linux.TheConstants.{SYS_PKEY_MPROTECT, SYS_PKEY_ALLOC}
use Rattle.erim_defs.specs.declared.linux.TheConstants.{SYS_PKEY_FREE, SYS_TALLOC, SYS_TFREE}
use Rattle.erim_defs.specs.declared.register.TheConstants.{R10, RAX, RDI, RDX, RSI}
use Rattle.erim_defs.specs.Machine.Pages.{bytes_of_range}
use Rattle.erim_defs.specs.Machine.Access.{stop, whole}
use Rattle.erim_defs.specs.Machine.Registers.{register}
use Rattle.erim_defs.specs.Machine.State.{State}
use Rattle.erim_defs.specs.Machine.CallResult.{CallResult, Refusal, Answer, ThreadEnd, Quit}
use Rattle.erim_defs.specs.Machine.CallResult.{no_change, or_refuse}
use Rattle.erim_defs.specs.Machine.HeapCalls.{talloc_result, tfree_result}
use Rattle.erim_defs.specs.Machine.MapCalls.{mmap_result, munmap_result, mprotect_result}
use Rattle.erim_defs.specs.Machine.MapCalls.{pkey_mprotect_result, pkey_alloc_result}
use Rattle.erim_defs.specs.Machine.MapCalls.{pkey_free_result}
use Rattle.erim_defs.specs.Machine.ThreadCalls.{clone_result, gettid_result, sched_yield_result}

-- write(fd, buf, n) to standard output; ENOSPC above 1,048,576 bytes of output
unfoldable pub write_result : State → Thread → ℕ → ℕ → ℕ → CallResult
write_result s t fd buf n =
    or_refuse (not (fd % 2 ^ 32 == 1)) EBADF
    (or_refuse (is_some (stop (whole s.rights) false t.pkru buf n)) EFAULT
    (or_refuse (nat_lt MOST_OUTPUT (length s.output + n)) ENOSPC
    (Answer n (let c = no_change s t in
    record c { output = s.output ++ bytes_of_range s.bytes buf n }))))

-- what a call of the thread of this number gives: the row of its number in RAX
unfoldable pub call_result : State → ℕ → Thread → CallResult
call_result s number t =
    if register t RAX == SYS_WRITE
    then write_result s t (register t RDI) (register t RSI) (register t RDX)
    else if register t RAX == SYS_MMAP
    then mmap_result s t (register t RDI) (register t RSI) (register t RDX) (register t R10)
    else if register t RAX == SYS_MPROTECT
    then mprotect_result s t (register t RDI) (register t RSI) (register t RDX)
    else if register t RAX == SYS_MUNMAP
    then munmap_result s t (register t RDI) (register t RSI)
    else if register t RAX == SYS_SCHED_YIELD then sched_yield_result s t
    else if register t RAX == SYS_CLONE then clone_result s t (register t RDI) (register t RSI)
    else if register t RAX == SYS_EXIT then ThreadEnd (register t RDI % 256)
    else if register t RAX == SYS_GETTID then gettid_result s number t
    else if register t RAX == SYS_EXIT_GROUP then Quit (register t RDI % 256)
    else if register t RAX == SYS_PKEY_MPROTECT
    then pkey_mprotect_result s t (register t RDI) (register t RSI) (register t RDX)
    (register t R10)
    else if register t RAX == SYS_PKEY_ALLOC
    then pkey_alloc_result s t (register t RDI) (register t RSI)
    else if register t RAX == SYS_PKEY_FREE then pkey_free_result s t (register t RDI)
    else if register t RAX == SYS_TALLOC then talloc_result s t (register t RDI)
    else if register t RAX == SYS_TFREE then tfree_result s t (register t RDI)
    else Refusal ENOSYS

-- What the execution of an instruction answers, and what it leaves. Own.
use Rattle.erim_defs.specs.declared.machine.Thread.{Thread}
use Rattle.erim_defs.specs.declared.machine.Access.TheVariants.{Fault, Missing}
use Rattle.erim_defs.specs.declared.insn.Insn.{Insn}
use Rattle.erim_defs.specs.Machine.Pages.{ByteMap}
use Rattle.erim_defs.specs.Inspection.Trust.{TrustValue}
use Rattle.erim_defs.specs.Machine.Plan.{Effect, Done, Stopped, Called, bytes_after_write}
use Rattle.erim_defs.specs.Machine.State.{with_origin, is_escape}
use Rattle.erim_defs.specs.Machine.Step.{CodedInsn, sequence_of, writes_pkru}
use Rattle.x86_step.specs.declared.answer.Exec.{Exec}
use Rattle.x86_step.specs.declared.answer.Exec.TheVariants as exec

-- what is answered to an instruction of the thread t
abbrev pub exec_of : Effect → TrustValue → Insn → Thread → Exec
exec_of (Done new w) trust insn t = exec.Done (is_escape trust (writes_pkru insn t) t new)
exec_of (Stopped (Fault cause a)) trust insn t = exec.Fault cause a
exec_of (Stopped (Missing q)) trust insn t = exec.Missing q
exec_of Called trust insn t = exec.Syscall

-- the thread after it, with its origin; as it was where the instruction wasn't executed
abbrev pub thread_after : Effect → TrustValue → CodedInsn → Thread → Thread
thread_after (Done new w) trust i t = with_origin trust (sequence_of i t.rip) new
thread_after (Stopped a) trust i t = t
thread_after Called trust i t = t

-- the bytes after it
abbrev pub bytes_after : Effect → ByteMap → ByteMap
bytes_after (Done new w) bytes = bytes_after_write w bytes
bytes_after (Stopped a) bytes = bytes
bytes_after Called bytes = bytes

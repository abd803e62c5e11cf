-- What the program prints of a run: from its journal, and from the state that the journal leads to.
-- Own.
use Rattle.std.specs.Prelude.{ℕ, ◌*◌, ◌==◌, zero, suc, Bool, Option, Some, None, List, [], ◌++◌}
use Rattle.std.specs.Prelude.{length, map, filter, sum, slice_get, codes, if◌then◌else◌}
use Rattle.std.specs.Fmt.{decimal}
use Rattle.erim_defs.specs.declared.machine.Cause.{Cause}
use Rattle.erim_defs.specs.declared.machine.Cause.TheVariants.{Unmapped, Read, Write, Key, Exec}
use Rattle.erim_defs.specs.declared.machine.Cause.TheVariants.{Undefined, General}
use Rattle.erim_defs.specs.declared.machine.End.{End}
use Rattle.erim_defs.specs.declared.machine.End.TheVariants.{Exit, Fault, Refused}
use Rattle.erim_defs.specs.declared.machine.Entry.{Entry}
use Rattle.erim_defs.specs.declared.machine.Escape.{Escape}
use Rattle.erim_defs.specs.declared.machine.Thread.{Thread}
use Rattle.erim_defs.specs.Machine.State.{State}
use Rattle.erim_defs.specs.Output.Texts.{line, address_text, pkru_text, kind_text}

abbrev pub cause_text : Cause → List ℕ
cause_text Unmapped = codes "unmapped"
cause_text Read = codes "read"
cause_text Write = codes "write"
cause_text Key = codes "key"
cause_text Exec = codes "exec"
cause_text Undefined = codes "undefined"
cause_text General = codes "general"

-- a process that hasn't ended has spent its budget; a page is named by its first address
abbrev pub end_text : Option End → List ℕ
end_text None = codes "spent"
end_text (Some (Exit code)) = codes "exit " ++ decimal code
end_text (Some (Fault thread rip cause addr)) =
    codes "fault " ++ cause_text cause ++ codes " thread " ++ decimal thread ++ codes " rip "
    ++ address_text rip ++ codes " at " ++ address_text addr
end_text (Some (Refused page found thread)) =
    codes "refused page " ++ address_text (4096 * page) ++ codes " " ++ kind_text found.kind
    ++ codes " at " ++ address_text found.at ++ codes " thread " ++ decimal thread

abbrev pub escape_text : Option Escape → List ℕ
escape_text None = codes "none"
escape_text (Some e) = codes "step " ++ decimal e.step ++ codes " thread " ++ decimal e.thread
    ++ codes " rip " ++ address_text e.rip

-- how many steps the entries of which a test holds stand for
abbrev pub steps_where : (Entry → Bool) → List Entry → ℕ
steps_where test entries = sum (map (λ (e : Entry). e.count) (filter test entries))

abbrev pub steps_of_thread : List Entry → ℕ → ℕ
steps_of_thread entries t = steps_where (λ (e : Entry). e.thread == t) entries

abbrev pub steps_of_worker : List Entry → ℕ → ℕ
steps_of_worker entries w = steps_where (λ (e : Entry). e.worker == w) entries

abbrev pub thread_text : List Entry → ℕ → ℕ → List ℕ
thread_text entries t pkru =
    line (codes "thread " ++ decimal t ++ codes " steps " ++ decimal (steps_of_thread entries t)
    ++ codes " pkru " ++ pkru_text pkru)

abbrev pub thread_line : List Entry → ℕ → Option Thread → List ℕ
thread_line entries t None = []
thread_line entries t (Some thread) = thread_text entries t thread.pkru

-- a line for each of the first n threads
unfoldable pub thread_lines : List Entry → List Thread → ℕ → List ℕ
thread_lines entries threads zero = []
thread_lines entries threads (suc t) =
    thread_lines entries threads t ++ thread_line entries t (slice_get threads t)

-- a worker that made steps
abbrev pub worker_line : ℕ → ℕ → List ℕ
worker_line w steps = if steps == 0 then []
    else line (codes "worker " ++ decimal w ++ codes " steps " ++ decimal steps)

-- a line for each worker below n that made steps
unfoldable pub worker_lines : List Entry → ℕ → List ℕ
worker_lines entries zero = []
worker_lines entries (suc w) = worker_lines entries w ++ worker_line w (steps_of_worker entries w)

-- what stands after the output
abbrev pub lines_after_output : List Entry → State → List ℕ
lines_after_output entries s =
    line (codes "steps " ++ decimal s.steps)
    ++ line (codes "end " ++ end_text s.end)
    ++ line (codes "escape " ++ escape_text s.escape)
    ++ thread_lines entries s.threads (length s.threads)
    ++ worker_lines entries 9

-- workers are numbered from 0 to 8
unfoldable pub report : List Entry → State → List ℕ
report entries s = line (codes "output " ++ decimal (length s.output)) ++ line s.output
    ++ lines_after_output entries s

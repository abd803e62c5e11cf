-- The reports of small runs, computed. The texts are from the format.
use Rattle.std.proofs.Common.{◌≡◌, ℕ, List, [], ◌∷◌, ◌++◌, Option, Some, None, map, refl}
use Rattle.std.specs.Prelude.{codes}
use Rattle.std.specs.Fmt.{digits}
use Rattle.erim_defs.specs.declared.found.SeqKind.TheVariants.{Wrpkru}
use Rattle.erim_defs.specs.declared.machine.Cause.TheVariants.{Unmapped, Read, Write, Key, Exec}
use Rattle.erim_defs.specs.declared.machine.Cause.TheVariants.{Undefined, General}
use Rattle.erim_defs.specs.declared.machine.End.{End}
use Rattle.erim_defs.specs.declared.machine.End.TheVariants.{Exit, Fault, Refused}
use Rattle.erim_defs.specs.declared.machine.Entry.{Entry}
use Rattle.erim_defs.specs.declared.machine.Escape.{Escape}
use Rattle.erim_defs.specs.declared.machine.Thread.{Thread}
use Rattle.erim_defs.specs.Machine.State.{State}
use Rattle.erim_defs.specs.Output.Report.{report, thread_lines, worker_lines, end_text, escape_text}
use Rattle.definition_rows.proofs.SmallMachine.{state_of, thread_at}

abbrev entry : ℕ → ℕ → ℕ → Entry
entry worker thread count = record { worker = worker; thread = thread; count = count }

-- of these steps, this end and this escape
abbrev run_of : ℕ → List ℕ → Option End → Option Escape → List Thread → State
run_of steps output end escape threads =
    record (state_of (thread_at 0x401000 0 0 0) [])
    { steps = steps; output = output; end = end; escape = escape; threads = threads }

closed_thread : Thread
closed_thread = thread_at 0x40100C 0 0 0

with_pkru : ℕ → Thread
with_pkru pkru = record (thread_at 0x40100C 0 0 0) { pkru = pkru }

-- four steps of thread 0 by worker 0, which exits with 0
report_of_four : report (entry 0 0 4 ∷ []) (run_of 4 [] (Some (Exit 0)) None (closed_thread ∷ [])) ≡
    codes "output 0\n"
    ++ codes "\n"
    ++ codes "steps 4\n"
    ++ codes "end exit 0\n"
    ++ codes "escape none\n"
    ++ codes "thread 0 steps 4 pkru 0x55555554\n"
    ++ codes "worker 0 steps 4\n"
unfolding report thread_lines worker_lines digits closed_thread
report_of_four = refl

-- two threads and workers 2, 3 and 8: the steps of a thread are those of all its entries, and so
-- for a worker
report_of_two :
    let threads = with_pkru 0 ∷ with_pkru 0x5555555C ∷ [] in
    let escape : Escape = record { step = 9; thread = 1; rip = 0x40200C } in
    report (entry 2 0 5 ∷ entry 3 1 20 ∷ entry 2 1 300 ∷ entry 8 0 1 ∷ [])
    (run_of 326 (codes "Hi\n") (Some (Exit 7)) (Some escape) threads)
    ≡
    codes "output 3\n"
    ++ codes "Hi\n"
    ++ codes "\n"
    ++ codes "steps 326\n"
    ++ codes "end exit 7\n"
    ++ codes "escape step 9 thread 1 rip 0x00000040200c\n"
    ++ codes "thread 0 steps 6 pkru 0x00000000\n"
    ++ codes "thread 1 steps 320 pkru 0x5555555c\n"
    ++ codes "worker 2 steps 305\n"
    ++ codes "worker 3 steps 20\n"
    ++ codes "worker 8 steps 1\n"
unfolding report thread_lines worker_lines digits with_pkru
report_of_two = refl

-- a thread that made no step is said, a worker that made none isn't
report_of_none : report [] (run_of 0 [] None None (closed_thread ∷ [])) ≡
    codes "output 0\n\nsteps 0\nend spent\nescape none\nthread 0 steps 0 pkru 0x55555554\n"
unfolding report thread_lines worker_lines digits closed_thread
report_of_none = refl

-- every worker by its number
report_of_nine :
    worker_lines
    (entry 0 0 1 ∷ entry 1 0 2 ∷ entry 4 0 5 ∷ entry 5 0 6 ∷ entry 6 0 7 ∷ entry 7 0 8 ∷ []) 9
    ≡ codes "worker 0 steps 1\n"
    ++ codes "worker 1 steps 2\n"
    ++ codes "worker 4 steps 5\n"
    ++ codes "worker 5 steps 6\n"
    ++ codes "worker 6 steps 7\n"
    ++ codes "worker 7 steps 8\n"
unfolding worker_lines digits
report_of_nine = refl

-- ---- each end

exits :
    map (λ code. end_text (Some (Exit code))) (0 ∷ 7 ∷ 255 ∷ [])
    ≡ codes "exit 0" ∷ codes "exit 7" ∷ codes "exit 255" ∷ []
unfolding digits
exits = refl

faults :
    map (λ cause. end_text (Some (Fault 1 0x401000 cause 0x401100)))
    (Unmapped ∷ Read ∷ Write ∷ Key ∷ Exec ∷ Undefined ∷ General ∷ [])
    ≡ codes "fault unmapped thread 1 rip 0x000000401000 at 0x000000401100"
    ∷ codes "fault read thread 1 rip 0x000000401000 at 0x000000401100"
    ∷ codes "fault write thread 1 rip 0x000000401000 at 0x000000401100"
    ∷ codes "fault key thread 1 rip 0x000000401000 at 0x000000401100"
    ∷ codes "fault exec thread 1 rip 0x000000401000 at 0x000000401100"
    ∷ codes "fault undefined thread 1 rip 0x000000401000 at 0x000000401100"
    ∷ codes "fault general thread 1 rip 0x000000401000 at 0x000000401100" ∷ []
unfolding digits
faults = refl

refused :
    end_text (Some (Refused 0x402 (record { at = 0x401FFE; len = 3; kind = Wrpkru }) 2))
    ≡ codes "refused page 0x000000402000 wrpkru at 0x000000401ffe thread 2"
unfolding digits
refused = refl

spent : end_text None ≡ codes "spent"
spent = refl

-- an address of more than twelve digits
far_address :
    end_text (Some (Fault 0 0xFEDCBA9876543210 Exec 0xFEDCBA9876543210))
    ≡ codes "fault exec thread 0 rip 0xfedcba9876543210 at 0xfedcba9876543210"
unfolding digits
far_address = refl

escapes :
    escape_text (Some (record { step = 7; thread = 3; rip = 0x401005 })) ∷ escape_text None ∷ []
    ≡ codes "step 7 thread 3 rip 0x000000401005" ∷ codes "none" ∷ []
unfolding digits
escapes = refl

-- What the lock keeps of the process. Own.
use Rattle.std.specs.Prelude.{ℕ, ◌==◌, ◌&&◌, nat_le, nat_lt, Bool, true, List, [], ◌∷◌}
use Rattle.std.specs.Prelude.{Option, Some, None, sum, map, if◌then◌else◌}
use Rattle.erim_defs.specs.declared.machine.Entry.{Entry}
use Rattle.erim_defs.specs.declared.machine.Thread.{Thread}
use Rattle.erim_defs.specs.Machine.ReplayFaults.{is_over}
use Rattle.erim_defs.specs.Machine.State.{State}
use Rattle.erim_defs.specs.Machine.TimeSlices.{is_live_at, live_from}
use Rattle.erim_defs.specs.Output.Report.{steps_of_worker}
use Rattle.publish_lock.specs.declared.advancing.Turn.{Turn}
use Rattle.publish_lock.specs.declared.advancing.Turn.TheVariants.{Made, Over}

-- ---- the journal

-- each entry is of a worker from 1 to the given number
abbrev pub are_of_workers : ℕ → List Entry → Bool
are_of_workers most [] = true
are_of_workers most (entry ∷ entries) =
    nat_lt 0 entry.worker && nat_le entry.worker most && are_of_workers most entries

-- the steps of all entries are those of the state
abbrev pub is_summed : List Entry → State → Bool
is_summed entries s = sum (map (λ (e : Entry). e.count) entries) == s.steps

-- the total of the marks is 0, or the process is over
abbrev pub is_marked : ℕ → State → Bool
is_marked total s = if total == 0 then true else is_over s

-- the steps of each worker, from 0 to 8
abbrev pub counts_of : List Entry → List ℕ
counts_of entries =
    steps_of_worker entries 0 ∷ steps_of_worker entries 1 ∷ steps_of_worker entries 2
    ∷ steps_of_worker entries 3 ∷ steps_of_worker entries 4 ∷ steps_of_worker entries 5
    ∷ steps_of_worker entries 6 ∷ steps_of_worker entries 7 ∷ steps_of_worker entries 8 ∷ []

-- ---- a turn

abbrev pub found_or : ℕ → Option ℕ → ℕ
found_or t None = t
found_or t (Some u) = u

-- the thread, where it is live, else the live one with the least number
abbrev pub thread_or_first : List Thread → ℕ → ℕ
thread_or_first threads t = if is_live_at threads t then t else found_or 0 (live_from threads 0)

-- one step
abbrev pub entry_of : ℕ → ℕ → Entry
entry_of worker t = record { worker = worker; thread = t; count = 1 }

abbrev pub steps_of_turn : Turn → ℕ
steps_of_turn (Made steps) = steps
steps_of_turn Over = 0

-- the mark of a seat after a turn
abbrev pub mark_after : Turn → ℕ → ℕ
mark_after (Made steps) mark = mark
mark_after Over mark = 1

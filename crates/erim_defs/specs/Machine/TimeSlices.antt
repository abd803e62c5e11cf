-- Time slices of threads, round robin: a live thread makes a given number of steps in a row, the
-- quantum, and then the next live thread does, round from the last to the first. Own.
use Rattle.std.specs.Prelude.{ℕ, ◌+◌, ◌-◌, ◌==◌, ◌&&◌, nat_lt, nat_le, Bool, Option, Some, None}
use Rattle.std.specs.Prelude.{List, [], ◌∷◌, length, slice_get, is_some, option_map, if◌then◌else◌}
use Rattle.erim_defs.specs.declared.machine.Entry.{Entry}
use Rattle.erim_defs.specs.declared.machine.Thread.{Thread}
use Rattle.erim_defs.specs.Inspection.Code.{or_else}
use Rattle.erim_defs.specs.Machine.Least.{least_below}
use Rattle.erim_defs.specs.Machine.Replay.{then_}
use Rattle.erim_defs.specs.Machine.State.{State}
use Rattle.erim_defs.specs.Machine.Step.{if_live, step}
use Rattle.erim_defs.specs.declared.time_slice.TimeSlice.{TimeSlice}

-- ---- the next live thread

-- the thread of this number is there, and live
abbrev pub is_live_at : List Thread → ℕ → Bool
is_live_at threads n = is_some (if_live (slice_get threads n))

-- the live thread with the least number from n on
abbrev pub live_from : List Thread → ℕ → Option ℕ
live_from threads n = least_below (length threads) (λ k. nat_le n k && is_live_at threads k)

-- the next live thread after t, round from the last to the first; t itself if no other is live
abbrev pub live_after : List Thread → ℕ → Option ℕ
live_after threads t = or_else (live_from threads (t + 1)) (live_from threads 0)

-- ---- time slices

-- thread 0 comes first, with all its steps
abbrev pub first_slice : ℕ → TimeSlice
first_slice quantum = record { thread = 0; left = quantum }

-- a thread that makes the first of its steps
abbrev pub new_slice : ℕ → ℕ → TimeSlice
new_slice quantum t = record { thread = t; left = quantum - 1 }

-- the time slice of the next step: that of the same thread where it is live and has steps left,
-- else that of the next live thread
abbrev pub slice_after : ℕ → List Thread → TimeSlice → Option TimeSlice
slice_after quantum threads slice =
    if is_live_at threads slice.thread && nat_lt 0 slice.left
    then Some (record { thread = slice.thread; left = slice.left - 1 })
    else option_map (new_slice quantum) (live_after threads slice.thread)

-- ---- runs by time slices

-- a state, and the time slice of the step that led to it
pub record Course : Type 0 where
  pub state : State
  pub slice : TimeSlice

-- the entry is one step of this time slice's thread, by worker 0
abbrev pub is_of : TimeSlice → Entry → Bool
is_of slice entry = entry.worker == 0 && (entry.thread == slice.thread && entry.count == 1)

-- a step in this time slice, where the entry is that step
abbrev pub step_in : TimeSlice → Entry → State → Option Course
step_in slice entry s =
    if is_of slice entry
    then option_map (λ (after : State). record { state = after; slice = slice })
    (step slice.thread s)
    else None

-- a step in the time slice that comes next
abbrev pub step_by_slice : ℕ → Entry → Course → Option Course
step_by_slice quantum entry course =
    then_ (slice_after quantum course.state.threads course.slice)
    (λ slice. step_in slice entry course.state)

-- where entries lead to, each of them the step whose time slice it is
abbrev pub after_slices : ℕ → Option Course → List Entry → Option Course
after_slices quantum course [] = course
after_slices quantum course (entry ∷ entries) =
    after_slices quantum (then_ course (step_by_slice quantum entry)) entries

-- a state at which the first time slice begins
abbrev pub course_from : ℕ → State → Course
course_from quantum s = record { state = s; slice = first_slice quantum }

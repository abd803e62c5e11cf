-- The time slices of threads on small lists and small states, computed. Own: each thread makes so
-- many steps in a row, in the order of their numbers, round from the last to the first.
use Rattle.std.proofs.Common.{◌≡◌, ℕ, zero, suc, List, [], ◌∷◌, map, Option, Some, None, false}
use Rattle.std.proofs.Common.{refl}
use Rattle.erim_defs.specs.declared.machine.End.TheVariants.{Exit}
use Rattle.erim_defs.specs.declared.machine.Entry.{Entry}
use Rattle.erim_defs.specs.declared.machine.Thread.{Thread}
use Rattle.erim_defs.specs.Machine.Least.{least_below}
use Rattle.erim_defs.specs.Machine.State.{State}
use Rattle.definition_rows.proofs.SmallMachine.{thread_at, state_of, step_by}
use Rattle.erim_defs.specs.declared.time_slice.TimeSlice.{TimeSlice}
use Rattle.erim_defs.specs.Machine.TimeSlices.{live_from, live_after, first_slice, slice_after}
use Rattle.erim_defs.specs.Machine.TimeSlices.{after_slices}
use Rattle.erim_defs.specs.Machine.TimeSlices.{Course, course_from}

-- ---- the next live thread

abbrev live : Thread
live = thread_at 0x401000 0 0 0

abbrev ended : Thread
ended = record live { live = false }

-- the middle one has ended
abbrev outer : List Thread
outer = live ∷ ended ∷ live ∷ []

abbrev inner : List Thread
inner = ended ∷ live ∷ ended ∷ []

-- a list of live threads from a number on
abbrev from_each : List Thread → List (Option ℕ)
from_each threads =
    live_from threads 0 ∷ live_from threads 1 ∷ live_from threads 2 ∷ live_from threads 3 ∷ []

abbrev behind_each : List Thread → List (Option ℕ)
behind_each threads =
    live_after threads 0 ∷ live_after threads 1 ∷ live_after threads 2 ∷ live_after threads 3
    ∷ []

-- a slip that it catches: the number itself left out, or the last; an ended thread found
from_outer : from_each outer ≡ Some 0 ∷ Some 2 ∷ Some 2 ∷ None ∷ []
unfolding least_below
from_outer = refl

from_inner : from_each inner ≡ Some 1 ∷ Some 1 ∷ None ∷ None ∷ []
unfolding least_below
from_inner = refl

-- ... no way round after the last thread; the thread itself where another is live
behind_outer : behind_each outer ≡ Some 2 ∷ Some 2 ∷ Some 0 ∷ Some 0 ∷ []
unfolding least_below
behind_outer = refl

-- ... none where the thread itself is the only live one
behind_inner : behind_each inner ≡ Some 1 ∷ Some 1 ∷ Some 1 ∷ Some 1 ∷ []
unfolding least_below
behind_inner = refl

behind_ended : behind_each (ended ∷ ended ∷ []) ≡ None ∷ None ∷ None ∷ None ∷ []
unfolding least_below
behind_ended = refl

-- ---- time slices

-- the threads of a given number of time slices
order : ℕ → ℕ → List Thread → Option TimeSlice → List ℕ
order zero quantum threads slice = []
order (suc n) quantum threads None = []
order (suc n) quantum threads (Some slice) =
    slice.thread ∷ order n quantum threads (slice_after quantum threads slice)

-- those of the first time slices
abbrev first_order : ℕ → ℕ → List Thread → List ℕ
first_order n quantum threads =
    order n quantum threads (slice_after quantum threads (first_slice quantum))

three : List Thread
three = live ∷ live ∷ live ∷ []

-- ... thread 0 with two steps at first; the last thread left out
by_ones : first_order 7 1 three ≡ 0 ∷ 1 ∷ 2 ∷ 0 ∷ 1 ∷ 2 ∷ 0 ∷ []
unfolding least_below order three
by_ones = refl

-- ... a step too many or too few, in the first time slice or in a later one
by_twos : first_order 9 2 three ≡ 0 ∷ 0 ∷ 1 ∷ 1 ∷ 2 ∷ 2 ∷ 0 ∷ 0 ∷ 1 ∷ []
unfolding least_below order three
by_twos = refl

-- ... a time slice for a thread that has ended
past_ended : first_order 6 2 outer ≡ 0 ∷ 0 ∷ 2 ∷ 2 ∷ 0 ∷ 0 ∷ []
unfolding least_below order
past_ended = refl

-- ... thread 0 first though it has ended
not_first : first_order 4 3 inner ≡ 1 ∷ 1 ∷ 1 ∷ 1 ∷ []
unfolding least_below order
not_first = refl

no_thread : first_order 4 1 (ended ∷ []) ≡ []
unfolding least_below order
no_thread = refl

-- ... steps that are left are a thread's that has ended; the next thread takes them over
ended_within : slice_after 4 outer (record { thread = 1; left = 2 })
    ≡ Some (record { thread = 2; left = 3 })
unfolding least_below
ended_within = refl

-- ---- runs by time slices

-- two threads, each before xor edi, edi three times
pair : State
pair = record (state_of live (0x31 ∷ 0xFF ∷ 0x31 ∷ 0xFF ∷ 0x31 ∷ 0xFF ∷ [])) {
  threads = live ∷ live ∷ [];
}

abbrev entry : ℕ → ℕ → ℕ → Entry
entry worker thread count = record { worker = worker; thread = thread; count = count }

-- a step of each of these threads, by worker 0
abbrev steps_of : List ℕ → List Entry
steps_of [] = []
steps_of (t ∷ ts) = entry 0 t 1 ∷ steps_of ts

-- where entries lead to: the thread and the steps left of the last time slice, and the threads'
-- RIPs
told : Option Course → List ℕ
told None = []
told (Some course) =
    course.slice.thread ∷ course.slice.left ∷ map (λ (t : Thread). t.rip) course.state.threads

abbrev run_of : ℕ → State → List Entry → List ℕ
run_of quantum s entries = told (after_slices quantum (Some (course_from quantum s)) entries)

no_step : run_of 2 pair [] ≡ 0 ∷ 2 ∷ 0x401000 ∷ 0x401000 ∷ []
unfolding told pair
no_step = refl

-- ... the step of another thread than the entry's
run_by_ones : run_of 1 pair (steps_of (0 ∷ 1 ∷ 0 ∷ [])) ≡ 0 ∷ 0 ∷ 0x401004 ∷ 0x401002 ∷ []
unfolding step_by least_below told pair
run_by_ones = refl

run_by_twos : run_of 2 pair (steps_of (0 ∷ 0 ∷ 1 ∷ [])) ≡ 1 ∷ 1 ∷ 0x401004 ∷ 0x401002 ∷ []
unfolding step_by least_below told pair
run_by_twos = refl

-- ... a step more of a thread whose time slice is over; one less
again : run_of 1 pair (steps_of (0 ∷ 0 ∷ [])) ≡ []
unfolding step_by least_below told pair
again = refl

too_soon : run_of 2 pair (steps_of (0 ∷ 1 ∷ [])) ≡ []
unfolding step_by least_below told pair
too_soon = refl

-- ... another thread first, another worker, two steps in one entry
other_first : run_of 1 pair (steps_of (1 ∷ [])) ≡ []
unfolding step_by least_below told pair
other_first = refl

other_worker : run_of 1 pair (entry 1 0 1 ∷ []) ≡ []
unfolding step_by least_below told pair
other_worker = refl

two_at_once : run_of 2 pair (entry 0 0 2 ∷ []) ≡ []
unfolding step_by least_below told pair
two_at_once = refl

-- ... a step after the end, or after the budget of 100
behind_end : run_of 1 (record pair { end = Some (Exit 0) }) (steps_of (0 ∷ [])) ≡ []
unfolding step_by least_below told pair
behind_end = refl

behind_budget : run_of 1 (record pair { steps = 100 }) (steps_of (0 ∷ [])) ≡ []
unfolding step_by least_below told pair
behind_budget = refl

-- What is known of a process whose threads are stepped in turn.
use Rattle.std.specs.Prelude.{◌≡◌, ℕ, ◌≤◌, ◌++◌, Some, List}
use Rattle.std.specs.List.{AllByRecursion}
use Rattle.erim_defs.specs.declared.machine.Entry.{Entry}
use Rattle.erim_defs.specs.Machine.Replay.{AreAlone}
use Rattle.erim_process.specs.ProcessValue.{ProcessValue, state_of}
use Rattle.erim_defs.specs.declared.time_slice.TimeSlice.{TimeSlice}
use Rattle.erim_defs.specs.Machine.TimeSlices.{after_slices, course_from}

-- steps of worker 0 by time slices, of which this is the last, lead from a process to another
pub record LeadsBy (quantum : ℕ) (old new : ProcessValue) (last : TimeSlice) : Type 0 where
  pub added : List Entry
  pub journal : new.journal ≡ old.journal ++ added
  pub alone : AreAlone added
  pub slices : after_slices quantum (Some (course_from quantum (state_of old))) added
      ≡ Some (record { state = state_of new; slice = last })

-- steps of worker 0 by time slices, the first of them thread 0's, lead from a process to another
abbrev pub LeadsBySlices : ℕ → ProcessValue → ProcessValue → Type 0
LeadsBySlices quantum old new = (last : TimeSlice) × LeadsBy quantum old new last

-- no worker above the given one made a step
abbrev pub AreWithin : ℕ → List Entry → Type 0
AreWithin most entries = AllByRecursion (λ (e : Entry). e.worker ≤ most) entries

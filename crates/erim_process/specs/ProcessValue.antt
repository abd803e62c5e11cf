-- What contracts see of a process: its setup and its journal, which determine its state.
use Rattle.std.specs.Prelude.{◌≡◌, Option, Some, None, List}
use Rattle.erim_defs.specs.declared.machine.Entry.{Entry}
use Rattle.erim_defs.specs.Machine.State.{Setup, State}
use Rattle.erim_defs.specs.Machine.Replay.{replay}
use Rattle.erim_defs.specs.Machine.Start.{first_state}

pub record ProcessValue : Type 0 where
  pub setup : Setup
  pub journal : List Entry

abbrev pub state_or : Option State → State → State
state_or None s = s
state_or (Some t) s = t

-- the state that the journal leads to
unfoldable pub state_of : ProcessValue → State
state_of v = state_or (replay v.setup v.journal) (first_state v.setup)

-- every step of the journal is defined
abbrev pub IsRun : ProcessValue → Type 0
IsRun v = replay v.setup v.journal ≡ Some (state_of v)

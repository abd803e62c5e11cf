-- Runs of the machine under a journal. Own.
use Rattle.std.specs.Prelude.{◌≡◌, ◌⊎◌, ℕ, Option, Some, None, IsSome, List, [], ◌∷◌, zero, suc}
use Rattle.std.specs.List.{AllByRecursion}
use Rattle.erim_defs.specs.declared.machine.Entry.{Entry}
use Rattle.erim_defs.specs.Machine.State.{Setup, State}
use Rattle.erim_defs.specs.Machine.Step.{step}
use Rattle.erim_defs.specs.Machine.Start.{first_state}

abbrev pub then_ : {X Y : Type 0} → Option X → (X → Option Y) → Option Y
then_ None f = None
then_ (Some x) f = f x

-- n steps of thread t
unfoldable pub steps_of : ℕ → ℕ → State → Option State
steps_of t zero s = Some s
steps_of t (suc n) s = then_ (step t s) (steps_of t n)

-- an entry is a given number of steps of its thread; the worker changes nothing
abbrev pub replay_from : Option State → List Entry → Option State
replay_from s [] = s
replay_from s (entry ∷ entries) = replay_from (then_ s (steps_of entry.thread entry.count)) entries

-- the state after the entries, where each of their steps is defined
unfoldable pub replay : Setup → List Entry → Option State
replay setup entries = replay_from (Some (first_state setup)) entries

-- each step of the entries is defined
abbrev pub IsLegal : Setup → List Entry → Type 0
IsLegal setup entries = IsSome (replay setup entries)

-- the process has ended, or its budget is spent
abbrev pub IsOver : State → Type 0
IsOver s = IsSome s.end ⊎ (s.steps ≡ s.setup.budget)

-- legal, and over
abbrev pub IsComplete : Setup → List Entry → Type 0
IsComplete setup entries = (s : State) × (replay setup entries ≡ Some s) × IsOver s

-- no worker but 0 made a step
abbrev pub AreAlone : List Entry → Type 0
AreAlone entries = AllByRecursion (λ (e : Entry). e.worker ≡ 0) entries

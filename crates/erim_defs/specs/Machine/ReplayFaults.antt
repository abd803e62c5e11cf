-- Entries of a journal made again, step by step: what breaks that. Own.
use Rattle.std.specs.Prelude.{◌≡◌, ◌↔◌, ℕ, zero, suc, ◌+◌, ◌==◌, ◌||◌, Bool, Option, Some, None}
use Rattle.std.specs.Prelude.{List, [], ◌∷◌, is_some, option_map, replicate, take, if◌then◌else◌}
use Rattle.std.specs.List.{flat_map}
use Rattle.erim_defs.specs.declared.machine.Entry.{Entry}
use Rattle.erim_defs.specs.Inspection.Code.{or_else}
use Rattle.erim_defs.specs.Machine.Replay.{IsComplete, IsLegal, replay, steps_of, then_}
use Rattle.erim_defs.specs.Machine.Start.{first_state}
use Rattle.erim_defs.specs.Machine.State.{Setup, State}
use Rattle.erim_defs.specs.Machine.Step.{step}
use Rattle.erim_defs.specs.declared.stepped.Stepped.{Stepped}
use Rattle.erim_defs.specs.declared.stepped.Stepped.TheVariants.{Made, Ended, Spent}
use Rattle.erim_defs.specs.declared.stepped.Stepped.TheVariants as answers
use Rattle.erim_defs.specs.Machine.StartFaults.{start_fault}
use Rattle.erim_defs.specs.Machine.StepAnswers.{step_answer}
use Rattle.erim_defs.specs.declared.replay_fault.ReplayFault.{ReplayFault}
use Rattle.erim_defs.specs.declared.replay_fault.ReplayFault.TheVariants.{Start, PastEnd}
use Rattle.erim_defs.specs.declared.replay_fault.ReplayFault.TheVariants.{PastBudget}
use Rattle.erim_defs.specs.declared.replay_fault.ReplayFault.TheVariants.{NotLive, Unfinished}

-- why a step of the entry at this index that is answered so breaks a replay
abbrev pub fault_of_answer : ℕ → Stepped → Option ReplayFault
fault_of_answer index Made = None
fault_of_answer index Ended = Some (PastEnd index)
fault_of_answer index Spent = Some (PastBudget index)
fault_of_answer index answers.NotLive = Some (NotLive index)

-- the first of n steps of thread t that can't be made; they are those of the entry at this index
unfoldable pub steps_fault : ℕ → ℕ → ℕ → State → Option ReplayFault
steps_fault index t zero s = None
steps_fault index t (suc n) s =
    or_else (fault_of_answer index (step_answer s t)) (then_ (step t s) (steps_fault index t n))

-- the process has ended, or its budget is spent
abbrev pub is_over : State → Bool
is_over s = is_some s.end || s.steps == s.setup.budget

-- the first step of the entries that can't be made, where the first of them has this index; where
-- all can, whether the process could go on
unfoldable pub entries_fault : ℕ → List Entry → State → Option ReplayFault
entries_fault index [] s = if is_over s then None else Some Unfinished
entries_fault index (entry ∷ entries) s =
    or_else (steps_fault index entry.thread entry.count s)
    (then_ (steps_of entry.thread entry.count s) (entries_fault (index + 1) entries))

-- what breaks a replay, in this order: what keeps the process from starting; the first step that
-- can't be made; that it could go on
unfoldable pub replay_fault : Setup → List Entry → Option ReplayFault
replay_fault setup entries =
    or_else (option_map Start (start_fault setup)) (entries_fault 0 entries (first_state setup))

-- ---- laws

-- a replay isn't broken exactly where the process starts and the entries lead it to its end
abbrev pub UnbrokenLaw : Type 0
UnbrokenLaw = (setup : Setup) (entries : List Entry)
    → (replay_fault setup entries ≡ None) ↔ ((start_fault setup ≡ None) × IsComplete setup entries)

-- the entry that a fault names
abbrev pub fault_index : ReplayFault → Option ℕ
fault_index (PastEnd index) = Some index
fault_index (PastBudget index) = Some index
fault_index (NotLive index) = Some index
fault_index other = None

-- the entries before the one that a fault names are legal, and with that one they aren't
abbrev pub FirstLaw : Type 0
FirstLaw = (setup : Setup) (entries : List Entry) (fault : ReplayFault) (index : ℕ)
    → replay_fault setup entries ≡ Some fault → fault_index fault ≡ Some index
    → IsLegal setup (take index entries) × (replay setup (take (index + 1) entries) ≡ None)

-- ---- the journal of a replay

-- the steps of an entry, each an entry of its own
abbrev pub single_steps : Entry → List Entry
single_steps entry = replicate entry.count (record entry { count = 1 })

-- the entries' steps, likewise
abbrev pub one_by_one : List Entry → List Entry
one_by_one entries = flat_map single_steps entries

-- What breaks replays from the small setup, computed: its program is mov eax, 231; xor edi, edi;
-- syscall. Own: entries are counted from 0.
use Rattle.std.proofs.Common.{◌≡◌, ℕ, List, [], ◌∷◌, Option, Some, None, refl}
use Rattle.erim_defs.specs.declared.machine.Entry.{Entry}
use Rattle.erim_defs.specs.Machine.State.{Setup}
use Rattle.erim_defs.specs.Machine.Start.{first_state}
use Rattle.definition_rows.proofs.SmallMachine.{small_setup, replay_by}
use Rattle.erim_defs.specs.declared.replay_fault.ReplayFault.{ReplayFault}
use Rattle.erim_defs.specs.declared.replay_fault.ReplayFault.TheVariants.{NotLive, PastBudget}
use Rattle.erim_defs.specs.declared.replay_fault.ReplayFault.TheVariants.{PastEnd, Unfinished}
use Rattle.erim_defs.specs.Machine.ReplayFaults.{entries_fault, one_by_one, steps_fault}

abbrev entry : ℕ → ℕ → ℕ → Entry
entry worker thread count = record { worker = worker; thread = thread; count = count }

unfoldable fault_by : Setup → List Entry → Option ReplayFault
unfolding replay_by steps_fault entries_fault
fault_by setup entries = entries_fault 0 entries (first_state setup)

-- the third step ends the process; the workers change nothing
ended : fault_by small_setup (entry 2 0 2 ∷ entry 0 0 1 ∷ []) ≡ None
unfolding fault_by
ended = refl

-- a slip that it catches: a journal cut short
cut_short : fault_by small_setup (entry 2 0 2 ∷ []) ≡ Some Unfinished
unfolding fault_by
cut_short = refl

no_entry : fault_by small_setup [] ≡ Some Unfinished
unfolding fault_by
no_entry = refl

-- ... the index of the entry before; a step too many in the last entry
behind_the_end : fault_by small_setup (entry 0 0 3 ∷ entry 0 0 1 ∷ []) ≡ Some (PastEnd 1)
unfolding fault_by
behind_the_end = refl

over_the_end : fault_by small_setup (entry 0 0 4 ∷ []) ≡ Some (PastEnd 0)
unfolding fault_by
over_the_end = refl

-- ... a thread that isn't there, also after the end
no_such_thread : fault_by small_setup (entry 0 0 1 ∷ entry 0 1 1 ∷ []) ≡ Some (NotLive 1)
unfolding fault_by
no_such_thread = refl

ended_first : fault_by small_setup (entry 0 0 3 ∷ entry 0 1 1 ∷ []) ≡ Some (PastEnd 1)
unfolding fault_by
ended_first = refl

-- ... a budget that is spent is an end; a step after it isn't the process' end
short_setup : Setup
short_setup = record small_setup { budget = 2 }

spent : fault_by short_setup (entry 0 0 2 ∷ []) ≡ None
unfolding fault_by short_setup
spent = refl

behind_the_budget : fault_by short_setup (entry 0 0 1 ∷ entry 0 0 2 ∷ []) ≡ Some (PastBudget 1)
unfolding fault_by short_setup
behind_the_budget = refl

-- ---- one by one

-- ... another worker than the entry's; one step for each entry
in_ones :
    one_by_one (entry 2 0 2 ∷ entry 0 1 1 ∷ [])
    ≡ entry 2 0 1 ∷ entry 2 0 1 ∷ entry 0 1 1 ∷ []
in_ones = refl

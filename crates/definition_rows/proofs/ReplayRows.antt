-- Replays from the small setup, computed: its program is mov eax, 231; xor edi, edi; syscall, in
-- trusted text.
use Rattle.std.proofs.Common.{◌≡◌, ℕ, [], ◌∷◌, Some, None, true, refl}
use Rattle.erim_defs.specs.declared.machine.End.TheVariants.{Exit}
use Rattle.erim_defs.specs.declared.machine.Entry.{Entry}
use Rattle.erim_defs.specs.declared.machine.Flags.{Flags}
use Rattle.erim_defs.specs.declared.machine.Thread.{Thread}
use Rattle.erim_defs.specs.Machine.State.{State}
use Rattle.definition_rows.proofs.SmallMachine.{small_setup, loaded_by, replay_by, no_flags}

abbrev entry : ℕ → ℕ → ℕ → Entry
entry worker thread count = record { worker = worker; thread = thread; count = count }

-- the first thread, with RAX, RCX and R11
first : ℕ → ℕ → ℕ → ℕ → Flags → Thread
first rip rax rcx r11 flags = record {
  regs = rax ∷ rcx ∷ 0 ∷ 0 ∷ 0x7FFEFFF0 ∷ 0 ∷ 0 ∷ 0 ∷ 0 ∷ 0 ∷ 0 ∷ r11 ∷ 0 ∷ 0 ∷ 0 ∷ 0 ∷ [];
  rip = rip;
  flags = flags;
  pkru = 0x55555554;
  origin = None;
  live = true;
}

-- after xor edi, edi
equal : Flags
equal = record no_flags { pf = true; zf = true }

-- the state at the start, but for the thread and the steps that it made
abbrev after : ℕ → Thread → State
after n t = record (loaded_by small_setup) { steps = n; threads = t ∷ [] }

no_entry : replay_by small_setup [] ≡ Some (loaded_by small_setup)
unfolding replay_by
no_entry = refl

one_step :
    replay_by small_setup (entry 1 0 1 ∷ []) ≡ Some (after 1 (first 0x402005 231 0 0 no_flags))
unfolding replay_by first
one_step = refl

-- an entry of two steps is two entries of one
two_steps :
    replay_by small_setup (entry 1 0 2 ∷ []) ≡ Some (after 2 (first 0x402007 231 0 0 equal))
unfolding replay_by first equal
two_steps = refl

two_entries :
    replay_by small_setup (entry 2 0 1 ∷ entry 0 0 1 ∷ [])
    ≡ Some (after 2 (first 0x402007 231 0 0 equal))
unfolding replay_by first equal
two_entries = refl

-- the third step ends the process; R11 has ZF and PF
whole_run :
    let s = after 3 (first 0x402009 231 0x402009 0x246 equal) in
    replay_by small_setup (entry 2 0 2 ∷ entry 0 0 1 ∷ []) ≡ Some (record s { end = Some (Exit 0) })
unfolding replay_by first equal
whole_run = refl

-- no step is defined after the end, of no other thread, and after the budget
behind_the_end : replay_by small_setup (entry 0 0 4 ∷ []) ≡ None
unfolding replay_by
behind_the_end = refl

no_such_thread : replay_by small_setup (entry 0 0 1 ∷ entry 0 1 1 ∷ []) ≡ None
unfolding replay_by
no_such_thread = refl

behind_the_budget : replay_by (record small_setup { budget = 2 }) (entry 0 0 3 ∷ []) ≡ None
unfolding replay_by
behind_the_budget = refl

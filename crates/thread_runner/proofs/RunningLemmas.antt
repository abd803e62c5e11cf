-- Steps by time slices, one more at a time.
use Rattle.std.proofs.Common.{◌≡◌, ℕ, List, [], ◌∷◌, ◌++◌, Option, Some, refl}
use Rattle.std.proofs.Common.{◌∙◌, ap, subst, append_assoc}
use Rattle.std.proofs.lemmas.Bool.{eq-eqb}
use Rattle.std.specs.Prelude.{IsSome}
use Rattle.erim_defs.specs.declared.machine.Entry.{Entry}
use Rattle.erim_defs.specs.Machine.Replay.{replay, then_}
use Rattle.erim_defs.specs.Machine.Start.{first_state}
use Rattle.erim_defs.specs.Machine.State.{Setup, State}
use Rattle.erim_defs.specs.Machine.Step.{step}
use Rattle.erim_process.specs.ProcessValue.{ProcessValue, state_of}
use Rattle.erim_defs.specs.declared.time_slice.TimeSlice.{TimeSlice}
use Rattle.erim_defs.specs.Machine.Replay.{AreAlone}
use Rattle.thread_runner.specs.Running.{LeadsBy, LeadsBySlices}
use Rattle.erim_defs.specs.Machine.TimeSlices.{Course, after_slices, step_by_slice}
use Rattle.erim_defs.specs.Machine.TimeSlices.{course_from, slice_after}

-- one more step of worker 0
alone_more : (entries : List Entry) (e : Entry) → AreAlone entries → e.worker ≡ 0
    → AreAlone (entries ++ e ∷ [])
alone_more [] e alone zero = (zero, tt)
alone_more (x ∷ entries) e alone zero = (alone.0, alone_more entries e alone.1 zero)

-- one more entry
slices_more : (quantum : ℕ) (course : Option Course) (entries : List Entry) (e : Entry)
    → after_slices quantum course (entries ++ e ∷ [])
    ≡ then_ (after_slices quantum course entries) (step_by_slice quantum e)
slices_more quantum course [] e = refl
slices_more quantum course (x ∷ entries) e =
    slices_more quantum (then_ course (step_by_slice quantum x)) entries e

abbrev pub entry_of : ℕ → Entry
entry_of t = record { worker = 0; thread = t; count = 1 }

-- the step in the time slice that comes next
step_next : (quantum : ℕ) (s after : State) (slice next : TimeSlice)
    → slice_after quantum s.threads slice ≡ Some next → step next.thread s ≡ Some after
    → step_by_slice quantum (entry_of next.thread) (record { state = s; slice = slice })
    ≡ Some (record { state = after; slice = next })
step_next quantum s after slice next chosen made =
    rw chosen (rw (eq-eqb next.thread next.thread refl) (rw made refl))

then_at : {X Y : Type 0} (o : Option X) (x : X) (f : X → Option Y) → o ≡ Some x → then_ o f ≡ f x
then_at o x f e = rw e refl

-- a step more in the time slice that comes next
pub leads_on : (quantum : ℕ) (old p new : ProcessValue) (slice next : TimeSlice)
    → LeadsBy quantum old p slice → slice_after quantum (state_of p).threads slice ≡ Some next
    → step next.thread (state_of p) ≡ Some (state_of new)
    → new.journal ≡ p.journal ++ entry_of next.thread ∷ []
    → LeadsBy quantum old new next
leads_on quantum old p new slice next leads chosen made added =
    let e = entry_of next.thread in
    record {
      added = leads.added ++ e ∷ [];
      journal = added ∙ ap (λ (es : List Entry). es ++ e ∷ []) leads.journal
          ∙ append_assoc old.journal leads.added (e ∷ []);
      alone = alone_more leads.added e leads.alone refl;
      slices = slices_more quantum _ leads.added e
          ∙ then_at _ _ (step_by_slice quantum e) leads.slices
          ∙ step_next quantum (state_of p) (state_of new) slice next chosen made;
    }

-- the entries of a process that was started are those of the time slices from the first state on
pub slices_from_start : (quantum : ℕ) (setup : Setup) (p new : ProcessValue)
    → p ≡ record { setup = setup; journal = [] } → LeadsBySlices quantum p new
    → IsSome (after_slices quantum (Some (course_from quantum (first_state setup))) new.journal)
unfolding state_of replay
slices_from_start quantum setup p new started leads =
    let P : ProcessValue → Type 0 = λ v. LeadsBySlices quantum v new in
    let from = subst P started leads in
    let course = Some (course_from quantum (first_state setup)) in
    there (after_slices quantum course new.journal) _
    (ap (λ (es : List Entry). after_slices quantum course es) from.1.journal ∙ from.1.slices)
  where
    there : (o : Option Course) (c : Course) → o ≡ Some c → IsSome o
    there o c e = rw e refl

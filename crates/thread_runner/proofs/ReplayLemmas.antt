-- A replay's steps: each is made, or is the first that can't be; and what all of them come to.
use Rattle.std.proofs.Common.{◌≡◌, ℕ, ◌+◌, ◌-◌, ◌<◌, ◌≤◌, ◌⊎◌, zero, suc, Bool, true, false}
use Rattle.std.proofs.Common.{Option, Some, None, List, [], ◌∷◌, ◌++◌, take, is_some}
use Rattle.std.proofs.Common.{refl, sym, if◌then◌else◌, append_assoc, replicate, length, get_or}
use Rattle.std.proofs.Common.{◌∙◌, ap, subst, arith, inl, inr}
use Rattle.std.proofs.lemmas.Bool.{cases_lt, le-leb, lt-leb, lt-ltb, le-ltb, or_cases, or_left}
use Rattle.std.proofs.lemmas.Bool.{or_right, eq-eqb, eqb-true}
use Rattle.std.proofs.lemmas.List.{append-nil}
use Rattle.std.specs.Prelude.{slice_get, option_map}
use Rattle.erim_defs.specs.declared.machine.End.{End}
use Rattle.erim_defs.specs.declared.machine.Entry.{Entry}
use Rattle.erim_defs.specs.declared.machine.Thread.{Thread}
use Rattle.erim_defs.specs.Inspection.Code.{or_else}
use Rattle.erim_defs.specs.Machine.Replay.{IsComplete, IsOver, replay, replay_from, steps_of, then_}
use Rattle.erim_defs.specs.Machine.Start.{first_state}
use Rattle.erim_defs.specs.Machine.State.{Setup, State}
use Rattle.erim_defs.specs.Machine.Step.{after_step_of, if_live, ready_thread, step}
use Rattle.erim_defs.specs.Output.Journal.{AreEntries, is_journal_entry}
use Rattle.erim_defs.specs.declared.start_fault.StartFault.{StartFault}
use Rattle.erim_defs.specs.declared.start_fault.StartFault.TheVariants.{Memory}
use Rattle.erim_defs.specs.Machine.StartFaults.{start_fault}
use Rattle.erim_process.specs.ProcessValue.{ProcessValue, state_of}
use Rattle.erim_defs.specs.Machine.StepAnswers.{step_answer}
use Rattle.erim_defs.specs.declared.stepped.Stepped.{Stepped}
use Rattle.erim_defs.specs.declared.stepped.Stepped.TheVariants.{Made, Ended, Spent}
use Rattle.erim_defs.specs.declared.stepped.Stepped.TheVariants as answers
use Rattle.erim_defs.specs.declared.replay_fault.ReplayFault.{ReplayFault}
use Rattle.erim_defs.specs.declared.replay_fault.ReplayFault.TheVariants.{Start, PastEnd}
use Rattle.erim_defs.specs.declared.replay_fault.ReplayFault.TheVariants.{PastBudget}
use Rattle.erim_defs.specs.declared.replay_fault.ReplayFault.TheVariants.{NotLive, Unfinished}
use Rattle.erim_defs.specs.Machine.ReplayFaults.{FirstLaw, UnbrokenLaw, entries_fault, fault_index}
use Rattle.erim_defs.specs.Machine.ReplayFaults.{fault_of_answer, is_over, one_by_one, replay_fault}
use Rattle.erim_defs.specs.Machine.ReplayFaults.{single_steps, steps_fault}

-- ---- steps

-- steps are made and lead to a state, or break the replay
abbrev pub Goes : Option ReplayFault → Option State → Type 0
Goes fault after =
    ((s : State) × (fault ≡ None) × (after ≡ Some s))
    ⊎ ((f : ReplayFault) × (fault ≡ Some f) × (after ≡ None))

ready_at : (t : ℕ) (s : State) → s.end ≡ None → s.steps < s.setup.budget
    → ready_thread s t ≡ if_live (slice_get s.threads t)
ready_at t s none low = rw (none, lt-ltb s.steps s.setup.budget low) refl

unready_at : (t : ℕ) (s : State) → s.setup.budget ≤ s.steps → ready_thread s t ≡ None
unready_at t s over = by s.end
  where
    by : (o : Option End) → ready_thread (record s { end = o }) t ≡ None
    by None = rw (le-ltb s.steps s.setup.budget over) refl
    by (Some end) = refl

step_goes : (index t : ℕ) (s : State) → Goes (fault_of_answer index (step_answer s t)) (step t s)
unfolding step
step_goes index t s = by s.end refl
  where
    live : (o : Option Thread) → s.end ≡ None → s.steps < s.setup.budget
        → if_live (slice_get s.threads t) ≡ o
        → Goes (fault_of_answer index (step_answer s t)) (step t s)
    live None none low e = inr (
      NotLive index,
      rw (none, lt-leb s.setup.budget s.steps low, e) refl,
      ap (λ o. after_step_of o t s) (ready_at t s none low ∙ e),
    )
    live (Some thread) none low e = inl (
      _,
      rw (none, lt-leb s.setup.budget s.steps low, e) refl,
      ap (λ o. after_step_of o t s) (ready_at t s none low ∙ e),
    )

    by : (o : Option End) → s.end ≡ o
        → Goes (fault_of_answer index (step_answer s t)) (step t s)
    by (Some end) e = inr (PastEnd index, rw e refl, rw e refl)
    by None e = elim (cases_lt s.steps s.setup.budget) [
      | inl low ↦ live (if_live (slice_get s.threads t)) e low refl
      | inr over ↦ inr (
        PastBudget index,
        rw (e, le-leb s.setup.budget s.steps over) refl,
        ap (λ o. after_step_of o t s) (unready_at t s over),
      )
    ]

-- steps, and more steps from where they lead to
goes_then : (fault : Option ReplayFault) (after : Option State) (f : State → Option ReplayFault)
    (g : State → Option State) → Goes fault after → ((s : State) → Goes (f s) (g s))
    → Goes (or_else fault (then_ after f)) (then_ after g)
goes_then fault after f g (inl w) h = rw (w.1, w.2) (h w.0)
goes_then fault after f g (inr w) h = inr (w.0, rw w.1 refl, rw w.2 refl)

pub steps_go : (index t n : ℕ) (s : State) → Goes (steps_fault index t n s) (steps_of t n s)
unfolding steps_fault steps_of
steps_go index t zero s = inl (s, refl, refl)
steps_go index t (suc n) s =
    goes_then (fault_of_answer index (step_answer s t)) (step t s) (steps_fault index t n)
    (steps_of t n)
    (step_goes index t s) (steps_go index t n)

fault_same : (f g : ReplayFault) → Some f ≡ Some g → f ≡ g
fault_same f g h = cc

-- a fault of steps names their entry
steps_named : (index t n : ℕ) (s : State) (fault : ReplayFault)
    → steps_fault index t n s ≡ Some fault → fault_index fault ≡ Some index
unfolding steps_fault
steps_named index t zero s fault h = absurd cc
steps_named index t (suc n) s fault h =
    by (step_answer s t) (step t s) (steps_fault index t n) (λ x. steps_named index t n x fault) h
  where
    by : (a : Stepped) (after : Option State) (f : State → Option ReplayFault)
        → ((x : State) → f x ≡ Some fault → fault_index fault ≡ Some index)
        → or_else (fault_of_answer index a) (then_ after f) ≡ Some fault
        → fault_index fault ≡ Some index
    by Made None f k e = absurd cc
    by Made (Some x) f k e = k x e
    by Ended after f k e = ap fault_index (sym (fault_same (PastEnd index) fault e))
    by Spent after f k e = ap fault_index (sym (fault_same (PastBudget index) fault e))
    by answers.NotLive after f k e = ap fault_index (sym (fault_same (NotLive index) fault e))

-- ---- the process is over

over_is : (s : State) → is_over s ≡ true → IsOver s
over_is s h = elim (or_cases _ _ h) [
  | inl end ↦ inl end
  | inr spent ↦ inr (eqb-true s.steps s.setup.budget spent)
]

pub over_true : (s : State) → IsOver s → is_over s ≡ true
over_true s (inl end) = or_left _ _ end
over_true s (inr spent) = or_right _ _ (eq-eqb s.steps s.setup.budget spent)

-- ---- entries

abbrev pub unfinished : Bool → Option ReplayFault
unfinished over = if over then None else Some Unfinished

finished : (b : Bool) → unfinished b ≡ None → b ≡ true
finished true h = refl
finished false h = absurd cc

replay_none : (entries : List Entry) → replay_from None entries ≡ None
replay_none [] = refl
replay_none (entry ∷ entries) = replay_none entries

-- no fault: the entries lead to an end
ends_unbroken : (index : ℕ) (entries : List Entry) (s : State)
    → entries_fault index entries s ≡ None
    → (after : State) × (replay_from (Some s) entries ≡ Some after) × IsOver after
unfolding entries_fault
ends_unbroken index [] s h = (s, refl, over_is s (finished (is_over s) h))
ends_unbroken index (entry ∷ entries) s h =
    by (steps_fault index entry.thread entry.count s) (steps_of entry.thread entry.count s)
    (steps_go index entry.thread entry.count s) (λ x k. ends_unbroken (index + 1) entries x k) h
  where
    by : (fault : Option ReplayFault) (after : Option State) → Goes fault after
        → ((x : State) → entries_fault (index + 1) entries x ≡ None
        → (last : State) × (replay_from (Some x) entries ≡ Some last) × IsOver last)
        → or_else fault (then_ after (entries_fault (index + 1) entries)) ≡ None
        → (last : State) × (replay_from after entries ≡ Some last) × IsOver last
    by fault after (inl w) f e =
        let rest : entries_fault (index + 1) entries w.0 ≡ None = rw (w.1, w.2) at e in
        rw w.2 (f w.0 rest)
    by fault after (inr w) f e = absurd (let k : Some w.0 ≡ None = rw w.1 at e in cc)

-- and the other way
unbroken_ends : (index : ℕ) (entries : List Entry) (s last : State)
    → replay_from (Some s) entries ≡ Some last → IsOver last
    → entries_fault index entries s ≡ None
unfolding entries_fault
unbroken_ends index [] s last h over =
    let same : s ≡ last = cc in
    let now = over_true s (subst IsOver (sym same) over) in
    rw now refl
unbroken_ends index (entry ∷ entries) s last h over =
    by (steps_fault index entry.thread entry.count s) (steps_of entry.thread entry.count s)
    (steps_go index entry.thread entry.count s)
    (λ x k. unbroken_ends (index + 1) entries x last k over) h
  where
    by : (fault : Option ReplayFault) (after : Option State) → Goes fault after
        → ((x : State) → replay_from (Some x) entries ≡ Some last
        → entries_fault (index + 1) entries x ≡ None)
        → replay_from after entries ≡ Some last
        → or_else fault (then_ after (entries_fault (index + 1) entries)) ≡ None
    by fault after (inl w) f e =
        let rest : replay_from (Some w.0) entries ≡ Some last = rw w.2 at e in
        rw (w.1, w.2) (f w.0 rest)
    by fault after (inr w) f e =
        absurd (let none = replay_none entries in
        let k : replay_from None entries ≡ Some last = rw w.2 at e in cc)

-- the entries after one
replay_on : (s after : State) (entry : Entry) (rest : List Entry)
    → steps_of entry.thread entry.count s ≡ Some after
    → replay_from (Some s) (entry ∷ rest) ≡ replay_from (Some after) rest
replay_on s after entry rest e = ap (λ o. replay_from o rest) e

-- a fault that names an entry
record IsNamed (index : ℕ) (entries : List Entry) (s : State) (named : ℕ) : Type 0 where
  within : index ≤ named
  legal : is_some (replay_from (Some s) (take (named - index) entries)) ≡ true
  broken : replay_from (Some s) (take (suc (named - index)) entries) ≡ None

named_fault : (index : ℕ) (entries : List Entry) (s : State) (fault : ReplayFault) (named : ℕ)
    → entries_fault index entries s ≡ Some fault → fault_index fault ≡ Some named
    → IsNamed index entries s named
unfolding entries_fault
named_fault index [] s fault named h i = absurd (by (is_over s) h)
  where
    by : (b : Bool) → unfinished b ≡ Some fault → ⊥
    by true e = cc
    by false e = (let same = fault_same Unfinished fault e in
        let k : None ≡ Some named = ap fault_index same ∙ i in cc)
named_fault index (entry ∷ entries) s fault named h i =
    by (steps_fault index entry.thread entry.count s) (steps_of entry.thread entry.count s) refl
    refl (steps_go index entry.thread entry.count s)
    (λ x k. named_fault (index + 1) entries x fault named k i) h
  where
    by : (o : Option ReplayFault) (after : Option State)
        → steps_fault index entry.thread entry.count s ≡ o
        → steps_of entry.thread entry.count s ≡ after → Goes o after
        → ((x : State) → entries_fault (index + 1) entries x ≡ Some fault
        → IsNamed (index + 1) entries x named)
        → or_else o (then_ after (entries_fault (index + 1) entries)) ≡ Some fault
        → IsNamed index (entry ∷ entries) s named
    by o after f a (inl w) next e =
        let rest : entries_fault (index + 1) entries w.0 ≡ Some fault = rw (w.1, w.2) at e in
        let k = next w.0 rest in
        let within = k.within in
        let more : named - index ≡ suc (named - (index + 1)) = omega (arith, within) in
        let made : steps_of entry.thread entry.count s ≡ Some w.0 = a ∙ w.2 in
        record {
          within = omega (arith, within);
          legal =
              ap (λ n. is_some (replay_from (Some s) (take n (entry ∷ entries)))) more
              ∙ ap is_some (replay_on s w.0 entry (take (named - (index + 1)) entries) made)
              ∙ k.legal;
          broken =
              replay_on s w.0 entry (take (named - index) entries) made
              ∙ ap (λ n. replay_from (Some w.0) (take n entries)) more ∙ k.broken;
        }
    by o after f a (inr w) next e =
        let k : Some w.0 ≡ Some fault = rw w.1 at e in
        let same = fault_same w.0 fault k in
        let j : fault_index w.0 ≡ Some index =
        steps_named index entry.thread entry.count s w.0 (f ∙ w.1) in
        let here : Some index ≡ Some named = sym j ∙ ap fault_index same ∙ i in
        let at_once : index ≡ named = cc in
        let zero_left : named - index ≡ 0 = omega (arith, at_once) in
        record {
          within = omega (arith, at_once);
          legal = rw zero_left refl;
          broken = rw (zero_left, a, w.2) refl;
        }

-- ---- the laws

start_none : (o : Option StartFault) (f : Option ReplayFault)
    → or_else (option_map Start o) f ≡ None
    → (o ≡ None) × (f ≡ None)
start_none None f h = (refl, h)
start_none (Some fault) f h = absurd cc

pub unbroken_law : UnbrokenLaw
unfolding replay_fault replay
unbroken_law setup entries = (there, back)
  where
    there : replay_fault setup entries ≡ None
        → (start_fault setup ≡ None) × IsComplete setup entries
    there h = let parts = start_none (start_fault setup) _ h in
        (parts.0, ends_unbroken 0 entries (first_state setup) parts.1)

    back : (start_fault setup ≡ None) × IsComplete setup entries
        → replay_fault setup entries ≡ None
    back h = rw h.0 (unbroken_ends 0 entries (first_state setup) h.1.0 h.1.1 h.1.2)

start_named : (o : Option StartFault) (f : Option ReplayFault) (fault : ReplayFault) (named : ℕ)
    → or_else (option_map Start o) f ≡ Some fault → fault_index fault ≡ Some named
    → f ≡ Some fault
start_named None f fault named h i = h
start_named (Some start) f fault named h i = absurd
    (let k : None ≡ Some named = ap fault_index (fault_same (Start start) fault h) ∙ i in cc)

pub first_law : FirstLaw
unfolding replay_fault replay
first_law setup entries fault index h i =
    let k = named_fault 0 entries (first_state setup) fault index
    (start_named (start_fault setup) _ fault index h i) i in
    let zero_less : index - 0 ≡ index = omega arith in
    let one_more : suc index ≡ index + 1 = omega arith in
    (rw zero_less at k.legal, rw (zero_less, one_more) at k.broken)

-- ---- the steps of one entry

-- what is left of an entry's steps: n, from this process on
pub record IsLeft (index : ℕ) (entry : Entry) (old now : ProcessValue) (n : ℕ) : Type 0 where
  pub setup : now.setup ≡ old.setup
  pub fault : steps_fault index entry.thread n (state_of now)
      ≡ steps_fault index entry.thread entry.count (state_of old)
  pub run : steps_of entry.thread n (state_of now)
      ≡ steps_of entry.thread entry.count (state_of old)
  pub journal : now.journal ++ replicate n (record entry { count = 1 })
      ≡ old.journal ++ single_steps entry

pub all_left : (index : ℕ) (entry : Entry) (p : ProcessValue) → IsLeft index entry p p entry.count
all_left index entry p = record { setup = refl; fault = refl; run = refl; journal = refl }

fault_on : (index t n : ℕ) (s after : State) → step_answer s t ≡ Made → step t s ≡ Some after
    → steps_fault index t n after ≡ steps_fault index t (suc n) s
unfolding steps_fault
fault_on index t n s after made e = rw (made, e) refl

steps_on : (t n : ℕ) (s after : State) → step t s ≡ Some after
    → steps_of t n after ≡ steps_of t (suc n) s
unfolding steps_of
steps_on t n s after e = rw e refl

-- one step more
pub left_on : (index : ℕ) (entry : Entry) (old now new : ProcessValue) (n left : ℕ)
    → IsLeft index entry old now left → left ≡ suc n
    → step_answer (state_of now) entry.thread ≡ Made
    → step entry.thread (state_of now) ≡ Some (state_of new)
    → new ≡ record { setup = now.setup; journal = now.journal ++ record entry { count = 1 } ∷ [] }
    → IsLeft index entry old new n
left_on index entry old now new n left h more made e added =
    let one : Entry = record entry { count = 1 } in
    let k : IsLeft index entry old now (suc n) = subst (IsLeft index entry old now) more h in
    record {
      setup = ap (λ (v : ProcessValue). v.setup) added ∙ k.setup;
      fault = fault_on index entry.thread n (state_of now) (state_of new) made e ∙ k.fault;
      run = steps_on entry.thread n (state_of now) (state_of new) e ∙ k.run;
      journal = ap (λ (v : ProcessValue). v.journal ++ replicate n one) added
          ∙ append_assoc now.journal (one ∷ []) (replicate n one) ∙ k.journal;
    }

-- the next step can't be made
pub left_broken : (index : ℕ) (entry : Entry) (old now : ProcessValue) (left : ℕ)
    (fault : ReplayFault) → IsLeft index entry old now left → 0 < left
    → fault_of_answer index (step_answer (state_of now) entry.thread) ≡ Some fault
    → steps_fault index entry.thread entry.count (state_of old) ≡ Some fault
unfolding steps_fault
left_broken index entry old now zero fault h some e = absurd (omega arith)
left_broken index entry old now (suc n) fault h some e = sym h.fault ∙ rw e refl

-- all were made
pub record AreMade (index : ℕ) (entry : Entry) (old now : ProcessValue) : Type 0 where
  pub fault : steps_fault index entry.thread entry.count (state_of old) ≡ None
  pub run : steps_of entry.thread entry.count (state_of old) ≡ Some (state_of now)
  pub journal : now.journal ≡ old.journal ++ single_steps entry

pub none_left : (index : ℕ) (entry : Entry) (old now : ProcessValue) (left : ℕ)
    → IsLeft index entry old now left → left ≡ 0 → AreMade index entry old now
unfolding steps_fault steps_of
none_left index entry old now left h none =
    let k : IsLeft index entry old now 0 = subst (IsLeft index entry old now) none h in
    record {
      fault = sym k.fault;
      run = sym k.run;
      journal = sym (append-nil now.journal) ∙ k.journal;
    }

-- ---- the entries

-- what is left of the entries, from this process on
pub record IsRest (entries : List Entry) (old now : ProcessValue) (index : ℕ)
    (rest : List Entry) : Type 0 where
  pub setup : now.setup ≡ old.setup
  pub fault : entries_fault index rest (state_of now) ≡ entries_fault 0 entries (state_of old)
  pub run : replay_from (Some (state_of now)) rest ≡ replay_from (Some (state_of old)) entries
  pub journal : now.journal ++ one_by_one rest ≡ old.journal ++ one_by_one entries

pub all_rest : (entries : List Entry) (p : ProcessValue) → IsRest entries p p 0 entries
all_rest entries p = record { setup = refl; fault = refl; run = refl; journal = refl }

entry_on : (index : ℕ) (entry : Entry) (rest : List Entry) (s after : State)
    → steps_fault index entry.thread entry.count s ≡ None
    → steps_of entry.thread entry.count s ≡ Some after
    → entries_fault (index + 1) rest after ≡ entries_fault index (entry ∷ rest) s
unfolding entries_fault
entry_on index entry rest s after f e = rw (f, e) refl

-- one entry more
pub rest_on : (entries : List Entry) (old now new : ProcessValue) (index : ℕ) (entry : Entry)
    (whole rest : List Entry) → IsRest entries old now index whole → whole ≡ entry ∷ rest
    → new.setup ≡ now.setup
    → steps_fault index entry.thread entry.count (state_of now) ≡ None
    → steps_of entry.thread entry.count (state_of now) ≡ Some (state_of new)
    → new.journal ≡ now.journal ++ single_steps entry
    → IsRest entries old new (index + 1) rest
rest_on entries old now new index entry whole rest h split setup f e added =
    let k : IsRest entries old now index (entry ∷ rest) =
    subst (IsRest entries old now index) split h in
    record {
      setup = setup ∙ k.setup;
      fault = entry_on index entry rest (state_of now) (state_of new) f e ∙ k.fault;
      run = sym (replay_on (state_of now) (state_of new) entry rest e) ∙ k.run;
      journal = ap (λ (es : List Entry). es ++ one_by_one rest) added
          ∙ append_assoc now.journal (single_steps entry) (one_by_one rest) ∙ k.journal;
    }

-- a step of the next entry can't be made
pub rest_broken : (entries : List Entry) (old now : ProcessValue) (index : ℕ) (entry : Entry)
    (whole rest : List Entry) (fault : ReplayFault) → IsRest entries old now index whole
    → whole ≡ entry ∷ rest
    → steps_fault index entry.thread entry.count (state_of now) ≡ Some fault
    → entries_fault 0 entries (state_of old) ≡ Some fault
unfolding entries_fault
rest_broken entries old now index entry whole rest fault h split f =
    let k : IsRest entries old now index (entry ∷ rest) =
    subst (IsRest entries old now index) split h in
    sym k.fault ∙ rw f refl

-- no entry is left
pub record AreDone (entries : List Entry) (old now : ProcessValue) : Type 0 where
  pub fault : entries_fault 0 entries (state_of old) ≡ unfinished (is_over (state_of now))
  pub run : replay_from (Some (state_of old)) entries ≡ Some (state_of now)
  pub journal : now.journal ≡ old.journal ++ one_by_one entries

pub no_rest : (entries : List Entry) (old now : ProcessValue) (index : ℕ) (rest : List Entry)
    → IsRest entries old now index rest → rest ≡ [] → AreDone entries old now
unfolding entries_fault
no_rest entries old now index rest h none =
    let k : IsRest entries old now index [] = subst (IsRest entries old now index) none h in
    record {
      fault = sym k.fault;
      run = sym k.run;
      journal = sym (append-nil now.journal) ∙ k.journal;
    }

pub done_over : (entries : List Entry) (old now : ProcessValue) → AreDone entries old now
    → is_over (state_of now) ≡ true → entries_fault 0 entries (state_of old) ≡ None
done_over entries old now h over = h.fault ∙ ap unfinished over

pub done_unfinished : (entries : List Entry) (old now : ProcessValue) → AreDone entries old now
    → is_over (state_of now) ≡ false → entries_fault 0 entries (state_of old) ≡ Some Unfinished
done_unfinished entries old now h runs = h.fault ∙ ap unfinished runs

-- an entry of a list of entries
pub entry_at : (entries : List Entry) (index : ℕ) (d : Entry) → AreEntries entries
    → index < length entries → is_journal_entry (get_or entries index d) ≡ true
entry_at [] index d are low = absurd (omega arith)
entry_at (entry ∷ entries) zero d are low = are.0
entry_at (entry ∷ entries) (suc index) d are low = entry_at entries index d are.1 (omega arith)

-- ---- from the start

-- a process that is started
abbrev pub IsStart : Setup → ProcessValue → Type 0
IsStart setup p = (start_fault setup ≡ None) × (p ≡ record { setup = setup; journal = [] })

start_state : (setup : Setup) (p : ProcessValue) → IsStart setup p
    → state_of p ≡ first_state setup
unfolding state_of replay
start_state setup p start = ap state_of start.1

-- the entries' fault is the replay's
pub start_goes : (setup : Setup) (entries : List Entry) (p : ProcessValue) (o : Option ReplayFault)
    → IsStart setup p → entries_fault 0 entries (state_of p) ≡ o → replay_fault setup entries ≡ o
unfolding replay_fault
start_goes setup entries p o start h =
    rw start.0 (ap (entries_fault 0 entries) (sym (start_state setup p start)) ∙ h)

-- so is the state that they lead to
pub start_replays : (setup : Setup) (entries : List Entry) (p : ProcessValue) (o : Option State)
    → IsStart setup p → replay_from (Some (state_of p)) entries ≡ o → replay setup entries ≡ o
unfolding replay
start_replays setup entries p o start h =
    ap (λ s. replay_from (Some s) entries) (sym (start_state setup p start)) ∙ h

-- a process that isn't started
pub start_breaks : (setup : Setup) (entries : List Entry) (fault : StartFault)
    → (fault ≡ Memory) ⊎ (start_fault setup ≡ Some fault)
    → (Start fault ≡ Start Memory) ⊎ (replay_fault setup entries ≡ Some (Start fault))
unfolding replay_fault
start_breaks setup entries fault (inl memory) = inl (ap Start memory)
start_breaks setup entries fault (inr h) = inr (rw h refl)

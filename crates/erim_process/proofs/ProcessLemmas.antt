-- What contracts see of a process's fields.
use Rattle.std.proofs.Common.{Result, IsOk, is_ok, cond, get_or, length, vec_len, vec_capacity, ◌<◌}
use Rattle.std.proofs.Common.{◌≤◌, true, zero, suc, ◌≡◌, ℕ, List, [], ◌∷◌, ◌++◌, Option, Some, refl}
use Rattle.std.proofs.Common.{sym, ap, subst, ◌∙◌, arith, None, inl, inr, ◌^◌, ◌*◌, ◌+◌, ◌/◌, false}
use Rattle.erim_defs.specs.declared.machine.Entry.{Entry}
use Rattle.std.proofs.lemmas.Bool.{le-leb, lt-ltb, cases_lt}
use Rattle.erim_defs.specs.Output.Journal.{AreEntries, IsJournal, is_journal_entry}
use Rattle.erim_defs.specs.Machine.State.{Setup, State, code}
use Rattle.erim_defs.specs.Inspection.Trust.{TrustValue}
use Rattle.erim_defs.specs.Inspection.Image.{image_trust}
use Rattle.erim_defs.specs.Machine.Step.{step}
use Rattle.erim_defs.specs.Machine.Replay.{replay, replay_from, steps_of, then_}
use Rattle.page_store.specs.declared.memory.Memory.{Ghosts}
use Rattle.page_store.specs.declared.page_list.PageList.{PageList}
use Rattle.erim_process.specs.declared.machine.Machine.{Machine}
use Rattle.erim_process.specs.Machine.{machine_state}
use Rattle.erim_process.specs.ProcessValue.{ProcessValue, state_of, IsRun}
use Rattle.erim_process.specs.ProcessInvariant.{process_value, setup_of, IsReplay}
use Rattle.erim_process.specs.declared.process.Process.TheInside.{Inside}
use Rattle.erim_process.proofs.PushLemmas.{push_items}
use Rattle.erim_defs.specs.Machine.Isolation.{AlwaysKept, IsKept, IsSafeCode, IsStartable}
use Rattle.erim_defs.specs.declared.machine.Rights.{Rights}
use Rattle.erim_defs.specs.Machine.Pages.{IsSound}
use Rattle.std.specs.Prelude.{IfSome, IsSome}

pub state_is : (v : ProcessValue) (s : State) → replay v.setup v.journal ≡ Some s → state_of v ≡ s
unfolding state_of
state_is v s h = rw h refl

-- the state that contracts speak of is that of the fields
pub state_seen : (g : Ghosts PageList) (p : Inside) (v : ProcessValue) → process_value p ≡ v
    → IsReplay g p → state_of v ≡ machine_state g (setup_of p.setup) p.machine
state_seen g p v e h = state_is v (machine_state g (setup_of p.setup) p.machine)
    (ap (λ (w : ProcessValue). replay w.setup w.journal) (sym e) ∙ h.replayed)

-- a replay keeps the setup
pub state_setup : (g : Ghosts PageList) (p : Inside) (v : ProcessValue) → process_value p ≡ v
    → IsReplay g p → (state_of v).setup ≡ v.setup
state_setup g p v e h = ap (λ (s : State). s.setup) (state_seen g p v e h)
    ∙ ap (λ (w : ProcessValue). w.setup) e

pub fields_run : (setup : Setup) (entries : List Entry) (s : State) → replay setup entries ≡ Some s
    → IsRun (record { setup = setup; journal = entries })
fields_run setup entries s h =
    h ∙ ap Some (sym (state_is (record { setup = setup; journal = entries }) s h))

-- the journal of a process is that of a run
pub seen_run : (g : Ghosts PageList) (p : Inside) (v : ProcessValue) → process_value p ≡ v
    → IsReplay g p → IsRun v
seen_run g p v e h = subst IsRun e
    (fields_run (setup_of p.setup) p.journal.items (machine_state g (setup_of p.setup) p.machine)
    h.replayed)

then_same : {X Y : Type 0} (o : Option X) (x : X) (f : X → Option Y) → o ≡ Some x → then_ o f ≡ f x
then_same o x f e = rw e refl

replay_one : (o : Option State) (entries : List Entry) (e : Entry)
    → replay_from o (entries ++ e ∷ []) ≡ then_ (replay_from o entries) (steps_of e.thread e.count)
replay_one o [] e = refl
replay_one o (x ∷ xs) e = replay_one (then_ o (steps_of x.thread x.count)) xs e

-- one step more
pub replay_made : (setup : Setup) (entries : List Entry) (worker t : ℕ) (s new : State)
    → replay setup entries ≡ Some s → step t s ≡ Some new
    → replay setup (entries ++ record { worker = worker; thread = t; count = 1 } ∷ []) ≡ Some new
unfolding replay steps_of
replay_made setup entries worker t s new h k =
    let e : Entry = record { worker = worker; thread = t; count = 1 } in
    replay_one _ entries e ∙ then_same _ s (steps_of t 1) h ∙ then_same _ new (steps_of t 0) k

pub get_or_any : {X : Type 0} (xs : List X) (i : ℕ) (d e : X) → i < length xs
    → get_or xs i d ≡ get_or xs i e
get_or_any [] i d e h = absurd (omega arith)
get_or_any (x ∷ xs) zero d e h = refl
get_or_any (x ∷ xs) (suc i) d e h = get_or_any xs i d e (omega arith)

-- its published code holds nothing unsafe
pub safe_held : AlwaysKept → (g : Ghosts PageList) (p : Inside) (trust : TrustValue) → IsReplay g p
    → trust ≡ image_trust (setup_of p.setup).image
    → IsSafeCode trust (code (machine_state g (setup_of p.setup) p.machine))
safe_held always g p trust h e =
    rw e (always (setup_of p.setup) p.journal.items (machine_state g (setup_of p.setup) p.machine)
    h.startable h.replayed).safe

-- where steps are left there is room for an entry
pub has_room : (g : Ghosts PageList) (p : Inside) → IsReplay g p → p.machine.steps < p.setup.budget
    → vec_len p.journal < vec_capacity p.journal
has_room g p h more = let counted = h.counted in let room = h.room in omega (arith, counted, room)

-- its state keeps the isolation invariant
pub kept_now : AlwaysKept → (g : Ghosts PageList) (p : Inside) (v : ProcessValue)
    → process_value p ≡ v → IsReplay g p → IsKept (state_of v)
kept_now always g p v e h =
    let startable : IsStartable v.setup =
    subst (λ (w : ProcessValue). IsStartable w.setup) e h.startable in
    always v.setup v.journal (state_of v) startable (seen_run g p v e h)

-- the rights of a page of such a state
pub kept_sound : (s : State) (q : ℕ) (o : Option Rights) → IsKept s → o ≡ s.rights q
    → IfSome o IsSound
kept_sound s q None h e = tt
kept_sound s q (Some r) h e = (h.ruled q r (sym e)).sound

some_not : (o : Option Rights) → o ≡ None → IsSome o → ⊥
some_not None e s = let k : false ≡ true = s in cc
some_not (Some r) e s = absurd cc

pub kept_below : (s : State) (q : ℕ) (o : Option Rights) → IsKept s → o ≡ s.rights q → IsSome o
    → q < 2 ^ 35
kept_below s q o h e is =
    elim (cases_lt q (2 ^ 35)) [ inl l ↦ l | inr l ↦ absurd (some_not o (e ∙ h.low q l) is) ]

-- the bytes of an unmapped page of such a state
pub kept_zero : (s : State) (q i : ℕ) (o : Option Rights) → IsKept s → o ≡ s.rights q → o ≡ None
    → i < 4096 → s.bytes (4096 * q + i) ≡ 0
kept_zero s q i o h e none l =
    let at : (4096 * q + i) / 4096 ≡ q = omega (arith, l) in
    h.zeros (4096 * q + i) (ap s.rights at ∙ sym e ∙ none)

-- the journal of a process has the form
pub journal_form : (v w : ProcessValue) (entries : List Entry)
    → IsJournal (record { budget = v.setup.budget; frames = v.setup.frames; entries = v.journal })
    → v ≡ w → entries ≡ v.journal
    → IsJournal (record { budget = w.setup.budget; frames = w.setup.frames; entries = entries })
journal_form v w entries form same e =
    subst (λ (x : ProcessValue). IsJournal
    (record { budget = x.setup.budget; frames = x.setup.frames; entries = entries })) same
    (subst (λ (es : List Entry). IsJournal
    (record { budget = v.setup.budget; frames = v.setup.frames; entries = es })) (sym e) form)

-- an entry more
entries_more : (entries : List Entry) (e : Entry) → AreEntries entries → is_journal_entry e ≡ true
    → AreEntries (entries ++ e ∷ [])
entries_more [] e h k = (k, tt)
entries_more (x ∷ xs) e h k = (h.0, entries_more xs e h.1 k)

-- the entry of one step of a thread
one_step : (worker t : ℕ) → worker ≤ 8 → t ≤ 15
    → is_journal_entry (record { worker = worker; thread = t; count = 1 }) ≡ true
one_step worker t w l = rw (le-leb worker 8 w, lt-ltb t 16 (omega (arith, l))) refl

pub entries_pushed : {T E : Type 0} (g : Ghosts PageList) (p : Inside) (t worker : ℕ)
    (r : Result T E) (entries : List Entry) → IsReplay g p → p.machine.steps < p.setup.budget
    → worker ≤ 8 → t ≤ 15 → (vec_len p.journal < vec_capacity p.journal → IsOk r)
    → entries ≡ cond (is_ok r) (p.journal.items ++ record { worker = worker; thread = t; count = 1 }
    ∷ []) p.journal.items
    → AreEntries entries
entries_pushed g p t worker r entries h more w l fits e =
    let entry : Entry = record { worker = worker; thread = t; count = 1 } in
    let pushed = push_items r p.journal.items entries entry (fits (has_room g p h more)) e in
    subst AreEntries (sym pushed)
    (entries_more p.journal.items entry h.entries (one_step worker t w l))

-- the journal with the entry of the step that was made leads to the new fields
pub replay_goes : {T E : Type 0} (g : Ghosts PageList) (p : Inside) (m : Machine PageList)
    (t worker : ℕ) (r : Result T E) (entries : List Entry) → IsReplay g p
    → p.machine.steps < p.setup.budget
    → step t (machine_state g (setup_of p.setup) p.machine)
    ≡ Some (machine_state g (setup_of p.setup) m)
    → (vec_len p.journal < vec_capacity p.journal → IsOk r)
    → entries ≡ cond (is_ok r) (p.journal.items ++ record { worker = worker; thread = t; count = 1 }
    ∷ []) p.journal.items
    → replay (setup_of p.setup) entries ≡ Some (machine_state g (setup_of p.setup) m)
replay_goes g p m t worker r entries h more k fits e =
    let entry : Entry = record { worker = worker; thread = t; count = 1 } in
    let pushed = push_items r p.journal.items entries entry (fits (has_room g p h more)) e in
    ap (λ (es : List Entry). replay (setup_of p.setup) es) pushed
    ∙ replay_made (setup_of p.setup) p.journal.items worker t
    (machine_state g (setup_of p.setup) p.machine) (machine_state g (setup_of p.setup) m)
    h.replayed k

-- The start is kept, and so is every state of every run.
use Rattle.std.proofs.Common.{◌≡◌, ◌<◌, ◌≤◌, ◌+◌, ◌*◌, ◌/◌, ◌^◌, ℕ, zero, suc, List, [], ◌∷◌}
use Rattle.std.proofs.Common.{length, Option, Some, None, Bool, true, false, cond, ltb, leb, ◌&&◌}
use Rattle.std.proofs.Common.{refl, sym, ap, subst, ◌∙◌, arith, inl, inr, ltb-true, lit<}
use Rattle.std.specs.Prelude.{slice_index}
use Rattle.std.proofs.lemmas.Bool.{cases_Bool, and_parts}
use Rattle.erim_defs.specs.declared.machine.Rights.{Rights}
use Rattle.erim_defs.specs.declared.machine.Thread.{Thread}
use Rattle.erim_defs.specs.declared.machine.Entry.{Entry}
use Rattle.erim_defs.specs.declared.machine.Access.TheVariants.{Fault, Missing}
use Rattle.erim_defs.specs.declared.found.Found.{Found}
use Rattle.erim_defs.specs.declared.segment.Segment.{Segment}
use Rattle.erim_defs.specs.declared.insn.Insn.{Insn}
use Rattle.erim_defs.specs.declared.insn.FetchOutcome.{FetchOutcome}
use Rattle.erim_defs.specs.declared.insn.FetchOutcome.TheVariants.{Runs, Need, Wrong}
use Rattle.erim_defs.specs.Machine.Pages.{published_code, code_with, is_published, asks_exec}
use Rattle.erim_defs.specs.Machine.Pages.{published_rights}
use Rattle.erim_defs.specs.Machine.Access.{whole}
use Rattle.erim_defs.specs.Inspection.Image.{IsAccepted, loaded_byte, segments, touches}
use Rattle.erim_defs.specs.Inspection.Image.{trusted_code, image_trust, is_writable, is_executable}
use Rattle.erim_defs.specs.Inspection.Unsafe.{first_unsafe}
use Rattle.erim_defs.specs.Machine.Plan.{Effect, Done, Stopped, Called, effect}
use Rattle.erim_defs.specs.Machine.Meaning.{plan}
use Rattle.erim_defs.specs.Machine.State.{Setup, State, code, trust_of}
use Rattle.erim_defs.specs.Machine.CallResult.{Change, Refusal, Answer, ThreadEnd, Quit}
use Rattle.erim_defs.specs.Machine.CallResult.{CallResult}
use Rattle.erim_defs.specs.Machine.Calls.{call_result}
use Rattle.erim_defs.specs.Machine.Step.{step, after_move, after_instruction, after_call}
use Rattle.erim_defs.specs.Machine.Step.{after_fetch, with_new_thread, caller_after, with_change}
use Rattle.erim_defs.specs.Machine.Step.{after_syscall, after_verdict, after_exec_fault}
use Rattle.erim_defs.specs.Machine.Step.{ready_thread, after_step_of, fetch, Runner}
use Rattle.erim_defs.specs.Machine.Start.{byte_in, first_rights, first_thread, unpublished_rights}
use Rattle.erim_defs.specs.Machine.Start.{image_asked, image_byte, is_stack, first_state}
use Rattle.erim_defs.specs.Machine.Start.{rights_at_start, asked_of, asked_in}
use Rattle.erim_defs.specs.Machine.Replay.{then_, steps_of, replay_from, replay}
use Rattle.erim_defs.specs.Machine.Isolation.{IsKept, IsRuled, IsStartable}
use Rattle.isolation.proofs.LossLemmas.{unsafe_loses}
use Rattle.erim_defs.proofs.AcceptedLemmas.{text_is, entries_else, entries_in, image_low}
use Rattle.erim_defs.proofs.AcceptedLemmas.{page_key_few}
use Rattle.erim_defs.proofs.AcceptedLemmas.{plain_at_home}
use Rattle.erim_defs.proofs.DomainLemmas.{pkru_closed}
use Rattle.erim_defs.specs.declared.machine.Access.{Access}
use Rattle.erim_defs.specs.Machine.Step.{after_fault, after_stop}
use Rattle.erim_defs.specs.Machine.State.{is_outside}
use Rattle.erim_defs.specs.Machine.Start.{page_key}
use Rattle.erim_defs.specs.Machine.Pages.{asks_write}
use Rattle.erim_defs.specs.Inspection.Trust.{is_entry_of}
use Rattle.erim_defs.proofs.WriteFaultLemmas.{stop_either, write_either}
use Rattle.std.proofs.lemmas.Bool.{or_right}
use Rattle.std.proofs.Common.{eqb}
use Rattle.isolation.proofs.DecoderFacts.{AllOf, Decoder}
use Rattle.isolation.proofs.StandLemmas.{EntriesIn}
use Rattle.isolation.proofs.MemoryLemmas.{made_kind}
use Rattle.isolation.proofs.KeptLemmas.{some_same, OfState, IsFine, kept_later, kept_step}
use Rattle.isolation.proofs.KeptLemmas.{fresh_ruled, ended_thread, last_either}
use Rattle.isolation.proofs.CallLemmas.{all_fine}
use Rattle.erim_defs.specs.Inspection.Trust.{in_text_of}
use Rattle.erim_defs.proofs.AcceptedLemmas.{text_page}

-- ---- the start

start_ruled : (text : Bool) (key : ℕ) (o : Option ℕ) (r : Rights)
    → (text ≡ true → (n : ℕ) → o ≡ Some n → asks_exec n ≡ true)
    → ((n : ℕ) → o ≡ Some n → n < 8) → key < 16 → rights_at_start text key o ≡ Some r → IsRuled r
start_ruled text key None r h low few e = absurd cc
start_ruled false key (Some n) r h low few e =
    subst IsRuled (some_same (unpublished_rights n key) r e) (fresh_ruled n key (low n refl) few)
start_ruled true key (Some n) r h low few e =
    subst IsRuled (some_same (published_rights (unpublished_rights n key)) r e)
    (record {
      sealed = λ _. refl;
      exec = λ _. h refl n refl;
      read = refl;
      write = λ f. absurd cc;
      sound = (few, low n refl);
    })

-- the protection bits of a page of the image
asked_few : (s : Segment) → asked_of s < 8
asked_few s = by_bits (is_writable s) (is_executable s)
  where
    by_bits : (w x : Bool) → 1 + cond w 2 0 + cond x 4 0 < 8
    by_bits true true = lit< tt
    by_bits true false = lit< tt
    by_bits false true = lit< tt
    by_bits false false = lit< tt

asked_low : (ss : List Segment) (q n : ℕ) → asked_in ss q ≡ Some n → n < 8
asked_low [] q n e = absurd cc
asked_low (s ∷ ss) q n e = elim (cases_Bool (touches s q)) [
  | inl on ↦ (let k : asked_of s ≡ n = some_same (asked_of s) n (rw on at e) in
      subst (λ (m : ℕ). m < 8) k (asked_few s))
  | inr off ↦ asked_low ss q n (rw off at e)
]

-- no byte is loaded where no segment is
byte_zero : (image : List ℕ) (ss : List Segment) (a : ℕ) → asked_in ss (a / 4096) ≡ None
    → byte_in image ss a ≡ 0
byte_zero image [] a e = refl
byte_zero image (s ∷ ss) a e = elim (cases_Bool (touches s (a / 4096))) [
  | inl on ↦ absurd (let k : Some (asked_of s) ≡ None = rw on at e in cc)
  | inr off ↦ rw off (byte_zero image ss a (rw off at e))
]

no_rights : (text : Bool) (key : ℕ) (o : Option ℕ) → rights_at_start text key o ≡ None → o ≡ None
no_rights text key None e = refl
no_rights text key (Some n) e = absurd cc

-- a page that isn't the stack's
pub first_other : (setup : Setup) (q : ℕ) → is_stack q ≡ false
    → first_rights setup q ≡ rights_at_start (in_text_of (image_trust setup.image) (4096 * q))
    (page_key setup.image q) (image_asked setup.image q)
unfolding first_rights
first_other setup q off = rw off refl

first_stack : (setup : Setup) (q : ℕ) → is_stack q ≡ true
    → first_rights setup q ≡ Some (unpublished_rights 3 0)
unfolding first_rights
first_stack setup q on = rw on refl

-- what a page of trusted text asks
text_asks : (setup : Setup) (q n : ℕ) → IsAccepted setup.image
    → in_text_of (image_trust setup.image) (4096 * q) ≡ true → image_asked setup.image q ≡ Some n
    → asks_exec n ≡ true
text_asks setup q n h text e =
    let w = text_is setup.image q h text in
    let same : w.bits ≡ n = some_same w.bits n (sym w.asked ∙ e) in
    subst (λ (m : ℕ). asks_exec m ≡ true) same w.exec

first_ruled : (setup : Setup) (q : ℕ) (r : Rights) → IsAccepted setup.image
    → first_rights setup q ≡ Some r → IsRuled r
first_ruled setup q r h e = elim (cases_Bool (is_stack q)) [
  | inl on ↦ subst IsRuled (some_same (unpublished_rights 3 0) r (sym (first_stack setup q on)
      ∙ e)) (fresh_ruled 3 0 (lit< tt) (lit< tt))
  | inr off ↦
      start_ruled (in_text_of (image_trust setup.image) (4096 * q))
      (page_key setup.image q) (image_asked setup.image q) r
      (λ text n k. text_asks setup q n h text k)
      (λ n k. asked_low (segments setup.image) q n k) (page_key_few setup.image q h)
      (sym (first_other setup q off) ∙ e)
]

-- trusted text is published
first_text : (setup : Setup) (q : ℕ) → IsAccepted setup.image
    → in_text_of (image_trust setup.image) (4096 * q) ≡ true
    → (n : ℕ) × (first_rights setup q ≡ Some (published_rights (unpublished_rights n 0)))
    × (asks_write n ≡ false)
first_text setup q h text =
    (let w = text_is setup.image q h text in
    (w.bits, first_other setup q w.stack ∙ rw (text, w.keyed, w.asked) refl, w.sealed))

-- and nothing else is
start_unpublished : (key : ℕ) (o : Option ℕ) → is_published (rights_at_start false key o) ≡ false
start_unpublished key None = refl
start_unpublished key (Some n) = refl

first_unpublished : (setup : Setup) (q : ℕ)
    → in_text_of (image_trust setup.image) (4096 * q) ≡ false
    → is_published (first_rights setup q) ≡ false
first_unpublished setup q other = elim (cases_Bool (is_stack q)) [
  | inl on ↦ ap is_published (first_stack setup q on)
  | inr off ↦ ap is_published (first_other setup q off)
      ∙ rw other (start_unpublished (page_key setup.image q) (image_asked setup.image q))
]

-- what is published is the trusted code
first_code : (setup : Setup) (a : ℕ) → IsAccepted setup.image
    → published_code (first_rights setup) (image_byte setup.image) a ≡ trusted_code setup.image a
unfolding trusted_code
first_code setup a h = elim (cases_Bool (in_text_of (image_trust setup.image) a)) [
  | inl on ↦
      (let text : in_text_of (image_trust setup.image) (4096 * (a / 4096))
      ≡ true = text_page setup.image a h ∙ on in
      let w = text_is setup.image (a / 4096) h text in
      let shown : is_published (first_rights setup (a / 4096)) ≡ true =
      ap is_published (first_text setup (a / 4096) h text).1 in
      rw (on, shown) (sym (w.code a refl)))
  | inr off ↦
      (let hidden : is_published (first_rights setup (a / 4096))
      ≡ false = first_unpublished setup (a / 4096) (text_page setup.image a h ∙ off) in
      rw (off, hidden) refl)
]

start_none : (text : Bool) (key : ℕ) (o : Option ℕ) → ((n : ℕ) → o ≡ Some n → ⊥)
    → rights_at_start text key o ≡ None
start_none text key None h = refl
start_none text key (Some n) h = absurd (h n refl)

first_low : (setup : Setup) (q : ℕ) → IsAccepted setup.image → 2 ^ 35 ≤ q
    → first_rights setup q ≡ None
first_low setup q h high = elim (cases_Bool (is_stack q)) [
  | inl on ↦ absurd (let p : q < 0x7FFF0 = ltb-true q 0x7FFF0
      (and_parts (leb 0x7FFE0 q) (ltb q 0x7FFF0) on).1 in omega (arith, p, high))
  | inr off ↦
      first_other setup q off
      ∙ start_none (in_text_of (image_trust setup.image) (4096 * q))
      (page_key setup.image q) (image_asked setup.image q)
      (λ n e. let low = image_low setup.image q n h e in absurd (omega (arith, low, high)))
]

first_zero : (setup : Setup) (a : ℕ) → first_rights setup (a / 4096) ≡ None
    → image_byte setup.image a ≡ 0
first_zero setup a n = elim (cases_Bool (is_stack (a / 4096))) [
  | inl on ↦ absurd (let k : Some (unpublished_rights 3 0)
      ≡ None = sym (first_stack setup (a / 4096) on) ∙ n in cc)
  | inr off ↦ byte_zero setup.image (segments setup.image) a
      (no_rights (in_text_of (image_trust setup.image) (4096 * (a / 4096)))
      (page_key setup.image (a / 4096)) (image_asked setup.image (a / 4096))
      (sym (first_other setup (a / 4096) off) ∙ n))
]

first_closed : (setup : Setup) → is_outside (image_trust setup.image) (first_thread setup) ≡ false
unfolding first_thread
first_closed setup = pkru_closed (image_trust setup.image) _

first_regs : (setup : Setup) → length (first_thread setup).regs ≡ 16
unfolding first_thread
first_regs setup = refl

first_origin : (setup : Setup) → (first_thread setup).origin ≡ None
unfolding first_thread
first_origin setup = refl

pub kept_loaded : (setup : Setup) → IsStartable setup → IsKept (first_state setup)
unfolding first_state
kept_loaded setup h = record {
  ruled = λ q r e. first_ruled setup q r h.accepted e;
  safe = λ x. unsafe_loses (image_trust setup.image)
      (published_code (first_rights setup) (image_byte setup.image)) (trusted_code setup.image) x
      (λ a. inl (first_code setup a h.accepted)) (h.safe x);
  text = λ q t. (let w = first_text setup q h.accepted t in
      record {
        held = published_rights (unpublished_rights w.0 0);
        mapped = w.1;
        exec = refl;
        asks = w.2;
        key = refl;
        same = λ a e. refl;
      });
  keys = (refl, λ key is. or_right (eqb key 0) _ is);
  origins = (λ _. first_origin setup, tt);
  stand = λ _ _. (λ _. inl (first_closed setup), tt);
  regs = (first_regs setup, tt);
  low = λ q l. first_low setup q h.accepted l;
  zeros = λ a n. first_zero setup a n;
}

-- ---- the bytes at the start

list_kind : (N : ℕ → Type 0) (xs : List ℕ) (i : ℕ) → N 0 → AllOf N xs → N (slice_index xs i)
list_kind N [] i nought h = nought
list_kind N (x ∷ xs) zero nought h = h.0
list_kind N (x ∷ xs) (suc i) nought h = list_kind N xs i nought h.1

segment_kind : (N : ℕ → Type 0) (image : List ℕ) (s : Segment) (a : ℕ) → N 0 → AllOf N image
    → N (loaded_byte image s a)
segment_kind N image s a nought h =
    elim (cases_Bool (leb s.vaddr a && ltb a (s.vaddr + s.filesz))) [
      | inl on ↦
          rw on (list_kind N image _ nought h)
      | inr off ↦ rw off nought
    ]

byte_kind : (N : ℕ → Type 0) (image : List ℕ) (ss : List Segment) (a : ℕ) → N 0 → AllOf N image
    → N (byte_in image ss a)
byte_kind N image [] a nought h = nought
byte_kind N image (s ∷ ss) a nought h =
    elim (cases_Bool (touches s (a / 4096))) [
      | inl on ↦
          rw on (segment_kind N image s a nought h)
      | inr off ↦ rw off (byte_kind N image ss a nought h)
    ]

kind_loaded : (N : ℕ → Type 0) (setup : Setup) → N 0 → AllOf N setup.image
    → OfState N (first_state setup)
unfolding first_state
kind_loaded N setup nought h a = byte_kind N setup.image (segments setup.image) a nought h

loaded_entries : (setup : Setup) → IsAccepted setup.image → EntriesIn (image_trust setup.image)
unfolding first_state
loaded_entries setup h = record {
  home = λ a. elim (cases_Bool (is_entry_of (image_trust setup.image) a)) [
    | inl y ↦ inl (entries_in setup.image a h y)
    | inr n ↦ inr (entries_else setup.image a n)
  ];
  plain = λ plain a p y. plain_at_home setup.image a p h plain y;
}

-- ---- what a step leaves: the setup, and the kind of the bytes

-- the same setup, and bytes of the same kind
record Follows (N : ℕ → Type 0) (s new : State) : Type 0 where
  setup : new.setup ≡ s.setup
  kind : OfState N s → OfState N new

same_follows : (N : ℕ → Type 0) (s new : State) → new.setup ≡ s.setup → new.bytes ≡ s.bytes
    → Follows N s new
same_follows N s new e f =
    record { setup = e; kind = λ of a. subst N (ap (λ (b : ℕ → ℕ). b a) (sym f)) (of a) }

judged_follows : (N : ℕ → Type 0) (o : Option Found) (q : ℕ) (r : Rights) (t : Runner) (s : State)
    → Follows N s (after_verdict o q r t s)
judged_follows N None q r t s = same_follows N s _ refl refl
judged_follows N (Some first) q r t s = same_follows N s _ refl refl

fault_follows : (N : ℕ → Type 0) (o : Option Rights) (x : ℕ) (t : Runner) (s : State)
    → Follows N s (after_exec_fault o x t s)
fault_follows N None x t s = same_follows N s _ refl refl
fault_follows N (Some r) x t s = elim (cases_Bool (asks_exec r.asked && ltb (x / 4096) (2 ^ 35))) [
  | inl k ↦ rw k (judged_follows N
      (first_unsafe (image_trust s.setup.image) (code_with s.rights s.bytes (x / 4096))) (x / 4096)
      r t s)
  | inr k ↦ rw k (same_follows N s _ refl refl)
]

made_follows : (N : ℕ → Type 0) (o : Option Thread) (s mid : State) → Follows N s mid
    → Follows N s (with_new_thread o mid)
made_follows N None s mid h = h
made_follows N (Some u) s mid h = record { setup = h.setup; kind = h.kind }

replied_follows : (N : ℕ → Type 0) → ((x : ℕ) → x < 256 → N x)
    → (r : CallResult) (t : ℕ) (old new : Thread) (s : State)
    → ((v : ℕ) (c : Change) → r ≡ Answer v c → IsFine N s new c)
    → Follows N s (after_call r (record { number = t; thread = old }) new s)
replied_follows N bytes (Refusal e) t old new s fine = same_follows N s _ refl refl
replied_follows N bytes (Answer v c) t old new s fine =
    made_follows N c.clone s (after_move
    (record {
      runner = record { number = t; thread = old };
      after = (caller_after v c new);
      executed = None;
      free = false;
    }) (with_change c s)) (record {
      setup = refl;
      kind = (fine v c
          refl).kind bytes;
    })
replied_follows N bytes (ThreadEnd status) t old new s fine =
    last_either (Follows N s) status (ended_thread t old new s) (same_follows N s _ refl refl)
    (same_follows N s _ refl refl)
replied_follows N bytes (Quit status) t old new s fine = same_follows N s _ refl refl

stop_follows : (N : ℕ → Type 0) (a : Access) (r : Runner) (s : State)
    → Follows N s (after_stop a r s)
stop_follows N a r s = stop_either (Follows N s) a r s (ended a)
    (λ x e. write_either (Follows N s) (s.rights (x / 4096)) x r s
    (same_follows N s _ refl refl) (same_follows N s _ refl refl)
    (λ y m w free. same_follows N s _ refl refl))
  where
    ended : (a : Access) → Follows N s (after_fault a r s)
    ended (Fault cause x) = same_follows N s _ refl refl
    ended (Missing q) = same_follows N s _ refl refl

did_follows : {N : ℕ → Type 0} → Decoder N
    → (r : Effect) (insn : Insn) (len skip t : ℕ) (old : Thread) (s : State) → IsKept s
    → Follows N s (after_instruction r (record { insn = insn; len = len; skip = skip })
    (record { number = t; thread = old }) s)
did_follows {N} d (Done new w) insn len skip t old s h =
    record { setup = refl; kind = λ of. made_kind N s.bytes w d.bytes of }
did_follows {N} d (Stopped x) insn len skip t old s h =
    stop_follows N x (record { number = t; thread = old }) s
did_follows {N} d Called insn len skip t old s h =
    replied_follows N d.bytes (call_result s t (after_syscall len old)) t old
    (after_syscall len old) s (λ v c k. all_fine N s v t (after_syscall len old) c h k)

moved_follows : {N : ℕ → Type 0} → Decoder N → (x : FetchOutcome) (t : ℕ) (old : Thread) (s : State)
    → IsKept s → Follows N s (after_fetch x (record { number = t; thread = old }) s)
moved_follows d (Runs insn len skip) t old s h =
    did_follows d (effect (plan insn len old) (whole s.rights) s.bytes old.pkru old.rip) insn len
    skip t old s h
moved_follows {N} d (Need x) t old s h =
    fault_follows N (s.rights (x / 4096)) x (record { number = t; thread = old }) s
moved_follows {N} d Wrong t old s h = same_follows N s _ refl refl

by_follows : {N : ℕ → Type 0} → Decoder N → (o : Option Thread) (t : ℕ) (s new : State)
    → IsKept (record s { steps = s.steps + 1 }) → after_step_of o t s ≡ Some new → Follows N s new
by_follows d None t s new h e = absurd cc
by_follows {N} d (Some old) t s new h e =
    let later : State = record s { steps = s.steps + 1 } in
    let k = moved_follows d (fetch (code s) old.rip) t old later h in
    subst (Follows N s) (some_same
    (after_fetch (fetch (code s) old.rip) (record { number = t; thread = old }) later) new
    e) (record { setup = k.setup; kind = k.kind })

step_follows : {N : ℕ → Type 0} → Decoder N → (t : ℕ) (s new : State) → IsKept s
    → step t s ≡ Some new → Follows N s new
unfolding step
step_follows d t s new h e = by_follows d (ready_thread s t) t s new (kept_later s h) e

-- a step leaves the setup
pub step_setup : {N : ℕ → Type 0} → Decoder N → (t : ℕ) (s new : State) → IsKept s
    → step t s ≡ Some new → new.setup ≡ s.setup
step_setup {N} d t s new h e = (step_follows {N = N} d t s new h e).setup

-- ---- every run

-- what holds all the way
pub record IsGood (N : ℕ → Type 0) (s : State) : Type 0 where
  pub kept : IsKept s
  pub entries : EntriesIn (trust_of s)
  pub kind : OfState N s

pub good_step : {N : ℕ → Type 0} → Decoder N → (t : ℕ) (s new : State) → IsGood N s
    → step t s ≡ Some new → IsGood N new
good_step {N} d t s new g e =
    let f = step_follows {N = N} d t s new g.kept e in
    record {
      kept = kept_step d (all_fine N) t s new g.entries g.kind g.kept e;
      entries = subst (λ (x : Setup). EntriesIn (image_trust x.image)) (sym f.setup) g.entries;
      kind = f.kind g.kind;
    }

good_then : {N : ℕ → Type 0} (o : Option State) (t n : ℕ) (new : State)
    → ((s : State) → o ≡ Some s → IsGood N s)
    → ((s : State) → IsGood N s → steps_of t n s ≡ Some new → IsGood N new)
    → then_ o (steps_of t n) ≡ Some new → IsGood N new
good_then None t n new h k e = absurd cc
good_then (Some s) t n new h k e = k s (h s refl) e

good_steps : {N : ℕ → Type 0} → Decoder N → (t n : ℕ) (s new : State) → IsGood N s
    → steps_of t n s ≡ Some new → IsGood N new
unfolding steps_of
good_steps {N} d t zero s new g e = subst (IsGood N) (some_same s new e) g
good_steps d t (suc n) s new g e =
    good_then (step t s) t n new (λ mid m. good_step d t s mid g m)
    (λ mid k. good_steps d t n mid new k) e

good_from : {N : ℕ → Type 0} → Decoder N → (o : Option State) (entries : List Entry) (new : State)
    → ((s : State) → o ≡ Some s → IsGood N s) → replay_from o entries ≡ Some new → IsGood N new
good_from d o [] new h e = h new e
good_from d o (entry ∷ entries) new h e =
    good_from d (then_ o (steps_of entry.thread entry.count)) entries new
    (λ s k. good_then o entry.thread entry.count s h
    (λ mid m. good_steps d entry.thread entry.count mid s m) k) e

good_loaded : {N : ℕ → Type 0} → Decoder N → (setup : Setup) → IsStartable setup
    → AllOf N setup.image → IsGood N (first_state setup)
unfolding first_state
good_loaded {N} d setup h all = record {
  kept = kept_loaded setup h;
  entries = loaded_entries setup h.accepted;
  kind = kind_loaded N setup (d.bytes 0 (omega arith)) all;
}

-- in every state that a legal list of entries leads to, where the image is of the kind
pub good_always : {N : ℕ → Type 0} → Decoder N → (setup : Setup) (entries : List Entry) (s : State)
    → IsStartable setup → AllOf N setup.image → replay setup entries ≡ Some s → IsGood N s
unfolding replay
good_always {N} d setup entries s h all e =
    good_from d (Some (first_state setup)) entries s
    (λ t k. subst (IsGood N) (some_same (first_state setup) t k) (good_loaded d setup h all)) e

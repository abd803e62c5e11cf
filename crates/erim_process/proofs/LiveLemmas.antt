-- A process that hasn't ended has a live thread.
use Rattle.std.proofs.Common.{◌≡◌, ℕ, zero, suc, ◌-◌, ◌+◌, ◌/◌, ◌^◌, ◌&&◌, ◌||◌, ◌++◌, Bool, true}
use Rattle.std.proofs.Common.{false, cond, ltb, List, [], ◌∷◌, Option, Some, None, refl, sym, ap}
use Rattle.std.proofs.Common.{subst, ◌∙◌, inl, inr}
use Rattle.std.specs.Prelude.{is_none, slice_get, slice_set, IsNone}
use Rattle.std.specs.List.{list_any}
use Rattle.std.proofs.lemmas.Bool.{cases_Bool}
use Rattle.erim_defs.specs.declared.machine.Rights.{Rights}
use Rattle.erim_defs.specs.declared.machine.Thread.{Thread}
use Rattle.erim_defs.specs.declared.found.Found.{Found}
use Rattle.erim_defs.specs.declared.insn.Insn.{Insn}
use Rattle.erim_defs.specs.declared.insn.FetchOutcome.{FetchOutcome}
use Rattle.erim_defs.specs.declared.insn.FetchOutcome.TheVariants.{Runs, Need, Wrong}
use Rattle.erim_defs.specs.Machine.Pages.{ByteMap, code_with, asks_exec}
use Rattle.erim_defs.specs.Machine.Access.{Seen, whole}
use Rattle.erim_defs.specs.Inspection.Image.{image_trust}
use Rattle.erim_defs.specs.Inspection.Unsafe.{first_unsafe}
use Rattle.erim_defs.specs.Machine.Plan.{Effect, Done, Stopped, Called, Write, effect}
use Rattle.erim_defs.specs.Machine.Plan.{bytes_after_write}
use Rattle.erim_defs.specs.Machine.Registers.{with_register}
use Rattle.erim_defs.specs.Machine.Meaning.{plan}
use Rattle.erim_defs.specs.Machine.State.{State, any_live, code, with_origin, trust_of}
use Rattle.erim_defs.specs.Machine.CallResult.{Refusal, Answer, ThreadEnd, Quit}
use Rattle.erim_defs.specs.Machine.CallResult.{CallResult}
use Rattle.erim_defs.specs.Machine.Calls.{call_result}
use Rattle.erim_defs.specs.Machine.Step.{writes_pkru, step, after_move, after_instruction}
use Rattle.erim_defs.specs.Machine.Step.{after_call}
use Rattle.erim_defs.specs.Machine.Step.{after_fetch, sequence_of, with_new_thread, caller_after}
use Rattle.erim_defs.specs.Machine.Step.{with_change, after_syscall, after_verdict}
use Rattle.erim_defs.specs.Machine.Step.{after_exec_fault, ready_thread, after_step_of, if_live}
use Rattle.erim_defs.specs.Machine.Step.{fetch, Runner, with_end, with_last_end}
use Rattle.erim_defs.specs.declared.machine.End.TheVariants.{Exit}
use Rattle.erim_defs.proofs.PlanLemmas.{done_goes}
use Rattle.erim_defs.proofs.WriteFaultLemmas.{stop_threads}

-- ---- threads in a list

pub any_live_is : (ts : List Thread) → list_any (λ (t : Thread). t.live) ts ≡ any_live ts
unfolding any_live
any_live_is [] = refl
any_live_is (t ∷ ts) = ap (λ b. t.live || b) (any_live_is ts)

-- a thread that is live
any_live_at : (ts : List Thread) (t : ℕ) (old : Thread) → slice_get ts t ≡ Some old
    → old.live ≡ true → any_live ts ≡ true
unfolding any_live
any_live_at [] t old e live = absurd cc
any_live_at (u ∷ us) zero old e live = let same : u ≡ old = cc in rw (same, live) refl
any_live_at (u ∷ us) (suc t) old e live = elim (cases_Bool u.live) [
  | inl on ↦ rw on refl
  | inr off ↦
      rw off (any_live_at us t old e live)
]

-- a live thread in the place of another
any_live_set : (ts : List Thread) (t : ℕ) (old new : Thread) → slice_get ts t ≡ Some old
    → new.live ≡ true → any_live (slice_set ts t new) ≡ true
unfolding any_live
any_live_set [] t old new e live = absurd cc
any_live_set (u ∷ us) zero old new e live = rw live refl
any_live_set (u ∷ us) (suc t) old new e live =
    elim (cases_Bool u.live) [
      | inl on ↦ rw on refl
      | inr off ↦
          rw off (any_live_set us t old new e live)
    ]

-- threads after them
any_live_more : (ts us : List Thread) → any_live ts ≡ true → any_live (ts ++ us) ≡ true
unfolding any_live
any_live_more [] us h = absurd cc
any_live_more (t ∷ ts) us h = elim (cases_Bool t.live) [
  | inl on ↦ rw on refl
  | inr off ↦
      rw off (any_live_more ts us (rw off at h))
]

-- ---- what instructions give

-- no instruction ends its thread
done_live : (insn : Insn) (len : ℕ) (t new : Thread) (w : Option Write) (seen : Seen)
    (bytes : ByteMap) (pkru rip : ℕ) → effect (plan insn len t) seen bytes pkru rip ≡ Done new w
    → new.live ≡ t.live
done_live insn len t new w seen bytes pkru rip h =
    (done_goes insn len t new w seen bytes pkru rip h).live

-- ---- what a step makes of the threads

-- a thread that goes on live
went_live : (t : ℕ) (old new : Thread) (made : Option Found) (free : Bool) (s : State)
    → slice_get s.threads t ≡ Some old → new.live ≡ true
    → any_live (after_move (record {
      runner = record { number = t; thread = old };
      after = new;
      executed = made;
      free = free;
    }) s).threads ≡ true
went_live t old new made free s here live =
    any_live_set s.threads t old (with_origin (trust_of s) made new) here live

-- a new thread
made_live : (o : Option Thread) (s : State) → any_live s.threads ≡ true
    → any_live (with_new_thread o s).threads ≡ true
made_live None s h = h
made_live (Some u) s h = any_live_more s.threads (with_origin (trust_of s) None u ∷ []) h

-- a process that hasn't ended has a live thread
abbrev IsAlive : State → Type 0
IsAlive s = IsNone s.end → any_live s.threads ≡ true

-- the end of a thread, of the last one too
last_alive : (status : ℕ) (s : State) → IsAlive (with_last_end status s)
last_alive status s = elim (cases_Bool (any_live s.threads)) [
  | inl on ↦ rw on (λ none. on)
  | inr off ↦ rw off (λ none. absurd (let k : true ≡ false = none in cc))
]

-- what came of a call
replied_alive : (r : CallResult) (t : ℕ) (old new : Thread) (s : State)
    → slice_get s.threads t ≡ Some old → new.live ≡ true
    → IsAlive (after_call r (record { number = t; thread = old }) new s)
replied_alive (Refusal e) t old new s here live =
    λ none. went_live t old (with_register new 0 (2 ^ 64 - e)) None false s here live
replied_alive (Answer v c) t old new s here live =
    let changed : State = with_change c s in
    let moved : State = after_move (record {
      runner = record { number = t; thread = old };
      after = caller_after v c new;
      executed = None;
      free = false;
    }) changed in
    λ none. made_live c.clone moved
    (went_live t old (caller_after v c new) None false changed here live)
replied_alive (ThreadEnd status) t old new s here live = last_alive status (after_move (record {
  runner = record { number = t; thread = old };
  after = record new { live = false };
  executed = None;
  free = false;
}) s)
replied_alive (Quit code) t old new s here live =
    λ none. went_live t old new None false s here live

-- a page that is judged
judged_live : (o : Option Found) (q : ℕ) (r : Rights) (t : Runner) (s : State)
    → any_live s.threads ≡ true → any_live (after_verdict o q r t s).threads ≡ true
judged_live None q r t s h = h
judged_live (Some first) q r t s h = h

-- an exec fault
fault_live : (o : Option Rights) (x : ℕ) (t : Runner) (s : State) → any_live s.threads ≡ true
    → any_live (after_exec_fault o x t s).threads ≡ true
fault_live None x t s h = h
fault_live (Some r) x t s h = elim (cases_Bool (asks_exec r.asked && ltb (x / 4096) (2 ^ 35))) [
  | inl on ↦ rw on (judged_live
      (first_unsafe (image_trust s.setup.image) (code_with s.rights s.bytes (x / 4096))) (x / 4096)
      r t s h)
  | inr off ↦ rw off h
]

-- an instruction
did_alive : (d : Effect) (insn : Insn) (len skip t : ℕ) (old : Thread) (s : State)
    → effect (plan insn len old) (whole s.rights) s.bytes old.pkru old.rip ≡ d
    → slice_get s.threads t ≡ Some old → old.live ≡ true
    → IsAlive (after_instruction d (record { insn = insn; len = len; skip = skip })
    (record { number = t; thread = old }) s)
did_alive (Done new w) insn len skip t old s h here live =
    λ none. went_live t old new
    (sequence_of (record { insn = insn; len = len; skip = skip }) old.rip) (writes_pkru insn old)
    (record s { bytes = bytes_after_write w s.bytes }) here
    (done_live insn len old new w (whole s.rights) s.bytes old.pkru old.rip h ∙ live)
did_alive (Stopped a) insn len skip t old s h here live =
    λ none. ap any_live (stop_threads a (record { number = t; thread = old }) s)
    ∙ any_live_at s.threads t old here live
did_alive Called insn len skip t old s h here live =
    replied_alive (call_result s t (after_syscall len old)) t old (after_syscall len old) s here
    live

-- a step without its guard
moved_alive : (x : FetchOutcome) (t : ℕ) (old : Thread) (s : State)
    → slice_get s.threads t ≡ Some old → old.live ≡ true
    → IsAlive (after_fetch x (record { number = t; thread = old }) s)
moved_alive (Runs insn len skip) t old s here live =
    did_alive (effect (plan insn len old) (whole s.rights) s.bytes old.pkru old.rip) insn len skip
    t old s refl here live
moved_alive (Need x) t old s here live =
    λ none. fault_live (s.rights (x / 4096)) x (record { number = t; thread = old }) s
    (any_live_at s.threads t old here live)
moved_alive Wrong t old s here live = λ none. any_live_at s.threads t old here live

-- ---- the thread that makes a step

live_if : (live : Bool) (u old : Thread) → cond live (Some u) None ≡ Some old
    → (u ≡ old) × (live ≡ true)
live_if true u old e = let same : u ≡ old = cc in (same, refl)
live_if false u old e = absurd cc

-- it is live
live_thread_is : (o : Option Thread) (old : Thread) → if_live o ≡ Some old
    → (o ≡ Some old) × (old.live ≡ true)
live_thread_is None old e = absurd cc
live_thread_is (Some u) old e = let w = live_if u.live u old e in
    (ap Some w.0, sym (ap (λ (x : Thread). x.live) w.0) ∙ w.1)

-- it stands in its place
runner_is : (s : State) (t : ℕ) (old : Thread) → ready_thread s t ≡ Some old
    → (slice_get s.threads t ≡ Some old) × (old.live ≡ true)
runner_is s t old e = elim (cases_Bool (is_none s.end && ltb s.steps s.setup.budget)) [
  | inl on ↦ live_thread_is (slice_get s.threads t) old (rw on at e)
  | inr off ↦ absurd (let none : None ≡ Some old = rw off at e in cc)
]

-- a step, by the thread that runs
by_alive : (o : Option Thread) (t : ℕ) (s new : State) → ready_thread s t ≡ o
    → after_step_of o t s ≡ Some new → IsAlive new
by_alive None t s new runs e = absurd cc
by_alive (Some old) t s new runs e =
    let later : State = record s { steps = s.steps + 1 } in
    let here = runner_is s t old runs in
    let same : after_fetch (fetch (code s) old.rip) (record { number = t; thread = old }) later
    ≡ new = cc in
    subst IsAlive same (moved_alive (fetch (code s) old.rip) t old later here.0 here.1)

-- after a step some thread is live, unless the process has ended
pub step_live : (t : ℕ) (s new : State) → step t s ≡ Some new → IsNone new.end
    → any_live new.threads ≡ true
unfolding step
step_live t s new e = by_alive (ready_thread s t) t s new refl e

-- the end of the last thread ends the process
pub last_call : (status : ℕ) (s moved : State) → s ≡ moved
    → list_any (λ (t : Thread). t.live) s.threads ≡ false
    → with_end (Exit status) s ≡ with_last_end status moved
last_call status s moved same none =
    let off : any_live moved.threads ≡ false = ap (λ (x : State). any_live x.threads) (sym same)
    ∙ sym (any_live_is s.threads) ∙ none in
    rw off (ap (with_end (Exit status)) same)

-- the end of another doesn't
pub other_call : (status : ℕ) (s moved : State) → s ≡ moved
    → list_any (λ (t : Thread). t.live) s.threads ≡ true → s ≡ with_last_end status moved
other_call status s moved same some =
    let on : any_live moved.threads ≡ true = ap (λ (x : State). any_live x.threads) (sym same)
    ∙ sym (any_live_is s.threads) ∙ some in
    rw on same

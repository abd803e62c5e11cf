-- A thread that a step makes is a copy of its maker.
use Rattle.std.proofs.Common.{◌≡◌, ◌∙◌, ◌++◌, ◌+◌, ◌-◌, ◌/◌, ◌%◌, ◌^◌, ◌⊎◌, ℕ, zero, suc}
use Rattle.std.proofs.Common.{List, [], ◌∷◌, length}
use Rattle.std.proofs.Common.{Option, Some, None, true, false, refl, sym, ap, subst, inl}
use Rattle.std.proofs.Common.{inr, length-set}
use Rattle.std.specs.Prelude.{slice_get, slice_set}
use Rattle.erim_defs.specs.declared.machine.Thread.{Thread}
use Rattle.erim_defs.specs.declared.insn.Insn.{Insn}
use Rattle.erim_defs.specs.declared.insn.FetchOutcome.{FetchOutcome}
use Rattle.erim_defs.specs.declared.insn.FetchOutcome.TheVariants.{Runs, Need, Wrong}
use Rattle.erim_defs.specs.Inspection.Trust.{text_key}
use Rattle.erim_defs.specs.Machine.Access.{whole}
use Rattle.erim_defs.specs.Machine.Domains.{is_set_but, opened_domains}
use Rattle.erim_defs.proofs.WriteFaultLemmas.{stop_threads}
use Rattle.erim_defs.specs.Machine.Plan.{Effect, Done, Stopped, Called, effect}
use Rattle.erim_defs.specs.Machine.Registers.{register, with_register}
use Rattle.erim_defs.specs.Machine.Meaning.{plan}
use Rattle.erim_defs.specs.Machine.State.{State, code, with_origin, is_escape, is_outside, trust_of}
use Rattle.erim_defs.specs.Machine.CallResult.{Change, Refusal, Answer, ThreadEnd, Quit}
use Rattle.erim_defs.specs.Machine.CallResult.{CallResult}
use Rattle.erim_defs.specs.Machine.Calls.{call_result}
use Rattle.erim_defs.specs.Machine.Step.{after_move, after_instruction, after_call, after_fetch}
use Rattle.erim_defs.specs.Machine.Step.{sequence_of, with_new_thread, caller_after, with_change}
use Rattle.erim_defs.specs.Machine.Step.{after_syscall, fetch}
use Rattle.erim_defs.specs.Machine.Lawful.{IsClone}
use Rattle.isolation.specs.Laws.{CanStep, CloneLaw}
use Rattle.isolation.proofs.StandLemmas.{called_stands}
use Rattle.isolation.proofs.ThreadLemmas.{settled_origin}
use Rattle.isolation.proofs.KeptLemmas.{IsCopy, IsFine, copy_outside, code_kind, entered_zero}
use Rattle.isolation.proofs.KeptLemmas.{ended_thread, escape_none, kept_later, last_either}
use Rattle.isolation.proofs.KeptLemmas.{reply_quit}
use Rattle.isolation.proofs.CallLemmas.{all_fine}
use Rattle.isolation.proofs.GrammarFacts.{Known, decoder}
use Rattle.isolation.proofs.RunLemmas.{run_good, stands_now, step_moves}
use Rattle.isolation.proofs.CheckLaw.{set_here}
use Rattle.isolation.proofs.OpenLemmas.{set_get, append_get, fault_threads}

-- ---- lists of threads

-- a thread that is set was there before
set_none : (ts : List Thread) (t i : ℕ) (v old u : Thread) → slice_get ts t ≡ Some old
    → slice_get ts i ≡ None → slice_get (slice_set ts t v) i ≡ Some u → ⊥
set_none ts t i v old u at none e = elim (set_get ts t i v u e) [
  | inl (own, is) ↦ (let z : Some old ≡ None = sym at ∙ ap (slice_get ts) (sym own) ∙ none in
      absurd cc)
  | inr before ↦ (let z : None ≡ Some u = sym none ∙ before in absurd cc)
]

-- one that is added stands after the others
append_last : (ts : List Thread) (y u : Thread) (i : ℕ) → slice_get (ts ++ y ∷ []) i ≡ Some u
    → (slice_get ts i ≡ Some u) ⊎ ((i ≡ length ts) × (u ≡ y))
append_last [] y u zero e = inr (refl, (let z : y ≡ u = cc in sym z))
append_last [] y u (suc i) e = absurd cc
append_last (x ∷ ts) y u zero e = inl e
append_last (x ∷ ts) y u (suc i) e = elim (append_last ts y u i e) [
  | inl before ↦ inl before
  | inr (last, is) ↦ inr (ap suc last, is)
]

-- ---- a call that is answered

-- the caller goes on after it
abbrev answered : State → ℕ → ℕ → Change → Thread → Thread → State
answered s t v c old new = after_move (record {
  runner = record { number = t; thread = old };
  after = caller_after v c new;
  executed = None;
  free = false;
}) (with_change c s)

-- before an escape it isn't open outside trusted text
abbrev StaysIn : State → ℕ → Change → Thread → Thread → Type 0
StaysIn s v c old new = s.escape ≡ None
    → is_escape (trust_of s) false old (caller_after v c new) ≡ false
    → is_outside (trust_of s) (caller_after v c new) ≡ false

-- what is known of the thread u that the caller makes
record IsCopied (s : State) (caller : Thread) (new : State) (t i : ℕ) (u : Thread) : Type 0 where
  call : register caller 0 ≡ 56
  next : i ≡ length s.threads
  maker : Thread
  at : slice_get new.threads t ≡ Some maker
  rip : u.rip ≡ maker.rip
  key : opened_domains (trust_of new) u.pkru ≡ opened_domains (trust_of new) maker.pkru
  live : u.live ≡ true
  from : u.origin ≡ maker.origin
  origin : is_outside (trust_of new) u ≡ false → u.origin ≡ None
  inside : new.escape ≡ None → is_outside (trust_of new) u ≡ false

copy_made : (s : State) (t i v : ℕ) (c : Change) (old new w : Thread)
    → slice_get s.threads t ≡ Some old → i ≡ length s.threads → new.live ≡ true
    → opened_domains (trust_of s) c.pkru ≡ opened_domains (trust_of s) new.pkru → IsCopy new w
    → StaysIn s v c old new
    → IsCopied s new (with_new_thread (Some w) (answered s t v c old new)) t i
    (with_origin (trust_of s) None w)
copy_made s t i v c old new w at last live key copy stays =
    let caller : Thread = caller_after v c new in
    let maker : Thread = with_origin (trust_of s) None caller in
    let same : is_outside (trust_of s) w ≡ is_outside (trust_of s) caller =
    copy_outside (trust_of s) new w copy
    ∙ ap (is_set_but (text_key (trust_of s) new.rip)) (sym key) in
    record {
      call = copy.call;
      next = last;
      maker = maker;
      at = append_get (slice_set s.threads t maker) (with_origin (trust_of s) None w ∷ []) t maker
          (set_here s.threads t maker old at);
      rip = copy.rip;
      key = ap (opened_domains (trust_of s)) copy.pkru ∙ sym key;
      live = copy.live ∙ live;
      from = rw (same, copy.origin) refl;
      origin = settled_origin (trust_of s) None w;
      inside = λ e. (let k = escape_none s.escape (is_escape (trust_of s) false old caller)
          s.steps t caller.rip e in same ∙ stays k.0 k.1);
    }

answer_made : (o : Option Thread) (s : State) (t i v : ℕ) (c : Change) (old new u : Thread)
    → slice_get s.threads t ≡ Some old → slice_get s.threads i ≡ None → new.live ≡ true
    → opened_domains (trust_of s) c.pkru ≡ opened_domains (trust_of s) new.pkru → ((w : Thread)
    → o ≡ Some w
    → IsCopy new w)
    → StaysIn s v c old new
    → slice_get (with_new_thread o (answered s t v c old new)).threads i ≡ Some u
    → IsCopied s new (with_new_thread o (answered s t v c old new)) t i u
answer_made None s t i v c old new u at none live key copy stays e =
    absurd (set_none s.threads t i (with_origin (trust_of s) None (caller_after v c new)) old u at
    none e)
answer_made (Some w) s t i v c old new u at none live key copy stays e =
    let maker : Thread = with_origin (trust_of s) None (caller_after v c new) in
    let next : State = with_new_thread (Some w) (answered s t v c old new) in
    elim (append_last (slice_set s.threads t maker) (with_origin (trust_of s) None w) u i e) [
      | inl before ↦ absurd (set_none s.threads t i maker old u at none before)
      | inr (last, is) ↦ subst (IsCopied s new next t i) (sym is)
          (copy_made s t i v c old new w at (last ∙ length-set s.threads t maker) live key
          (copy w refl) stays)
    ]

replied_made : (r : CallResult) (s : State) (t i : ℕ) (old new u : Thread)
    → slice_get s.threads t ≡ Some old → slice_get s.threads i ≡ None → new.live ≡ true
    → ((v : ℕ) (c : Change) → r ≡ Answer v c → IsFine Known s new c)
    → ((v : ℕ) (c : Change) → r ≡ Answer v c → StaysIn s v c old new)
    → slice_get (after_call r (record { number = t; thread = old }) new s).threads i ≡ Some u
    → IsCopied s new (after_call r (record { number = t; thread = old }) new s) t i u
replied_made (Refusal x) s t i old new u at none live fine stays e =
    absurd (set_none s.threads t i
    (with_origin (trust_of s) None (with_register new 0 (2 ^ 64 - x))) old u at none e)
replied_made (Answer v c) s t i old new u at none live fine stays e =
    let f = fine v c refl in
    answer_made c.clone s t i v c old new u at none live f.pkru f.made (stays v c refl) e
replied_made (ThreadEnd x) s t i old new u at none live fine stays e =
    let ended : State = ended_thread t old new s in
    let same = last_either (λ (y : State). y.threads ≡ ended.threads) x ended refl refl in
    absurd (set_none s.threads t i (with_origin (trust_of s) None (record new { live = false })) old
    u at none (ap (λ (ts : List Thread). slice_get ts i) (sym same) ∙ e))
replied_made (Quit x) s t i old new u at none live fine stays e =
    absurd (set_none s.threads t i (with_origin (trust_of s) None new) old u at none e)

-- ---- a step

-- the caller of a call that is answered
answer_stays : (s : State) (insn : Insn) (len skip t v : ℕ) (c : Change) (old : Thread)
    → CanStep s t old → fetch (code s) old.rip ≡ Runs insn len skip
    → effect (plan insn len old) (whole s.rights) s.bytes old.pkru old.rip ≡ Called
    → call_result (record s { steps = s.steps + 1 }) t (after_syscall len old) ≡ Answer v c
    → opened_domains (trust_of s) c.pkru ≡ opened_domains (trust_of s) old.pkru
    → StaysIn (record s { steps = s.steps + 1 }) v c old (after_syscall len old)
answer_stays s insn len skip t v c old r f called answer key e esc =
    let good = run_good s t old r in
    let later : State = record s { steps = s.steps + 1 } in
    called_stands decoder (trust_of s) (code s) old (caller_after v c (after_syscall len old)) insn
    len skip (whole s.rights) s.bytes old.pkru old.rip (code_kind Known s good.kind) good.kept.safe
    (stands_now s t old r e) f called
    (λ q. (let w = reply_quit later t (after_syscall len old) (entered_zero len old ∙ q) in
    let z : Quit (register (after_syscall len old) 7 % 256) ≡ Answer v c = sym w ∙ answer in
    absurd cc)) key esc

same_none : (ts us : List Thread) (i : ℕ) (u : Thread) → ts ≡ us → slice_get us i ≡ None
    → slice_get ts i ≡ Some u → ⊥
same_none ts us i u same none e =
    let z : None ≡ Some u = sym none ∙ ap (λ (x : List Thread). slice_get x i) (sym same) ∙ e in
    absurd cc

did_made : (d : Effect) (s : State) (insn : Insn) (len skip t i : ℕ) (old u : Thread)
    → CanStep s t old → fetch (code s) old.rip ≡ Runs insn len skip
    → effect (plan insn len old) (whole s.rights) s.bytes old.pkru old.rip ≡ d
    → slice_get s.threads i ≡ None
    → slice_get (after_instruction d (record { insn = insn; len = len; skip = skip })
    (record { number = t; thread = old }) (record s { steps = s.steps + 1 })).threads i ≡ Some u
    → IsClone s (after_instruction d (record { insn = insn; len = len; skip = skip })
    (record { number = t; thread = old }) (record s { steps = s.steps + 1 })) t i old u
did_made (Done new w) s insn len skip t i old u r f d none e =
    absurd (set_none s.threads t i (with_origin (trust_of s)
    (sequence_of (record { insn = insn; len = len; skip = skip }) old.rip) new) old u r.at none e)
did_made (Stopped x) s insn len skip t i old u r f d none e =
    absurd (same_none _ s.threads i u
    (stop_threads x (record { number = t; thread = old })
    (record s { steps = s.steps + 1 })) none e)
did_made Called s insn len skip t i old u r f d none e =
    let later : State = record s { steps = s.steps + 1 } in
    let fine : (v : ℕ) (c : Change) → call_result later t (after_syscall len old) ≡ Answer v c
    → IsFine Known later (after_syscall len old) c =
    λ v c k. all_fine Known later v t (after_syscall len old) c
    (kept_later s (run_good s t old r).kept) k in
    let m = replied_made (call_result later t (after_syscall len old)) later t i old
    (after_syscall len old) u r.at none r.live fine
    (λ v c k. answer_stays s insn len skip t v c old r f d k (fine v c k).pkru) e in
    record {
      insn = insn;
      len = len;
      skip = skip;
      runs = f;
      called = d;
      clone = sym (entered_zero len old) ∙ m.call;
      next = m.next;
      maker = m.maker;
      at = m.at;
      rip = m.rip;
      key = m.key;
      live = m.live;
      from = m.from;
      origin = m.origin;
      inside = m.inside;
    }

moved_made : (x : FetchOutcome) (s : State) (t i : ℕ) (old u : Thread) → CanStep s t old
    → fetch (code s) old.rip ≡ x → slice_get s.threads i ≡ None
    → slice_get (after_fetch x (record { number = t; thread = old })
    (record s { steps = s.steps + 1 })).threads i ≡ Some u
    → IsClone s (after_fetch x (record { number = t; thread = old })
    (record s { steps = s.steps + 1 })) t i old u
moved_made (Runs insn len skip) s t i old u r f none e =
    did_made (effect (plan insn len old) (whole s.rights) s.bytes old.pkru old.rip) s insn len skip
    t i old u r f refl none e
moved_made (Need x) s t i old u r f none e =
    absurd (same_none _ s.threads i u
    (fault_threads (s.rights (x / 4096)) x (record { number = t; thread = old })
    (record s { steps = s.steps + 1 })) none e)
moved_made Wrong s t i old u r f none e = absurd (same_none s.threads s.threads i u refl none e)

pub made_law : CloneLaw
made_law s new t i old u r step none e =
    let m = step_moves t s new old r.at step in
    subst (λ (x : State). IsClone s x t i old u) m
    (moved_made (fetch (code s) old.rip) s t i old u r refl none
    (ap (λ (x : State). slice_get x.threads i) m ∙ e))

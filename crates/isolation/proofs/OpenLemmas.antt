-- A thread opens by a sequence that occurs, and then stands at an entry or before its check.
use Rattle.std.proofs.Common.{◌≡◌, ◌+◌, ◌-◌, ◌/◌, ◌%◌, ◌^◌, ◌⊎◌, ◌++◌, ◌&&◌, ℕ, zero, suc}
use Rattle.std.proofs.Common.{List, [], ◌∷◌, Option, Some, None, true, false, ltb, refl, sym, ap}
use Rattle.std.proofs.Common.{subst, ◌∙◌, inl, inr}
use Rattle.std.specs.Prelude.{slice_get, slice_set}
use Rattle.std.proofs.lemmas.Bool.{cases_Bool}
use Rattle.erim_defs.specs.declared.found.SeqKind.{SeqKind}
use Rattle.erim_defs.specs.declared.found.Found.{Found}
use Rattle.erim_defs.specs.declared.machine.Rights.{Rights}
use Rattle.erim_defs.specs.declared.machine.Thread.{Thread}
use Rattle.erim_defs.specs.declared.insn.Insn.{Insn}
use Rattle.erim_defs.specs.declared.insn.FetchOutcome.{FetchOutcome}
use Rattle.erim_defs.specs.declared.insn.FetchOutcome.TheVariants.{Runs, Need, Wrong}
use Rattle.erim_defs.specs.Inspection.Code.{Code}
use Rattle.erim_defs.specs.Machine.Pages.{code_with, asks_exec}
use Rattle.erim_defs.specs.Machine.Access.{whole}
use Rattle.erim_defs.specs.Inspection.Occurrence.{occurrence_at}
use Rattle.erim_defs.specs.Inspection.Safe.{opens_gate, fits}
use Rattle.erim_defs.specs.Inspection.Unsafe.{first_unsafe}
use Rattle.erim_defs.specs.Inspection.Image.{image_trust}
use Rattle.erim_defs.specs.Machine.Plan.{Effect, Done, Stopped, Called, effect}
use Rattle.erim_defs.specs.Machine.Registers.{with_register}
use Rattle.erim_defs.specs.Machine.Meaning.{plan}
use Rattle.erim_defs.specs.Machine.State.{State, code, with_origin, trust_of}
use Rattle.erim_defs.specs.Machine.CallResult.{Change, Refusal, Answer, ThreadEnd, Quit}
use Rattle.erim_defs.specs.Machine.CallResult.{CallResult}
use Rattle.erim_defs.specs.Machine.Calls.{call_result}
use Rattle.erim_defs.specs.Machine.Step.{writes_pkru, after_move, after_instruction, after_call}
use Rattle.erim_defs.specs.Machine.Step.{after_fetch, sequence_of, with_new_thread, caller_after}
use Rattle.erim_defs.specs.Machine.Step.{with_change, after_syscall, after_verdict}
use Rattle.erim_defs.specs.Machine.Step.{after_exec_fault, fetch, Runner}
use Rattle.erim_defs.specs.Machine.Isolation.{IsSafeCode}
use Rattle.erim_defs.specs.Machine.Lawful.{IsOpening}
use Rattle.isolation.specs.Laws.{OpenLaw}
use Rattle.isolation.proofs.SequenceLemmas.{check_fits}
use Rattle.isolation.proofs.ListLemmas.{sequence_fact}
use Rattle.erim_defs.proofs.PlanLemmas.{Goes, done_goes}
use Rattle.isolation.proofs.StandLemmas.{behind_sequence, fetched_decoded, free_kind, made_of}
use Rattle.isolation.proofs.KeptLemmas.{code_kind, kept_later, kept_low, ended_thread}
use Rattle.isolation.proofs.KeptLemmas.{last_either}
use Rattle.isolation.proofs.CallLemmas.{all_fine}
use Rattle.isolation.proofs.AlwaysLemmas.{IsGood}
use Rattle.isolation.proofs.GrammarFacts.{Known, decoder}
use Rattle.isolation.proofs.RunLemmas.{run_good, step_moves}
use Rattle.erim_defs.specs.Inspection.Check.{check_of}
use Rattle.erim_defs.specs.Inspection.Trust.{TrustValue, flag_at, is_domain}
use Rattle.erim_defs.specs.Machine.Domains.{opened_domains}
use Rattle.erim_defs.proofs.DomainLemmas.{domain_flag}
use Rattle.erim_defs.proofs.WriteFaultLemmas.{stop_threads}
use Rattle.std.proofs.lemmas.Bool.{and_parts}
use Rattle.std.proofs.Common.{Bool}

-- ---- lists of threads

pub set_get : (xs : List Thread) (t i : ℕ) (v b : Thread) → slice_get (slice_set xs t v) i ≡ Some b
    → ((i ≡ t) × (b ≡ v)) ⊎ (slice_get xs i ≡ Some b)
set_get [] t i v b h = absurd cc
set_get (x ∷ xs) zero zero v b h = inl (refl, (let z : v ≡ b = cc in sym z))
set_get (x ∷ xs) zero (suc i) v b h = inr h
set_get (x ∷ xs) (suc t) zero v b h = inr h
set_get (x ∷ xs) (suc t) (suc i) v b h =
    elim (set_get xs t i v b h) [ inl e ↦ inl (ap suc e.0, e.1) | inr e ↦ inr e ]

set_some : (xs : List Thread) (t i : ℕ) (v a : Thread) → slice_get xs i ≡ Some a
    → (u : Thread) × (slice_get (slice_set xs t v) i ≡ Some u)
set_some [] t i v a h = absurd cc
set_some (x ∷ xs) zero zero v a h = (v, refl)
set_some (x ∷ xs) zero (suc i) v a h = (a, h)
set_some (x ∷ xs) (suc t) zero v a h = (a, h)
set_some (x ∷ xs) (suc t) (suc i) v a h = set_some xs t i v a h

pub append_get : (xs ys : List Thread) (i : ℕ) (a : Thread) → slice_get xs i ≡ Some a
    → slice_get (xs ++ ys) i ≡ Some a
append_get [] ys i a h = absurd cc
append_get (x ∷ xs) ys zero a h = h
append_get (x ∷ xs) ys (suc i) a h = append_get xs ys i a h

-- new threads stand after the old ones
made_get : (o : Option Thread) (s : State) (j : ℕ) (u : Thread) → slice_get s.threads j ≡ Some u
    → slice_get (with_new_thread o s).threads j ≡ Some u
made_get None s j u h = h
made_get (Some v) s j u h = append_get s.threads (with_origin (trust_of s) None v ∷ []) j u h

-- ---- what opens nothing

-- the flag of a domain
abbrev flag_of : TrustValue → ℕ → Thread → Bool
flag_of trust d t = flag_at (opened_domains trust t.pkru) d

-- the same thread can't be closed and open
same_not : (trust : TrustValue) (d : ℕ) (o : Option Thread) (a b : Thread) → o ≡ Some a
    → o ≡ Some b → flag_of trust d a ≡ false → flag_of trust d b ≡ true → ⊥
same_not trust d o a b e f c p =
    let k : Some a ≡ Some b = sym e ∙ f in
    let z : a ≡ b = cc in
    let y : false ≡ true = sym c ∙ ap (flag_of trust d) z ∙ p in
    cc

-- where the key 1 of the thread that moves is as before, nobody opens
went_not : (trust : TrustValue) (d : ℕ) (ts : List Thread) (t i : ℕ) (old v a b : Thread)
    → slice_get ts t ≡ Some old
    → opened_domains trust v.pkru ≡ opened_domains trust old.pkru → slice_get ts i ≡ Some a
    → slice_get (slice_set ts t v) i ≡ Some b
    → flag_of trust d a ≡ false → flag_of trust d b ≡ true → ⊥
went_not trust d ts t i old v a b at p e f c o = elim (set_get ts t i v b f) [
  | inr g ↦ same_not trust d (slice_get ts i) a b e g c o
  | inl (own, is) ↦
      (let k : Some old ≡ Some a = sym at ∙ sym (ap (slice_get ts) own) ∙ e in
      let z : old ≡ a = cc in
      let y : false ≡ true = sym c ∙ sym (ap (flag_of trust d) z)
      ∙ ap (λ (fs : List Bool). flag_at fs d) (sym p) ∙ sym (ap (flag_of trust d) is) ∙ o in
      absurd cc)
]

-- no call opens a thread
replied_not : (d : ℕ) (r : CallResult) (t i : ℕ) (old new a b : Thread) (s : State)
    → slice_get s.threads t ≡ Some old
    → opened_domains (trust_of s) new.pkru ≡ opened_domains (trust_of s) old.pkru
    → ((v : ℕ) (c : Change) → r ≡ Answer v c
    → opened_domains (trust_of s) c.pkru ≡ opened_domains (trust_of s) new.pkru)
    → slice_get s.threads i ≡ Some a
    → slice_get (after_call r (record { number = t; thread = old }) new s).threads i ≡ Some b
    → flag_of (trust_of s) d a ≡ false → flag_of (trust_of s) d b ≡ true → ⊥
replied_not d (Refusal e) t i old new a b s at p q f g c o =
    went_not (trust_of s) d s.threads t i old (with_origin (trust_of s) None (with_register new 0
    (2 ^ 64 - e))) a
    b at p f g c o
replied_not d (Answer v ch) t i old new a b s at p q f g c o =
    let n : Thread = with_origin (trust_of s) None (caller_after v ch new) in
    let moved : State = after_move (record {
      runner = record { number = t; thread = old };
      after = caller_after v ch new;
      executed = None;
      free = false;
    }) (with_change ch s) in
    let u = set_some s.threads t i n a f in
    let z : slice_get (with_new_thread ch.clone moved).threads i ≡ Some u.0 =
    made_get ch.clone moved i u.0 u.1 in
    let k : Some u.0 ≡ Some b = sym z ∙ g in
    let y : u.0 ≡ b = cc in
    went_not (trust_of s) d s.threads t i old n a b at (q v ch refl ∙ p) f (u.1 ∙ ap Some y) c o
replied_not d (ThreadEnd n) t i old new a b s at p q f g c o =
    let ended : State = ended_thread t old new s in
    let same = last_either (λ (x : State). x.threads ≡ ended.threads) n ended refl refl in
    went_not (trust_of s) d s.threads t i old (with_origin (trust_of s) None
    (record new { live = false })) a b at
    p f (ap (λ (ts : List Thread). slice_get ts i) (sym same) ∙ g) c o
replied_not d (Quit n) t i old new a b s at p q f g c o =
    went_not (trust_of s) d s.threads t i old (with_origin (trust_of s) None new) a b at p f g c o

judged_threads : (u : Option Found) (q : ℕ) (r : Rights) (t : Runner) (s : State)
    → (after_verdict u q r t s).threads ≡ s.threads
judged_threads None q r t s = refl
judged_threads (Some y) q r t s = refl

pub fault_threads : (o : Option Rights) (x : ℕ) (t : Runner) (s : State)
    → (after_exec_fault o x t s).threads ≡ s.threads
fault_threads None x t s = refl
fault_threads (Some r) x t s = elim (cases_Bool (asks_exec r.asked && ltb (x / 4096) (2 ^ 35))) [
  | inl k ↦ rw k (judged_threads
      (first_unsafe (image_trust s.setup.image) (code_with s.rights s.bytes (x / 4096))) (x / 4096)
      r t s)
  | inr k ↦ rw k refl
]

-- ---- a sequence

behind_gate : (trust : TrustValue) (c : Code) (o : Found) (rip : ℕ) → IsSafeCode trust c
    → occurrence_at c o.at ≡ Some o → rip ≡ o.at + o.len
    → (opens_gate trust o.kind rip ≡ true) ⊎ (fits c rip (check_of trust o.kind rip) ≡ true)
behind_gate trust c o rip safe e r = elim (cases_Bool (opens_gate trust o.kind (o.at + o.len))) [
  | inl y ↦ inl (rw r y)
  | inr n ↦ inr (rw r (check_fits trust c o safe e n))
]

opened_free : (s : State) (t i : ℕ) (a b new : Thread) (insn : Insn) (len skip : ℕ)
    → IsGood Known s → i ≡ t → fetch (code s) a.rip ≡ Runs insn len skip → Goes insn len a new
    → b ≡ with_origin (trust_of s) (sequence_of (record { insn = insn; len = len; skip = skip })
    a.rip) new → writes_pkru insn a ≡ true → IsOpening s t i a b
opened_free s t i a b new insn len skip h own f g is free =
    let kind = free_kind insn a free in
    let k : SeqKind = kind.0 in
    let q = sequence_fact decoder k (code s) a.rip insn len skip kind.1 (code_kind Known s h.kind)
    (fetched_decoded (code s) a.rip insn len skip f) in
    let o : Found = record { at = a.rip + skip; len = len - skip; kind = k } in
    let next : b.rip ≡ (a.rip + len) % 2 ^ 64 = ap (λ (x : Thread). x.rip) is ∙ g.next free in
    let to : b.rip ≡ o.at + o.len =
    behind_sequence (code s) a.rip b.rip len skip k (kept_low s h.kept) q next in
    record {
      own = own;
      insn = insn;
      len = len;
      skip = skip;
      origin = o;
      runs = f;
      sequence = made_of insn k len skip a.rip kind.1;
      occurs = q.occurs;
      rip = to;
      follows = behind_gate (image_trust s.setup.image) (code s) o b.rip h.kept.safe q.occurs to;
    }

opened_done : (d : ℕ) (s : State) (t i : ℕ) (old a b new : Thread) (insn : Insn) (len skip : ℕ)
    → IsGood Known s → slice_get s.threads t ≡ Some old
    → fetch (code s) old.rip ≡ Runs insn len skip → Goes insn len old new
    → slice_get s.threads i ≡ Some a
    → slice_get (slice_set s.threads t
    (with_origin (trust_of s) (sequence_of (record { insn = insn; len = len; skip = skip })
    old.rip) new)) i ≡ Some b → flag_of (trust_of s) d a ≡ false → flag_of (trust_of s) d b
    ≡ true → IsOpening s t i a b
opened_done d s t i old a b new insn len skip h at f g e k c o =
    elim (cases_Bool (writes_pkru insn old)) [
      | inr n ↦ absurd (went_not (trust_of s) d s.threads t i old
          (with_origin (trust_of s) (sequence_of (record { insn = insn; len = len; skip = skip })
          old.rip) new) a b at (ap (opened_domains (trust_of s)) (g.pkru n)) e k c o)
      | inl free ↦ elim (set_get s.threads t i
          (with_origin (trust_of s) (sequence_of (record { insn = insn; len = len; skip = skip })
          old.rip) new) b k) [
            | inr same ↦ absurd (same_not (trust_of s) d (slice_get s.threads i) a b e same c o)
            | inl (own, is) ↦ moved_own own is free
          ]
    ]
  where
    moved_own : i ≡ t → b ≡ with_origin (trust_of s)
        (sequence_of (record { insn = insn; len = len; skip = skip }) old.rip) new
        → writes_pkru insn old ≡ true → IsOpening s t i a b
    moved_own own is free =
        let y : Some old ≡ Some a = sym at ∙ sym (ap (slice_get s.threads) own) ∙ e in
        let z : old ≡ a = cc in
        opened_free s t i a b new insn len skip h own
        (ap (λ (x : Thread). fetch (code s) x.rip) (sym z) ∙ f) (let P : Thread
        → Type 0 = λ x. Goes insn len x new in subst P z g) (is
        ∙ ap (λ (x : Thread). with_origin (trust_of s)
        (sequence_of (record { insn = insn; len = len; skip = skip }) x.rip)
        new) z) (ap (writes_pkru insn) (sym z) ∙ free)

-- ---- a step

did_opened : (d : ℕ) (y : Effect) (s : State) (t i : ℕ) (old a b : Thread) (insn : Insn)
    (len skip : ℕ)
    → IsGood Known s → slice_get s.threads t ≡ Some old
    → fetch (code s) old.rip ≡ Runs insn len skip
    → effect (plan insn len old) (whole s.rights) s.bytes old.pkru old.rip ≡ y
    → slice_get s.threads i ≡ Some a
    → slice_get (after_instruction y (record { insn = insn; len = len; skip = skip })
    (record { number = t; thread = old })
    (record s {
      steps = s.steps + 1;
    })).threads i ≡ Some b → flag_of (trust_of s) d a ≡ false → flag_of (trust_of s) d b ≡ true
    → IsOpening s t i a b
did_opened d (Done new w) s t i old a b insn len skip h at f r e k c o =
    opened_done d s t i old a b new insn len skip h at f
    (done_goes insn len old new w (whole s.rights) s.bytes old.pkru old.rip r) e k c o
did_opened d (Stopped x) s t i old a b insn len skip h at f r e k c o =
    absurd (same_not (trust_of s) d (slice_get s.threads i) a b e
    (ap (λ (ts : List Thread). slice_get ts i)
    (sym (stop_threads x (record { number = t; thread = old }) (record s { steps = s.steps + 1 })))
    ∙ k) c o)
did_opened d Called s t i old a b insn len skip h at f r e k c o =
    let n : State = record s { steps = s.steps + 1 } in
    absurd (replied_not d (call_result n t (after_syscall len old)) t i old
    (after_syscall len old)
    a b n at refl (λ v ch q.
    (all_fine Known n v t (after_syscall len old) ch (kept_later s h.kept) q).pkru) e k c o)

moved_opened : (d : ℕ) (x : FetchOutcome) (s : State) (t i : ℕ) (old a b : Thread) → IsGood Known s
    → slice_get s.threads t ≡ Some old → fetch (code s) old.rip ≡ x
    → slice_get s.threads i ≡ Some a
    → slice_get (after_fetch x (record { number = t; thread = old })
    (record s {
      steps = s.steps + 1;
    })).threads i ≡ Some b → flag_of (trust_of s) d a ≡ false → flag_of (trust_of s) d b ≡ true
    → IsOpening s t i a b
moved_opened d (Runs insn len skip) s t i old a b h at f e k c o =
    did_opened d (effect (plan insn len old)
    (whole s.rights) s.bytes old.pkru old.rip) s t i old a b
    insn len skip h at f refl e k c o
moved_opened d (Need x) s t i old a b h at f e k c o =
    absurd (same_not (trust_of s) d (slice_get s.threads i) a b e
    (ap (λ (ts : List Thread). slice_get ts i)
    (sym (fault_threads (s.rights (x / 4096)) x (record { number = t; thread = old })
    (record s { steps = s.steps + 1 }))) ∙ k) c o)
moved_opened d Wrong s t i old a b h at f e k c o =
    absurd (same_not (trust_of s) d (slice_get s.threads i) a b e k c o)

pub open_law : OpenLaw
open_law s new t i d a b old r e f g c o =
    let m = step_moves t s new old r.at e in
    let is : is_domain (trust_of s) d ≡ true = (and_parts (is_domain (trust_of s) d) _ o).0 in
    moved_opened d (fetch (code s) old.rip) s t i old a b (run_good s t old r) r.at refl f
    (ap (λ (x : State). slice_get x.threads i) m ∙ g)
    (domain_flag s.setup.image a.pkru d is ∙ c) (domain_flag s.setup.image b.pkru d is ∙ o)

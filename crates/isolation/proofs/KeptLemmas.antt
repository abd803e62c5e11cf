-- Each constructor of a step keeps the invariant.
use Rattle.std.proofs.Common.{◌≡◌, ◌≢◌, ◌<◌, ◌≤◌, ◌+◌, ◌-◌, ◌*◌, ◌/◌, ◌%◌, ◌^◌, ℕ, List, length}
use Rattle.std.proofs.Common.{Option, Some, None, Bool, true, false, cond, eqb, ltb, ◌&&◌}
use Rattle.std.proofs.Common.{is_none, is_some, refl, sym, ap, subst, ◌∙◌, arith, inl, inr}
use Rattle.std.proofs.Common.{eqb-true, ne_eqb, length-set, ltb-true, get_or-set_other}
use Rattle.std.specs.Prelude.{slice_set, slice_get}
use Rattle.std.proofs.lemmas.Bool.{cases_Bool, and_parts}
use Rattle.erim_defs.specs.declared.machine.Rights.{Rights}
use Rattle.erim_defs.specs.declared.machine.Thread.{Thread}
use Rattle.erim_defs.specs.declared.machine.End.{End}
use Rattle.erim_defs.specs.declared.machine.End.TheVariants.{Exit, Fault as EndFault, Refused}
use Rattle.erim_defs.specs.declared.machine.Escape.{Escape}
use Rattle.erim_defs.specs.declared.machine.Cause.TheVariants.{Exec, Undefined as UndefinedCause}
use Rattle.erim_defs.specs.declared.machine.Access.TheVariants.{Fault, Missing}
use Rattle.erim_defs.specs.declared.found.Found.{Found}
use Rattle.erim_defs.specs.declared.trust.Span.{Span}
use Rattle.erim_defs.specs.declared.insn.Insn.{Insn}
use Rattle.erim_defs.specs.declared.insn.FetchOutcome.{FetchOutcome}
use Rattle.erim_defs.specs.declared.insn.FetchOutcome.TheVariants.{Runs, Need, Wrong}
use Rattle.erim_defs.specs.Machine.Pages.{RightsMap, ByteMap, published_code, code_with}
use Rattle.erim_defs.specs.Machine.Pages.{is_published, with_value_at, asks_exec, published_rights}
use Rattle.erim_defs.specs.Machine.Pages.{asks_write, taken_back_rights}
use Rattle.erim_defs.specs.declared.machine.Access.{Access}
use Rattle.erim_defs.specs.declared.machine.Cause.TheVariants.{Write as WriteCause}
use Rattle.erim_defs.specs.Machine.MapCalls.{is_pinned}
use Rattle.erim_defs.specs.Machine.Step.{after_fault, after_stop}
use Rattle.isolation.proofs.ThreadLemmas.{origins_unpinned}
use Rattle.erim_defs.specs.Machine.Access.{whole}
use Rattle.erim_defs.specs.Machine.Domains.{is_set_but, opened_domains}
use Rattle.erim_defs.specs.Inspection.Image.{image_trust}
use Rattle.erim_defs.specs.Inspection.Unsafe.{first_unsafe}
use Rattle.erim_defs.specs.Machine.Plan.{Write, Effect, Done, Stopped, Called, effect}
use Rattle.erim_defs.specs.Machine.Plan.{bytes_after_write}
use Rattle.erim_defs.specs.Machine.Registers.{register, with_register, onward}
use Rattle.erim_defs.specs.Machine.Meaning.{plan}
use Rattle.erim_defs.specs.Machine.State.{State, code, with_origin, is_escape, is_outside}
use Rattle.erim_defs.specs.Machine.State.{first_escape, trust_of, any_live}
use Rattle.erim_defs.specs.Machine.CallResult.{Change, Refusal, Answer, ThreadEnd, Quit}
use Rattle.erim_defs.specs.Machine.CallResult.{CallResult}
use Rattle.erim_defs.specs.Machine.Calls.{call_result}
use Rattle.erim_defs.specs.Machine.Step.{writes_pkru, flags_word, step, after_move}
use Rattle.erim_defs.specs.Machine.Step.{after_instruction}
use Rattle.erim_defs.specs.Machine.Step.{after_call, after_fetch, sequence_of, with_new_thread}
use Rattle.erim_defs.specs.Machine.Step.{caller_after, with_change, after_syscall, with_end}
use Rattle.erim_defs.specs.Machine.Step.{with_last_end}
use Rattle.erim_defs.specs.Machine.Step.{after_verdict, after_exec_fault, ready_thread}
use Rattle.erim_defs.specs.Machine.Step.{after_step_of, if_live, fetch, Runner}
use Rattle.erim_defs.specs.Machine.Start.{unpublished_rights}
use Rattle.erim_defs.specs.Machine.Isolation.{HasTaken, IsKept, IsRuled, KeepsText, Stands}
use Rattle.isolation.proofs.WriteLemmas.{IsAllowed, does_allowed, sealed_same}
use Rattle.isolation.proofs.LossLemmas.{Loses, unsafe_loses}
use Rattle.erim_defs.proofs.WriteFaultLemmas.{stop_either, write_either}
use Rattle.isolation.proofs.DecoderFacts.{Decoder}
use Rattle.isolation.proofs.ListLemmas.{OfCode}
use Rattle.erim_defs.proofs.PlanLemmas.{done_goes}
use Rattle.isolation.proofs.StandLemmas.{IsLow, EntriesIn, did_stands, called_stands, stands_in}
use Rattle.isolation.proofs.ThreadLemmas.{stands_same, each_at, each_set, each_append, KeepsOrigins}
use Rattle.isolation.proofs.ThreadLemmas.{each_kept, origins_same, each_grown, settled_origin}
use Rattle.isolation.proofs.MemoryLemmas.{NotWritable, published_sealed, unmapped_sealed}
use Rattle.isolation.proofs.MemoryLemmas.{code_same, first_none}
use Rattle.erim_defs.specs.Inspection.Trust.{in_text_of, text_key, TrustValue}

-- ---- what a kept state says

pub some_same : {X : Type 0} (a b : X) → Some a ≡ Some b → a ≡ b
some_same a b h = cc

pub cond_some : {X : Type 0} (b : Bool) (x : Option X) (o : X) → cond b x None ≡ Some o
    → (b ≡ true) × (x ≡ Some o)
cond_some true x o h = (refl, h)
cond_some false x o h = absurd cc

-- nothing is published past user memory
pub kept_low : (s : State) → IsKept s → IsLow (code s)
kept_low s h a l = let p : 2 ^ 35 ≤ a / 4096 = omega arith in rw (h.low (a / 4096) p) refl

pub not_writable : (s : State) → IsKept s → NotWritable s.rights
not_writable s h q r e x = (h.ruled q r e).sealed x

-- each byte of the state is of the kind
abbrev pub OfState : (ℕ → Type 0) → State → Type 0
OfState N s = (a : ℕ) → N (s.bytes a)

pub code_kind : (N : ℕ → Type 0) (s : State) → OfState N s → OfCode N (code s)
code_kind N s h a x e = elim (cases_Bool (is_published (s.rights (a / 4096)))) [
  | inl on ↦ (let same : s.bytes a ≡ x = some_same (s.bytes a) x (rw on at e) in subst N same (h a))
  | inr off ↦ absurd (let k : None ≡ Some x = rw off at e in cc)
]

-- ---- the parts of a step

-- pages, keys and heap blocks change, threads stay
pub kept_frame : (s : State) (rights : RightsMap) (bytes : ByteMap) (keys : ℕ → Bool)
    (blocks : List Span) (output : List ℕ) → IsKept s
    → ((q : ℕ) (r : Rights) → rights q ≡ Some r → IsRuled r)
    → Loses (published_code rights bytes) (code s)
    → ((q : ℕ) → in_text_of (trust_of s) (4096 * q) ≡ true → KeepsText s.setup rights bytes q)
    → HasTaken (trust_of s) keys
    → KeepsOrigins (published_code rights bytes) (code s) s.threads
    → ((q : ℕ) → 2 ^ 35 ≤ q → rights q ≡ None)
    → ((a : ℕ) → rights (a / 4096) ≡ None → bytes a ≡ 0)
    → IsKept (record s {
      rights = rights;
      bytes = bytes;
      keys = keys;
      blocks = blocks;
      output = output;
    })
kept_frame s rights bytes keys blocks output h ruled loses text two origins low zeros = record {
  ruled = ruled;
  safe = λ a. unsafe_loses (image_trust s.setup.image) (published_code rights bytes) (code s) a
      loses
      (h.safe a);
  text = text;
  keys = two;
  origins = h.origins;
  stand = λ e f. each_kept (trust_of s) (published_code rights bytes) (code s) s.threads origins
      (h.stand e f);
  regs = h.regs;
  low = low;
  zeros = zeros;
}

pub escape_none : (e : Option Escape) (out : Bool) (step t rip : ℕ)
    → first_escape e out (record { step = step; thread = t; rip = rip }) ≡ None
    → (e ≡ None) × (out ≡ false)
escape_none None true step t rip h = absurd cc
escape_none None false step t rip h = (refl, refl)
escape_none (Some x) out step t rip h = absurd cc

-- a thread goes on, or ends
pub kept_went : (s : State) (t : ℕ) (old new : Thread) (made : Option Found) (free : Bool)
    → IsKept s → length new.regs ≡ 16
    → (new.live ≡ true → s.end ≡ None → s.escape ≡ None
    → is_escape (trust_of s) free old new ≡ false
    → Stands (trust_of s) (code s) (with_origin (trust_of s) made new))
    → IsKept (after_move (record {
      runner = record { number = t; thread = old };
      after = new;
      executed = made;
      free = free;
    }) s)
kept_went s t old new made free h regs st = record {
  ruled = h.ruled;
  safe = h.safe;
  text = h.text;
  keys = h.keys;
  origins = each_set (λ u. is_outside (trust_of s) u ≡ false
      → u.origin ≡ None) s.threads t (with_origin (trust_of s) made new) h.origins (settled_origin
      (trust_of s) made new);
  stand = λ e f. (let k = escape_none s.escape (is_escape (trust_of s) free old new) s.steps t
      new.rip f in
      each_set (λ u. u.live ≡ true
      → Stands (trust_of s) (code s) u) s.threads t (with_origin (trust_of s) made new) (h.stand
      e k.0) (λ l. st l e k.0 k.1));
  regs = each_set (λ u. length u.regs ≡ 16) s.threads t (with_origin (trust_of s) made new) h.regs
      regs;
  low = h.low;
  zeros = h.zeros;
}

-- the process ends
pub kept_ended : (s : State) (e : End) → IsKept s → IsKept (with_end e s)
kept_ended s e h = record {
  ruled = h.ruled;
  safe = h.safe;
  text = h.text;
  keys = h.keys;
  origins = h.origins;
  stand = λ n f. absurd cc;
  regs = h.regs;
  low = h.low;
  zeros = h.zeros;
}

-- what holds of a state and of its end holds where it ends with its last live thread
pub last_either : (P : State → Type 0) (status : ℕ) (s : State) → P s → P (with_end (Exit status) s)
    → P (with_last_end status s)
last_either P status s on off = by_live (any_live s.threads)
  where
    by_live : (live : Bool) → P (cond live s (with_end (Exit status) s))
    by_live true = on
    by_live false = off

kept_last : (status : ℕ) (s : State) → IsKept s → IsKept (with_last_end status s)
kept_last status s h = last_either IsKept status s h (kept_ended s (Exit status) h)

text_published : (s : State) → IsKept s → (q : ℕ) → in_text_of (trust_of s) (4096 * q) ≡ true
    → is_published (s.rights q) ≡ true
text_published s h q t = let k = h.text q t in rw k.mapped k.exec

-- a write that was allowed leaves published bytes
published_same : (s : State) (pkru : ℕ) (w : Option Write) (x : ℕ) → IsKept s
    → IsAllowed (whole s.rights) pkru w → is_published (s.rights (x / 4096)) ≡ true
    → bytes_after_write w s.bytes x ≡ s.bytes x
published_same s pkru w x h a p = sealed_same s.rights s.bytes pkru w x
    (published_sealed s.rights (x / 4096) (not_writable s h) p) a

-- so the code stays
code_after : (s : State) (pkru : ℕ) (w : Option Write) (x : ℕ) → IsKept s
    → IsAllowed (whole s.rights) pkru w
    → published_code s.rights (bytes_after_write w s.bytes) x ≡ code s x
code_after s pkru w x h a = code_same s.rights s.bytes (bytes_after_write w s.bytes) x
    (published_same s pkru w x h a)

pub kept_write : (s : State) (pkru : ℕ) (w : Option Write) → IsKept s
    → IsAllowed (whole s.rights) pkru w
    → IsKept (record s { bytes = bytes_after_write w s.bytes })
kept_write s pkru w h a =
    kept_frame s s.rights (bytes_after_write w s.bytes) s.keys s.blocks s.output h h.ruled
    (λ x. inl (code_after s pkru w x h a))
    (λ q t. (let k = h.text q t in record {
      held = k.held;
      mapped = k.mapped;
      exec = k.exec;
      asks = k.asks;
      key = k.key;
      same = λ x e. published_same s pkru w x h a
          (subst (λ (p : ℕ). is_published (s.rights p) ≡ true) (sym e) (text_published s h q t))
          ∙ k.same x e;
    }))
    h.keys (origins_same (published_code s.rights (bytes_after_write w s.bytes)) (code s) s.threads
    (λ x. code_after s pkru w x h a)) h.low
    (λ x n. sealed_same s.rights s.bytes pkru w x (unmapped_sealed (s.rights (x / 4096)) n) a
    ∙ h.zeros x n)

stands_on : (s : State) (w : Option Write) (t : Thread)
    → ((x : ℕ) → published_code s.rights (bytes_after_write w s.bytes) x ≡ code s x)
    → Stands (trust_of s) (code s) t
    → Stands (trust_of s) (published_code s.rights (bytes_after_write w s.bytes)) t
stands_on s w t f h = stands_same (trust_of s)
    (published_code s.rights (bytes_after_write w s.bytes)) (code s) t (λ o e q x low high. f x) h

-- what is known of the thread that runs
pub record IsRunning (s : State) (t : ℕ) (old : Thread) (insn : Insn) (len skip : ℕ) : Type 0 where
  pub at : slice_get s.threads t ≡ Some old
  pub live : old.live ≡ true
  pub runs : fetch (code s) old.rip ≡ Runs insn len skip

running_regs : (s : State) (t : ℕ) (old : Thread) → IsKept s → slice_get s.threads t ≡ Some old
    → length old.regs ≡ 16
running_regs s t old h at = each_at (λ u. length u.regs ≡ 16) s.threads t old h.regs at

running_stands : (s : State) (t : ℕ) (old : Thread) → IsKept s → slice_get s.threads t ≡ Some old
    → old.live ≡ true → s.end ≡ None → s.escape ≡ None → Stands (trust_of s) (code s) old
running_stands s t old h at live e g = each_at (λ u. u.live ≡ true
    → Stands (trust_of s) (code s) u) s.threads t old (h.stand e g) at live

-- an instruction that was done
pub kept_done : {N : ℕ → Type 0} → Decoder N
    → (s : State) (insn : Insn) (len skip t : ℕ) (old new : Thread) (w : Option Write)
    → EntriesIn (trust_of s) → OfState N s → IsKept s → IsRunning s t old insn len skip
    → effect (plan insn len old) (whole s.rights) s.bytes old.pkru old.rip ≡ Done new w
    → IsKept (after_instruction (Done new w) (record { insn = insn; len = len; skip = skip })
    (record { number = t; thread = old }) s)
kept_done {N} d s insn len skip t old new w ent of h run done =
    let next : State = record s { bytes = bytes_after_write w s.bytes } in
    let allowed = does_allowed (plan insn len old) (whole s.rights) s.bytes old.pkru old.rip new w
    done in
    let k = kept_write s old.pkru w h allowed in
    let regs = running_regs s t old h run.at in
    let goes = done_goes insn len old new w (whole s.rights) s.bytes old.pkru old.rip done in
    let same = λ (x : ℕ). code_after s old.pkru w x h allowed in
    kept_went next t old new (sequence_of (record { insn = insn; len = len; skip = skip }) old.rip)
    (writes_pkru insn old) k (goes.regs ∙ regs)
    (λ l e g esc. stands_on s w
    (with_origin (trust_of s) (sequence_of (record { insn = insn; len = len; skip = skip })
    old.rip) new) same
    (did_stands d (trust_of s) (code s) old new w insn len skip (whole s.rights) s.bytes old.pkru
    old.rip ent (code_kind N s of) h.safe (kept_low s h) regs
    (running_stands s t old h run.at run.live e g) run.runs done esc))

-- ---- publication

put_code : (rights : RightsMap) (bytes : ByteMap) (q : ℕ) (r : Rights) (x : ℕ)
    → published_code (with_value_at rights q (Some (published_rights r))) bytes x
    ≡ code_with rights bytes q x
put_code rights bytes q r x = elim (cases_Bool (eqb (x / 4096) q)) [
  | inl t ↦ rw t refl
  | inr f ↦
      rw f refl
]

put_grows : (rights : RightsMap) (bytes : ByteMap) (q : ℕ) (r : Rights) (x : ℕ)
    → is_some (published_code rights bytes x) ≡ true
    → published_code (with_value_at rights q (Some (published_rights r))) bytes x
    ≡ published_code rights bytes x
put_grows rights bytes q r x h = elim (cases_Bool (is_published (rights (x / 4096)))) [
  | inr f ↦ absurd (let z : false ≡ true = rw f at h in cc)
  | inl p ↦ elim (cases_Bool (eqb (x / 4096) q)) [ inl t ↦ rw (t, p) refl | inr f ↦ rw f refl ]
]

with_low : (s : State) (q : ℕ) → IsKept s → q < 2 ^ 35 → IsLow (code_with s.rights s.bytes q)
with_low s q h l a m =
    let p : 2 ^ 35 ≤ a / 4096 = omega arith in
    let n : a / 4096 ≢ q = λ e. absurd (omega (arith, e)) in
    rw (ne_eqb _ _ n, h.low (a / 4096) p) refl

-- rights that follow the rules
pub fresh_ruled : (asked key : ℕ) → asked < 8 → key < 16 → IsRuled (unpublished_rights asked key)
fresh_ruled asked key low few =
    record {
      sealed = λ f. absurd cc;
      exec = λ f. absurd cc;
      read = refl;
      write = λ _. refl;
      sound = (few, low);
    }

pub published_ruled : (r : Rights) → IsRuled r → asks_exec r.asked ≡ true
    → IsRuled (published_rights r)
published_ruled r h a = record {
  sealed = λ _. refl;
  exec = λ _. a;
  read = h.read;
  write = λ f.
      absurd cc;
  sound = h.sound;
}

pub kept_judged : (o : Option Found) (q : ℕ) (r : Rights) (t : Runner) (s : State) → IsKept s
    → s.rights q ≡ Some r → q < 2 ^ 35 → asks_exec r.asked ≡ true
    → o ≡ first_unsafe (image_trust s.setup.image) (code_with s.rights s.bytes q)
    → IsKept (after_verdict o q r t s)
kept_judged (Some first) q r t s h m l a e = kept_ended s (Refused q first t.number) h
kept_judged None q r t s h m l a e =
    let rights : RightsMap = with_value_at s.rights q (Some (published_rights r)) in
    let safe = first_none (image_trust s.setup.image) (code_with s.rights s.bytes q)
    (with_low s q h l) (sym e) in
    record {
      ruled = λ p x k. elim (cases_Bool (eqb p q)) [
        | inl y ↦ (let z = some_same (published_rights r) x (rw y at k) in
            subst IsRuled z (published_ruled r (h.ruled q r m) a))
        | inr n ↦ h.ruled p x (rw n at k)
      ];
      safe = λ a. unsafe_loses (image_trust s.setup.image) (published_code rights s.bytes)
          (code_with s.rights s.bytes q) a (λ x. inl (put_code s.rights s.bytes q r x)) (safe a);
      text = λ p y. (let k = h.text p y in elim (cases_Bool (eqb p q)) [
        | inr n ↦ record {
          held = k.held;
          mapped = rw n k.mapped;
          exec = k.exec;
          asks = k.asks;
          key = k.key;
          same = k.same;
        }
        | inl z ↦
            (let w : p ≡ q = eqb-true _ _ z in
            let v : Some k.held ≡ Some r = sym k.mapped ∙ ap s.rights w ∙ m in
            let u : k.held ≡ r = cc in
            record {
              held = published_rights r;
              mapped = rw z refl;
              exec = refl;
              asks = ap (λ (x : Rights). asks_write x.asked) (sym u) ∙ k.asks;
              key = ap (λ (x : Rights). x.key) (sym u) ∙ k.key;
              same = k.same;
            })
      ]);
      keys = h.keys;
      origins = h.origins;
      stand = λ n f. each_grown (trust_of s) (published_code rights s.bytes) (code s) s.threads
          (λ x p. put_grows s.rights s.bytes q r x p) (h.stand n f);
      regs = h.regs;
      low = λ p y. (let n : p ≢ q = λ z. absurd (omega (arith, z)) in
          rw (ne_eqb _ _ n) (h.low p y));
      zeros = λ x n. elim (cases_Bool (eqb (x / 4096) q)) [
        | inl y ↦ absurd (let z : Some (published_rights r) ≡ None = rw y at n in cc)
        | inr y ↦ h.zeros x (rw y at n)
      ];
    }

pub kept_fault : (o : Option Rights) (x : ℕ) (t : Runner) (s : State) → IsKept s
    → s.rights (x / 4096) ≡ o → IsKept (after_exec_fault o x t s)
kept_fault None x t s h e = kept_ended s (EndFault t.number t.thread.rip Exec x) h
kept_fault (Some r) x t s h e = elim (cases_Bool (asks_exec r.asked && ltb (x / 4096) (2 ^ 35))) [
  | inl k ↦
      (let p = and_parts _ _ k in
      rw k (kept_judged (first_unsafe (image_trust s.setup.image)
      (code_with s.rights s.bytes (x / 4096))) (x / 4096) r t s h e (ltb-true _ _
      p.1) p.0 refl))
  | inr k ↦ rw k (kept_ended s (EndFault t.number t.thread.rip Exec x) h)
]

-- ---- write faults

back_ruled : (r : Rights) → IsRuled r → asks_write r.asked ≡ true → IsRuled (taken_back_rights r)
back_ruled r h a = record {
  sealed = λ f. absurd cc;
  exec = λ f. absurd cc;
  read = h.read;
  write = λ _. sym a;
  sound = h.sound;
}

-- a page that isn't pinned takes its publication back
pub kept_back : (s : State) (q : ℕ) (r : Rights) → IsKept s → s.rights q ≡ Some r
    → asks_write r.asked ≡ true → is_pinned s.threads q ≡ false
    → IsKept (record s { rights = with_value_at s.rights q (Some (taken_back_rights r)) })
kept_back s q r h m a free =
    let rights : RightsMap = with_value_at s.rights q (Some (taken_back_rights r)) in
    kept_frame s rights s.bytes s.keys s.blocks s.output h
    (λ p x k. elim (cases_Bool (eqb p q)) [
      | inl y ↦ subst IsRuled (some_same (taken_back_rights r) x (rw y at k))
          (back_ruled r (h.ruled q r m) a)
      | inr n ↦ h.ruled p x (rw n at k)
    ])
    (λ x. elim (cases_Bool (eqb (x / 4096) q)) [
      | inl y ↦ inr (rw y refl)
      | inr n ↦ inl (rw n refl)
    ])
    (λ p y. (let k = h.text p y in
    let other : eqb p q ≡ false = elim (cases_Bool (eqb p q)) [
      | inr n ↦ n
      | inl z ↦ absurd (let w : p ≡ q = eqb-true _ _ z in
          let v : Some k.held ≡ Some r = sym k.mapped ∙ ap s.rights w ∙ m in
          let u : k.held ≡ r = cc in
          let t : false ≡ true = sym k.asks ∙ ap (λ (x : Rights). asks_write x.asked) u ∙ a in
          cc)
    ] in
    record {
      held = k.held;
      mapped = rw other k.mapped;
      exec = k.exec;
      asks = k.asks;
      key = k.key;
      same = k.same;
    }))
    h.keys
    (origins_unpinned (published_code rights s.bytes) (code s) s.threads
    (λ x. elim (cases_Bool (eqb (x / 4096) q)) [
      | inl y ↦ (let e : x / 4096 ≡ q = eqb-true _ _ y in inr (rw e free))
      | inr n ↦ inl (rw n refl)
    ]))
    (λ p y. elim (cases_Bool (eqb p q)) [
      | inr n ↦ rw n (h.low p y)
      | inl z ↦ absurd (let w : p ≡ q = eqb-true _ _ z in
          let v : None ≡ Some r = sym (h.low p y) ∙ ap s.rights w ∙ m in cc)
    ])
    (λ x n. elim (cases_Bool (eqb (x / 4096) q)) [
      | inl y ↦ absurd (let z : Some (taken_back_rights r) ≡ None = rw y at n in cc)
      | inr y ↦ h.zeros x (rw y at n)
    ])

-- an access that stops keeps all
pub kept_stop : (a : Access) (t : ℕ) (old : Thread) (s : State) → IsKept s
    → IsKept (after_stop a (record { number = t; thread = old }) s)
kept_stop a t old s h =
    stop_either IsKept a (record { number = t; thread = old }) s (ended a)
    (λ x e. write_either IsKept (s.rights (x / 4096)) x (record { number = t; thread = old }) s
    (kept_ended s (EndFault t old.rip WriteCause x) h) h
    (λ r m w free. kept_back s (x / 4096) r h m
    (and_parts (asks_write r.asked) _ (and_parts r.exec _ w).1).0 free))
  where
    ended : (a : Access) → IsKept (after_fault a (record { number = t; thread = old }) s)
    ended (Fault cause x) = kept_ended s (EndFault t old.rip cause x) h
    ended (Missing q) = h

-- ---- system calls

-- a thread u that the thread t makes by clone: it has what t has, but for numbers in its registers
pub record IsCopy (t u : Thread) : Type 0 where
  pub call : register t 0 ≡ 56
  pub regs : length u.regs ≡ length t.regs
  pub rip : u.rip ≡ t.rip
  pub pkru : u.pkru ≡ t.pkru
  pub origin : u.origin ≡ t.origin
  pub live : u.live ≡ t.live

-- what a call may change, so that all is kept; where bytes are of the kind N the state's stay so
pub record IsFine (N : ℕ → Type 0) (s : State) (t : Thread) (c : Change) : Type 0 where
  pub ruled : (q : ℕ) (r : Rights) → c.rights q ≡ Some r → IsRuled r
  pub loses : Loses (published_code c.rights c.bytes) (code s)
  pub text : (q : ℕ) → in_text_of (trust_of s) (4096 * q) ≡ true
      → KeepsText s.setup c.rights c.bytes q
  pub keys : HasTaken (trust_of s) c.keys
  pub origins : KeepsOrigins (published_code c.rights c.bytes) (code s) s.threads
  pub low : (q : ℕ) → 2 ^ 35 ≤ q → c.rights q ≡ None
  pub zeros : (a : ℕ) → c.rights (a / 4096) ≡ None → c.bytes a ≡ 0
  pub pkru : opened_domains (trust_of s) c.pkru ≡ opened_domains (trust_of s) t.pkru
  pub made : (u : Thread) → c.clone ≡ Some u → IsCopy t u
  pub kind : ((x : ℕ) → x < 256 → N x) → OfState N s → (a : ℕ) → N (c.bytes a)

-- a copy stands outside trusted text where the thread itself does
pub copy_outside : (trust : TrustValue) (t u : Thread) → IsCopy t u
    → is_outside trust u ≡ is_outside trust t
copy_outside trust t u h = rw (h.rip, h.pkru) refl

-- every call is fine
abbrev pub AllFine : (ℕ → Type 0) → Type 0
AllFine N = (s : State) (v number : ℕ) (t : Thread) (c : Change) → IsKept s
    → call_result s number t ≡ Answer v c → IsFine N s t c

kept_changed : {N : ℕ → Type 0} (s : State) (t : Thread) (c : Change) → IsKept s → IsFine N s t c
    → IsKept (with_change c s)
kept_changed s t c h f =
    kept_frame s c.rights c.bytes c.keys c.blocks c.output h f.ruled f.loses f.text f.keys f.origins
    f.low f.zeros

kept_made : (s : State) (u : Thread) → IsKept s → length u.regs ≡ 16
    → (s.end ≡ None → s.escape ≡ None → is_outside (trust_of s) u ≡ false)
    → IsKept (with_new_thread (Some u) s)
kept_made s u h regs st = record {
  ruled = h.ruled;
  safe = h.safe;
  text = h.text;
  keys = h.keys;
  origins = each_append (λ v. is_outside (trust_of s) v ≡ false
      → v.origin ≡ None) s.threads (with_origin (trust_of s) None u) h.origins (settled_origin
      (trust_of s) None u);
  stand = λ e f. each_append (λ v. v.live ≡ true
      → Stands (trust_of s) (code s) v) s.threads (with_origin (trust_of s) None u) (h.stand e
      f) (λ l. stands_in (trust_of s) (code s) None u (st e f));
  regs = each_append (λ v. length v.regs ≡ 16) s.threads (with_origin (trust_of s) None u) h.regs
      regs;
  low = h.low;
  zeros = h.zeros;
}

kept_quit : (s : State) (t : ℕ) (old new : Thread) (status : ℕ) → IsKept s → length new.regs ≡ 16
    → IsKept (with_end (Exit status)
    (after_move (record {
      runner = record { number = t; thread = old };
      after = new;
      executed = None;
      free = false;
    }) s))
kept_quit s t old new status h regs = record {
  ruled = h.ruled;
  safe = h.safe;
  text = h.text;
  keys = h.keys;
  origins = each_set (λ u. is_outside (trust_of s) u ≡ false
      → u.origin ≡ None) s.threads t (with_origin (trust_of s) None new) h.origins (settled_origin
      (trust_of s) None new);
  stand = λ e f. absurd cc;
  regs = each_set (λ u. length u.regs ≡ 16) s.threads t (with_origin (trust_of s) None new) h.regs
      regs;
  low = h.low;
  zeros = h.zeros;
}

pub entered_zero : (len : ℕ) (t : Thread) → register (after_syscall len t) 0 ≡ register t 0
entered_zero len t =
    let a : 0 ≢ 11 = omega arith in
    let b : 0 ≢ 1 = omega arith in
    get_or-set_other (slice_set t.regs 1 (onward len t).rip) 11 0 (flags_word t.flags) 0 a
    ∙ get_or-set_other t.regs 1 0 (onward len t).rip 0 b

pub entered_regs : (len : ℕ) (t : Thread) → length (after_syscall len t).regs ≡ length t.regs
entered_regs len t = length-set (slice_set t.regs 1 (onward len t).rip) 11 (flags_word t.flags)
    ∙ length-set t.regs 1 (onward len t).rip

-- the caller of a call that isn't exit_group isn't out, unless it escaped
abbrev CallerIn : State → Thread → Thread → Type 0
CallerIn s old new = s.end ≡ None → s.escape ≡ None → is_escape (trust_of s) false old new ≡ false
    → is_outside (trust_of s) new ≡ false

made_kept : (s : State) (o : Option Thread) → IsKept s
    → ((u : Thread) → o ≡ Some u → length u.regs ≡ 16)
    → ((u : Thread) → o ≡ Some u → s.end ≡ None → s.escape ≡ None
    → is_outside (trust_of s) u ≡ false) → IsKept (with_new_thread o s)
made_kept s None h regs st = h
made_kept s (Some u) h regs st = kept_made s u h (regs u refl) (st u refl)

kept_answer : {N : ℕ → Type 0} (s : State) (t v : ℕ) (c : Change) (old new : Thread) → IsKept s
    → IsFine N s new c → length new.regs ≡ 16
    → opened_domains (trust_of s) new.pkru ≡ opened_domains (trust_of s) old.pkru
    → ((u : Thread) → opened_domains (trust_of s) u.pkru ≡ opened_domains (trust_of s) old.pkru
    → CallerIn s old u)
    → IsKept (after_call (Answer v c) (record { number = t; thread = old }) new s)
kept_answer s t v c old new h f regs p call =
    let k = kept_changed s new c h f in
    let same : is_outside (trust_of s) (caller_after v c new) ≡ is_outside (trust_of s) new =
    ap (is_set_but (text_key (trust_of s) new.rip)) f.pkru in
    let inside : CallerIn s old (caller_after v c new) = call (caller_after v c new) (f.pkru ∙ p) in
    let on = kept_went (with_change c s) t old (caller_after v c new) None false k
    (length-set new.regs 0 v ∙ regs)
    (λ l e g esc. stands_in (trust_of s) (published_code c.rights c.bytes) None
    (caller_after v c new) (inside e g esc)) in
    made_kept (after_move (record {
      runner = record { number = t; thread = old };
      after = (caller_after v c new);
      executed = None;
      free =
          false;
    }) (with_change c s)) c.clone on
    (λ u e. (f.made u e).regs ∙ regs)
    (λ u e n g. (let k = escape_none s.escape
    (is_escape (trust_of s) false old (caller_after v c new)) s.steps t
    (caller_after v c new).rip g in
    copy_outside (trust_of s) new u (f.made u e) ∙ sym same ∙ inside n k.0 k.1))

-- after the end of a thread
abbrev pub ended_thread : ℕ → Thread → Thread → State → State
ended_thread t old new s = after_move (record {
  runner = record { number = t; thread = old };
  after = record new { live = false };
  executed = None;
  free = false;
}) s

kept_replied : {N : ℕ → Type 0} (s : State) (t : ℕ) (r : CallResult) (old new : Thread) → IsKept s
    → length new.regs ≡ 16
    → opened_domains (trust_of s) new.pkru ≡ opened_domains (trust_of s) old.pkru
    → ((v : ℕ) (c : Change) → r ≡ Answer v c → IsFine N s new c)
    → (((x : ℕ) → r ≢ Quit x) → (u : Thread)
    → opened_domains (trust_of s) u.pkru ≡ opened_domains (trust_of s) old.pkru → CallerIn s old u)
    → IsKept (after_call r (record { number = t; thread = old }) new s)
kept_replied s t (Refusal e) old new h regs p fine call =
    kept_went s t old (with_register new 0 (2 ^ 64 - e)) None false h
    (length-set new.regs 0 (2 ^ 64 - e)
    ∙ regs)
    (λ l n g esc. stands_in (trust_of s) (code s) None (with_register new 0 (2 ^ 64 - e))
    (call (λ x y. absurd cc) (with_register new 0 (2 ^ 64 - e)) p n g esc))
kept_replied s t (Answer v c) old new h regs p fine call =
    kept_answer s t v c old new h (fine v c refl) regs p (call (λ x y. absurd cc))
kept_replied s t (ThreadEnd status) old new h regs p fine call =
    kept_last status (ended_thread t old new s)
    (kept_went s t old (record new { live = false }) None false h regs (λ l. absurd cc))
kept_replied s t (Quit status) old new h regs p fine call = kept_quit s t old new status h regs

pub reply_quit : (s : State) (number : ℕ) (t : Thread) → register t 0 ≡ 231
    → call_result s number t ≡ Quit (register t 7 % 256)
unfolding call_result
reply_quit s number t e = rw e refl

-- a system call
pub kept_called : {N : ℕ → Type 0} → Decoder N
    → (s : State) (insn : Insn) (len skip t : ℕ) (old : Thread) → OfState N s → IsKept s
    → IsRunning s t old insn len skip
    → effect (plan insn len old) (whole s.rights) s.bytes old.pkru old.rip ≡ Called
    → ((v : ℕ) (c : Change) → call_result s t (after_syscall len old) ≡ Answer v c
    → IsFine N s (after_syscall len old) c)
    → IsKept (after_instruction Called (record { insn = insn; len = len; skip = skip })
    (record { number = t; thread = old }) s)
kept_called {N} d s insn len skip t old of h run called fine =
    let regs = running_regs s t old h run.at in
    kept_replied s t (call_result s t (after_syscall len old)) old (after_syscall len old) h
    (entered_regs len old ∙ regs) refl fine
    (λ n u p e g esc.
    called_stands d (trust_of s) (code s) old u insn len skip (whole s.rights) s.bytes old.pkru
    old.rip (code_kind N s of) h.safe (running_stands s t old h run.at run.live e g) run.runs
    called
    (λ q. n (register (after_syscall len old) 7 % 256)
    (reply_quit s t (after_syscall len old) (entered_zero len old ∙ q))) p esc)

-- ---- a step

kept_did : {N : ℕ → Type 0} → Decoder N → AllFine N
    → (s : State) (r : Effect) (insn : Insn) (len skip t : ℕ) (old : Thread)
    → EntriesIn (trust_of s) → OfState N s → IsKept s → IsRunning s t old insn len skip
    → effect (plan insn len old) (whole s.rights) s.bytes old.pkru old.rip ≡ r
    → IsKept (after_instruction r (record { insn = insn; len = len; skip = skip })
    (record { number = t; thread = old }) s)
kept_did d a s (Done new w) insn len skip t old ent of h run e =
    kept_done d s insn len skip t old new w ent of h run e
kept_did d a s (Stopped x) insn len skip t old ent of h run e = kept_stop x t old s h
kept_did d a s Called insn len skip t old ent of h run e =
    kept_called d s insn len skip t old of h run e (λ v c k. a s v t (after_syscall len old) c h k)

kept_moved : {N : ℕ → Type 0} → Decoder N → AllFine N
    → (s : State) (x : FetchOutcome) (t : ℕ) (old : Thread) → EntriesIn (trust_of s) → OfState N s
    → IsKept s → slice_get s.threads t ≡ Some old → old.live ≡ true → fetch (code s) old.rip ≡ x
    → IsKept (after_fetch x (record { number = t; thread = old }) s)
kept_moved d a s (Runs insn len skip) t old ent of h at live f =
    kept_did d a s (effect (plan insn len old) (whole s.rights) s.bytes old.pkru old.rip) insn len
    skip t old ent of h (record { at = at; live = live; runs = f }) refl
kept_moved d a s (Need x) t old ent of h at live f =
    kept_fault (s.rights (x / 4096)) x (record { number = t; thread = old }) s h refl
kept_moved d a s Wrong t old ent of h at live f =
    kept_ended s (EndFault t old.rip UndefinedCause old.rip) h

-- a step is counted
pub kept_later : (s : State) → IsKept s → IsKept (record s { steps = s.steps + 1 })
kept_later s h = record {
  ruled = h.ruled;
  safe = h.safe;
  text = h.text;
  keys = h.keys;
  origins = h.origins;
  stand = h.stand;
  regs = h.regs;
  low = h.low;
  zeros = h.zeros;
}

live_is : (o : Option Thread) (t : Thread) → if_live o ≡ Some t → (o ≡ Some t) × (t.live ≡ true)
live_is None t e = absurd cc
live_is (Some u) t e =
    let k = cond_some u.live (Some u) t e in
    let w = k.1 in
    let z : u ≡ t = cc in
    (w, subst (λ (v : Thread). v.live ≡ true) z k.0)

-- the thread that runs is one of the state's, and live
pub runner_is : (s : State) (t : ℕ) (old : Thread) → ready_thread s t ≡ Some old
    → (slice_get s.threads t ≡ Some old) × (old.live ≡ true)
runner_is s t old e = live_is (slice_get s.threads t) old (cond_some (is_none s.end
    && ltb s.steps s.setup.budget) (if_live (slice_get s.threads t)) old e).1

kept_by : {N : ℕ → Type 0} → Decoder N → AllFine N → (o : Option Thread) (t : ℕ) (s new : State)
    → EntriesIn (trust_of s) → OfState N s → IsKept s
    → ((old : Thread) → o ≡ Some old → (slice_get s.threads t ≡ Some old) × (old.live ≡ true))
    → after_step_of o t s ≡ Some new → IsKept new
kept_by d a None t s new ent of h r e = absurd cc
kept_by d a (Some old) t s new ent of h r e =
    let k = kept_moved d a (record s { steps = s.steps + 1 }) (fetch (code s) old.rip) t old ent of
    (kept_later s h) (r old refl).0 (r old refl).1 refl in
    subst IsKept (some_same (after_fetch (fetch (code s) old.rip)
    (record { number = t; thread = old }) (record s { steps = s.steps + 1 })) new e) k

-- a step keeps the invariant
pub kept_step : {N : ℕ → Type 0} → Decoder N → AllFine N → (t : ℕ) (s new : State)
    → EntriesIn (trust_of s) → OfState N s → IsKept s → step t s ≡ Some new → IsKept new
unfolding step
kept_step d a t s new ent of h e =
    kept_by d a (ready_thread s t) t s new ent of h (λ old k. runner_is s t old k) e

-- A page is published at an exec fault with an empty unsafe list alone, and refused for the list's
-- first element.
use Rattle.std.proofs.Common.{◌≡◌, ◌<◌, ◌+◌, ◌*◌, ◌/◌, ◌^◌, ◌++◌, ◌&&◌, ℕ, zero, suc, List, [], ◌∷◌}
use Rattle.std.proofs.Common.{Option, Some, None, true, false, cond, eqb, ltb, refl, sym, ap, subst}
use Rattle.std.proofs.Common.{◌∙◌, arith, inl, inr, eqb-true, eq-eqb, lt-ltb}
use Rattle.std.proofs.lemmas.Bool.{cases_Bool, cases_lt, and_parts, and_from}
use Rattle.erim_defs.specs.declared.found.Found.{Found}
use Rattle.erim_defs.specs.declared.machine.Rights.{Rights}
use Rattle.erim_defs.specs.declared.machine.Thread.{Thread}
use Rattle.erim_defs.specs.declared.machine.End.{End}
use Rattle.erim_defs.specs.declared.machine.End.TheVariants.{Fault as EndFault, Refused}
use Rattle.erim_defs.specs.declared.machine.Cause.TheVariants.{Exec}
use Rattle.erim_defs.specs.declared.machine.Access.TheVariants.{Fault, Missing}
use Rattle.erim_defs.specs.declared.insn.Insn.{Insn}
use Rattle.erim_defs.specs.declared.insn.FetchOutcome.{FetchOutcome}
use Rattle.erim_defs.specs.declared.insn.FetchOutcome.TheVariants.{Runs, Need, Wrong}
use Rattle.erim_defs.specs.Inspection.Code.{Code, or_else}
use Rattle.erim_defs.specs.Machine.Pages.{RightsMap, code_with, is_published, published_code}
use Rattle.erim_defs.specs.Machine.Pages.{with_value_at, asks_exec, published_rights}
use Rattle.erim_defs.specs.Machine.Access.{whole}
use Rattle.erim_defs.specs.Inspection.Safe.{unsafe_at}
use Rattle.erim_defs.specs.Inspection.Unsafe.{first_below, first_unsafe, list_below, option_list}
use Rattle.erim_defs.specs.Inspection.Unsafe.{top, unsafe_list}
use Rattle.erim_defs.specs.Inspection.Image.{image_trust}
use Rattle.erim_defs.specs.Machine.Plan.{Effect, Done, Stopped, Called, effect}
use Rattle.erim_defs.specs.Machine.Meaning.{plan}
use Rattle.erim_defs.specs.Machine.State.{State, code}
use Rattle.erim_defs.specs.Machine.CallResult.{Change, Refusal, Answer, ThreadEnd, Quit}
use Rattle.erim_defs.specs.Machine.CallResult.{CallResult}
use Rattle.erim_defs.specs.Machine.Calls.{call_result}
use Rattle.erim_defs.specs.Machine.Step.{after_move, after_instruction, after_call, after_fetch}
use Rattle.erim_defs.specs.Machine.Step.{with_new_thread, caller_after, with_change, after_syscall}
use Rattle.erim_defs.specs.Machine.Step.{with_end, after_verdict, after_exec_fault, fetch, Runner}
use Rattle.erim_defs.specs.Machine.Isolation.{IsKept}
use Rattle.erim_defs.specs.Machine.Lawful.{IsPublication, IsRefusal}
use Rattle.isolation.specs.Laws.{PublishLaw, RefuseLaw}
use Rattle.isolation.proofs.KeptLemmas.{IsFine, kept_later, ended_thread, last_either}
use Rattle.erim_defs.proofs.WriteFaultLemmas.{stop_either, write_either}
use Rattle.erim_defs.specs.declared.machine.Access.{Access}
use Rattle.erim_defs.specs.Machine.Step.{after_fault, after_stop}
use Rattle.isolation.proofs.CallLemmas.{all_fine}
use Rattle.isolation.proofs.GrammarFacts.{Known}
use Rattle.isolation.proofs.RunLemmas.{run_good, step_moves}
use Rattle.erim_defs.specs.Inspection.Trust.{TrustValue}

-- ---- the unsafe list and its first element

abbrev first_of : {X : Type 0} → List X → Option X
first_of [] = None
first_of (x ∷ xs) = Some x

first_append : {X : Type 0} (xs ys : List X)
    → first_of (xs ++ ys) ≡ or_else (first_of xs) (first_of ys)
first_append [] ys = refl
first_append (x ∷ xs) ys = refl

first_listed : {X : Type 0} (o : Option X) → first_of (option_list o) ≡ o
first_listed None = refl
first_listed (Some x) = refl

first_is_below : {X : Type 0} (n : ℕ) (f : ℕ → Option X)
    → first_of (list_below n f) ≡ first_below n f
unfolding list_below first_below
first_is_below zero f = refl
first_is_below (suc n) f = first_append (list_below n f) (option_list (f n))
    ∙ ap (λ o. or_else o (first_of (option_list (f n)))) (first_is_below n f)
    ∙ ap (or_else (first_below n f)) (first_listed (f n))

first_is : (trust : TrustValue) (c : Code) → first_of (unsafe_list trust c) ≡ first_unsafe trust c
unfolding unsafe_list first_unsafe
first_is trust c = first_is_below top (unsafe_at trust c)

empty_of : {X : Type 0} (xs : List X) → first_of xs ≡ None → xs ≡ []
empty_of [] e = refl
empty_of (x ∷ xs) e = absurd cc

begins_of : {X : Type 0} (xs : List X) (y : X) → first_of xs ≡ Some y
    → (rest : List X) × (xs ≡ y ∷ rest)
begins_of [] y e = absurd cc
begins_of (x ∷ xs) y e = let z : x ≡ y = cc in (xs, ap (λ (w : _). w ∷ xs) z)

-- ---- publication

same_published : (o : Option Rights) → is_published o ≡ false → is_published o ≡ true → ⊥
same_published o f g = let z : false ≡ true = sym f ∙ g in cc

judged_publishes : (u : Option Found) (p q : ℕ) (r : Rights) (t : Runner) (s : State)
    → is_published (s.rights q) ≡ false → is_published ((after_verdict u p r t s).rights q) ≡ true
    → (p ≡ q) × (u ≡ None)
judged_publishes (Some y) p q r t s f g = absurd (same_published (s.rights q) f g)
judged_publishes None p q r t s f g = elim (cases_Bool (eqb q p)) [
  | inl e ↦ (sym (eqb-true _ _ e), refl)
  | inr e ↦ absurd (same_published (s.rights q) f (rw e at g))
]

fault_publishes : (o : Option Rights) (s : State) (old : Thread) (t x q : ℕ)
    → s.rights (x / 4096) ≡ o → fetch (code s) old.rip ≡ Need x → is_published (s.rights q) ≡ false
    → is_published ((after_exec_fault o x (record { number = t; thread = old })
    (record s { steps = s.steps + 1 })).rights q) ≡ true → IsPublication s q old
fault_publishes None s old t x q m e f g = absurd (same_published (s.rights q) f g)
fault_publishes (Some r) s old t x q m e f g =
    elim (cases_Bool (asks_exec r.asked && ltb (x / 4096) (2 ^ 35))) [
      | inr k ↦ absurd (same_published (s.rights q) f (rw k at g))
      | inl k ↦
          (let j = judged_publishes
          (first_unsafe (image_trust s.setup.image) (code_with s.rights s.bytes (x / 4096)))
          (x / 4096) q r (record { number = t; thread = old }) (record s { steps = s.steps + 1 }) f
          (rw k at g) in
          let same : x / 4096 ≡ q = j.0 in
          let none : first_unsafe (image_trust s.setup.image) (code_with s.rights s.bytes q)
          ≡ None =
          ap (λ p. first_unsafe (image_trust s.setup.image) (code_with s.rights s.bytes p))
          (sym same) ∙ j.1 in
          record {
            x = x;
            rights = r;
            needs = e;
            page = same;
            mapped = ap s.rights (sym same) ∙ m;
            asks = (and_parts _ _ k).0;
            safe = empty_of (unsafe_list (image_trust s.setup.image) (code_with s.rights s.bytes q))
                (first_is (image_trust s.setup.image) (code_with s.rights s.bytes q) ∙ none);
          })
    ]

-- no call publishes
call_publishes : (s : State) (t : Thread) (c : Change) (q : ℕ) → IsFine Known s t c
    → is_published (s.rights q) ≡ false → is_published (c.rights q) ≡ true → ⊥
call_publishes s t c q h f g =
    let e : 4096 * q / 4096 ≡ q = omega arith in
    let before : is_published (s.rights (4096 * q / 4096)) ≡ false =
    subst (λ (p : ℕ). is_published (s.rights p) ≡ false) (sym e) f in
    let after : is_published (c.rights (4096 * q / 4096)) ≡ true =
    subst (λ (p : ℕ). is_published (c.rights p) ≡ true) (sym e) g in
    let x : published_code c.rights c.bytes (4096 * q) ≡ Some (c.bytes (4096 * q)) =
    rw after refl in
    let y : code s (4096 * q) ≡ None = rw before refl in
    elim (h.loses (4096 * q)) [
      | inl z ↦ absurd (let k : Some (c.bytes (4096 * q)) ≡ None = sym x ∙ z ∙ y in cc)
      | inr z ↦ absurd (let k : Some (c.bytes (4096 * q)) ≡ None = sym x ∙ z in cc)
    ]

made_rights : (o : Option Thread) (s : State) → (with_new_thread o s).rights ≡ s.rights
made_rights None s = refl
made_rights (Some u) s = refl

replied_publishes : (r : CallResult) (t q : ℕ) (old new : Thread) (s : State)
    → ((v : ℕ) (c : Change) → r ≡ Answer v c → IsFine Known s new c)
    → is_published (s.rights q) ≡ false
    → is_published ((after_call r (record { number = t; thread = old }) new s).rights q) ≡ true → ⊥
replied_publishes (Refusal e) t q old new s h f g = same_published (s.rights q) f g
replied_publishes (Answer v c) t q old new s h f g =
    call_publishes s new c q (h v c refl) f
    (ap (λ (m : RightsMap). is_published (m q))
    (sym (made_rights c.clone
    (after_move (record {
      runner = record { number = t; thread = old };
      after = (caller_after v c new);
      executed = None;
      free = false;
    }) (with_change c s)))) ∙ g)
replied_publishes (ThreadEnd n) t q old new s h f g =
    let same = last_either (λ (x : State). x.rights ≡ s.rights) n (ended_thread t old new s) refl
    refl in
    same_published (s.rights q) f (ap (λ (m : RightsMap). is_published (m q)) (sym same) ∙ g)
replied_publishes (Quit n) t q old new s h f g = same_published (s.rights q) f g

-- an access that stops publishes nothing
stop_published : (a : Access) (r : Runner) (s : State) (q : ℕ) → is_published (s.rights q) ≡ false
    → is_published ((after_stop a r s).rights q) ≡ true → is_published (s.rights q) ≡ true
stop_published a r s q off = stop_either (λ x. is_published (x.rights q) ≡ true
    → is_published (s.rights q) ≡ true) a r s (ended a)
    (λ x e. write_either (λ y. is_published (y.rights q) ≡ true → is_published (s.rights q) ≡ true)
    (s.rights (x / 4096)) x r s (λ k. k) (λ k. k)
    (λ y m w free k. elim (cases_Bool (eqb q (x / 4096))) [
      | inl e ↦ absurd (let z : false ≡ true = rw e at k in cc)
      | inr n ↦ rw n at k
    ]))
  where
    ended : (a : Access) → is_published ((after_fault a r s).rights q) ≡ true
        → is_published (s.rights q) ≡ true
    ended (Fault cause x) k = k
    ended (Missing x) k = k

-- nor refuses
stop_refused : (a : Access) (r : Runner) (s : State) (q : ℕ) (found : Found) (u : ℕ)
    → s.end ≡ None → (after_stop a r s).end ≡ Some (Refused q found u) → ⊥
stop_refused a r s q found u none = stop_either (λ x. x.end ≡ Some (Refused q found u) → ⊥) a r s
    (ended a)
    (λ x e. write_either (λ y. y.end ≡ Some (Refused q found u) → ⊥) (s.rights (x / 4096)) x r s
    (λ k. absurd cc) (no_end s none) (λ y m w free. no_end s none))
  where
    no_end : (y : State) → y.end ≡ None → y.end ≡ Some (Refused q found u) → ⊥
    no_end y n k = absurd (let z : None ≡ Some (Refused q found u) = sym n ∙ k in cc)

    ended : (a : Access) → (after_fault a r s).end ≡ Some (Refused q found u) → ⊥
    ended (Fault cause x) k = absurd cc
    ended (Missing x) k = no_end s none k

did_publishes : (r : Effect) (insn : Insn) (len skip t q : ℕ) (old : Thread) (s : State) → IsKept s
    → is_published (s.rights q) ≡ false
    → is_published ((after_instruction r (record { insn = insn; len = len; skip = skip })
    (record { number = t; thread = old }) s).rights q) ≡ true → ⊥
did_publishes (Done new w) insn len skip t q old s h f g = same_published (s.rights q) f g
did_publishes (Stopped x) insn len skip t q old s h f g =
    same_published (s.rights q) f (stop_published x (record { number = t; thread = old }) s q f g)
did_publishes Called insn len skip t q old s h f g =
    replied_publishes (call_result s t (after_syscall len old)) t q old (after_syscall len old) s
    (λ v c k. all_fine Known s v t (after_syscall len old) c h k) f g

moved_publishes : (y : FetchOutcome) (s : State) (t q : ℕ) (old : Thread) → IsKept s
    → fetch (code s) old.rip ≡ y → is_published (s.rights q) ≡ false
    → is_published ((after_fetch y (record { number = t; thread = old })
    (record s { steps = s.steps + 1 })).rights q) ≡ true
    → IsPublication s q old
moved_publishes (Runs insn len skip) s t q old h e f g =
    absurd (did_publishes (effect (plan insn len old) (whole s.rights) s.bytes old.pkru old.rip)
    insn len skip t q old (record s { steps = s.steps + 1 }) (kept_later s h) f g)
moved_publishes Wrong s t q old h e f g = absurd (same_published (s.rights q) f g)
moved_publishes (Need x) s t q old h e f g =
    fault_publishes (s.rights (x / 4096)) s old t x q refl e f g

low_page : (s : State) (q : ℕ) (r : Rights) → IsKept s → s.rights q ≡ Some r → q < 2 ^ 35
low_page s q r h m = elim (cases_lt q (2 ^ 35)) [
  | inl l ↦ l
  | inr l ↦
      absurd (let k : None ≡ Some r = sym (h.low q l) ∙ m in cc)
]

-- what becomes of an exec fault on a page that asks PROT_EXEC
faulted : (s : State) (t x q : ℕ) (r : Rights) (old : Thread) (o : Option Found) → IsKept s
    → fetch (code s) old.rip ≡ Need x → x / 4096 ≡ q → s.rights q ≡ Some r
    → asks_exec r.asked ≡ true
    → first_unsafe (image_trust s.setup.image) (code_with s.rights s.bytes q) ≡ o
    → after_fetch (fetch (code s) old.rip) (record { number = t; thread = old })
    (record s { steps = s.steps + 1 })
    ≡ after_verdict o q r (record { number = t; thread = old })
    (record s { steps = s.steps + 1 })
faulted s t x q r old o h needs page mapped asks first =
    let later : State = record s { steps = s.steps + 1 } in
    let m : s.rights (x / 4096) ≡ Some r = ap s.rights page ∙ mapped in
    let here : first_unsafe (image_trust s.setup.image) (code_with s.rights s.bytes (x / 4096))
    ≡ o = ap (λ p. first_unsafe (image_trust s.setup.image) (code_with s.rights s.bytes p)) page
    ∙ first in
    let test : (asks_exec r.asked && ltb (x / 4096) (2 ^ 35)) ≡ true =
    and_from _ _ asks (lt-ltb _ _ (low_page s (x / 4096) r h m)) in
    ap (λ f. after_fetch f (record { number = t; thread = old }) later) needs
    ∙ ap (λ o. after_exec_fault o x (record { number = t; thread = old }) later) m
    ∙ ap (λ b. cond b (after_verdict
    (first_unsafe (image_trust s.setup.image) (code_with s.rights s.bytes (x / 4096)))
    (x / 4096) r (record { number = t; thread = old }) later) (with_end
    (EndFault t old.rip Exec x) later)) test
    ∙ ap (λ o. after_verdict o (x / 4096) r (record { number = t; thread = old }) later) here
    ∙ ap (λ p. after_verdict o p r (record { number = t; thread = old }) later) page

put_published : (s : State) (q : ℕ) (r : Rights)
    → is_published (with_value_at s.rights q (Some (published_rights r)) q) ≡ true
put_published s q r = rw (eq-eqb q q refl) refl

published_moves : (s : State) (t q : ℕ) (old : Thread) → IsKept s → (w : IsPublication s q old)
    → is_published ((after_fetch (fetch (code s) old.rip) (record { number = t; thread = old })
    (record s { steps = s.steps + 1 })).rights q) ≡ true
published_moves s t q old h w =
    let none : first_unsafe (image_trust s.setup.image) (code_with s.rights s.bytes q) ≡ None =
    sym (first_is (image_trust s.setup.image) (code_with s.rights s.bytes q))
    ∙ ap first_of w.safe in
    ap (λ (x : State). is_published (x.rights q))
    (faulted s t w.x q w.rights old None h w.needs w.page w.mapped w.asks none)
    ∙ put_published s q w.rights

pub publish_law : PublishLaw
publish_law s new t q old r e f =
    let m = step_moves t s new old r.at e in (
      λ g. moved_publishes (fetch (code s) old.rip) s t q old (run_good s t old r).kept refl f
          (ap (λ (x : State). is_published (x.rights q)) m ∙ g),
      λ w. ap (λ (x : State). is_published (x.rights q)) (sym m)
          ∙ published_moves s t q old (run_good s t old r).kept w,
    )

-- ---- refusal

refused_not : (o : Option End) (q : ℕ) (x : Found) (u : ℕ) → o ≡ None → o ≡ Some (Refused q x u) → ⊥
refused_not o q x u e f = absurd (let k : None ≡ Some (Refused q x u) = sym e ∙ f in cc)

record Judges (p q t u : ℕ) (o : Option Found) (found : Found) : Type 0 where
  page : p ≡ q
  thread : u ≡ t
  first : o ≡ Some found

judged_refuses : (o : Option Found) (p q u : ℕ) (found : Found) (r : Rights) (t : Runner)
    (s : State) → s.end ≡ None → (after_verdict o p r t s).end ≡ Some (Refused q found u)
    → Judges p q t.number u o found
judged_refuses None p q u found r t s n e = absurd (refused_not s.end q found u n e)
judged_refuses (Some y) p q u found r t s n e = record {
  page = cc;
  thread = cc;
  first = (let z : y ≡ found = cc in ap Some z);
}

fault_refuses : (o : Option Rights) (s : State) (old : Thread) (t x q : ℕ) (found : Found) (u : ℕ)
    → s.end ≡ None → s.rights (x / 4096) ≡ o → fetch (code s) old.rip ≡ Need x
    → (after_exec_fault o x (record { number = t; thread = old })
    (record s { steps = s.steps + 1 })).end ≡ Some (Refused q found u) → (u
    ≡ t) × IsRefusal s q found old
fault_refuses None s old t x q found u n m f e = absurd cc
fault_refuses (Some r) s old t x q found u n m f e =
    elim (cases_Bool (asks_exec r.asked && ltb (x / 4096) (2 ^ 35))) [
      | inr k ↦ absurd (let y : Some (EndFault t old.rip Exec x)
          ≡ Some (Refused q found u) = rw k at e in cc)
      | inl k ↦
          (let j = judged_refuses (first_unsafe (image_trust s.setup.image)
          (code_with s.rights s.bytes (x / 4096))) (x / 4096) q u found r (record {
            number = t;
            thread = old;
          }) (record s { steps = s.steps + 1 }) n (rw k at e) in
          let same : x / 4096 ≡ q = j.page in
          let first : first_unsafe (image_trust s.setup.image) (code_with s.rights s.bytes q)
          ≡ Some found = ap (λ p. first_unsafe (image_trust s.setup.image)
          (code_with s.rights s.bytes p)) (sym same) ∙ j.first in
          let list = begins_of (unsafe_list (image_trust s.setup.image)
          (code_with s.rights s.bytes q))
          found (first_is (image_trust s.setup.image) (code_with s.rights s.bytes q) ∙ first) in (
            j.thread,
            record {
              x = x;
              rights = r;
              rest = list.0;
              needs = f;
              page = same;
              mapped = ap s.rights (sym same) ∙ m;
              asks = (and_parts _ _ k).0;
              unsafe = list.1;
            },
          ))
    ]

made_end : (o : Option Thread) (s : State) → (with_new_thread o s).end ≡ s.end
made_end None s = refl
made_end (Some u) s = refl

replied_refuses : (r : CallResult) (t q : ℕ) (found : Found) (u : ℕ) (old new : Thread) (s : State)
    → s.end ≡ None → (after_call r (record { number = t; thread = old }) new s).end
    ≡ Some (Refused q found u) → ⊥
replied_refuses (Refusal e) t q found u old new s n f = refused_not s.end q found u n f
replied_refuses (Answer v c) t q found u old new s n f =
    refused_not s.end q found u n
    (sym (made_end c.clone (after_move
    (record {
      runner = record { number = t; thread = old };
      after = (caller_after v c new);
      executed = None;
      free = false;
    }) (with_change c s))) ∙ f)
replied_refuses (ThreadEnd x) t q found u old new s n f =
    last_either (λ (y : State). y.end ≡ Some (Refused q found u) → ⊥) x (ended_thread t old new s)
    (refused_not s.end q found u n) (λ e. absurd cc) f
replied_refuses (Quit x) t q found u old new s n f = absurd cc

did_refuses : (r : Effect) (insn : Insn) (len skip t q : ℕ) (found : Found) (u : ℕ) (old : Thread)
    (s : State) → s.end ≡ None
    → (after_instruction r (record { insn = insn; len = len; skip = skip })
    (record { number = t; thread = old }) s).end ≡ Some (Refused q found u) → ⊥
did_refuses (Done new w) insn len skip t q found u old s n f = refused_not s.end q found u n f
did_refuses (Stopped x) insn len skip t q found u old s n f =
    stop_refused x (record { number = t; thread = old }) s q found u n f
did_refuses Called insn len skip t q found u old s n f =
    replied_refuses (call_result s t (after_syscall len old)) t q found u old
    (after_syscall len old) s n f

moved_refuses : (y : FetchOutcome) (s : State) (t q : ℕ) (found : Found) (u : ℕ) (old : Thread)
    → s.end ≡ None → fetch (code s) old.rip ≡ y
    → (after_fetch y (record { number = t; thread = old }) (record s { steps = s.steps + 1 })).end
    ≡ Some (Refused q found u) → (u ≡ t) × IsRefusal s q found old
moved_refuses (Runs insn len skip) s t q found u old n e f =
    absurd (did_refuses (effect (plan insn len old) (whole s.rights) s.bytes old.pkru old.rip) insn
    len skip t q found u old (record s { steps = s.steps + 1 }) n f)
moved_refuses Wrong s t q found u old n e f = absurd cc
moved_refuses (Need x) s t q found u old n e f =
    fault_refuses (s.rights (x / 4096)) s old t x q found u n refl e f

refused_moves : (s : State) (t q : ℕ) (found : Found) (u : ℕ) (old : Thread) → IsKept s → u ≡ t
    → (w : IsRefusal s q found old)
    → (after_fetch (fetch (code s) old.rip) (record { number = t; thread = old })
    (record s { steps = s.steps + 1 })).end ≡ Some (Refused q found u)
refused_moves s t q found u old h own w =
    let first : first_unsafe (image_trust s.setup.image) (code_with s.rights s.bytes q)
    ≡ Some found = sym (first_is (image_trust s.setup.image) (code_with s.rights s.bytes q))
    ∙ ap first_of w.unsafe in
    ap (λ (x : State). x.end) (faulted s t w.x q w.rights old (Some found) h w.needs w.page w.mapped
    w.asks first) ∙ ap (λ v. Some (Refused q found v)) (sym own)

pub refuse_law : RefuseLaw
refuse_law s new t u q found old r e =
    let m = step_moves t s new old r.at e in (
      λ f. moved_refuses (fetch (code s) old.rip) s t q found u old r.going refl
          (ap (λ (x : State). x.end) m ∙ f),
      λ w. ap (λ (x : State). x.end) (sym m)
          ∙ refused_moves s t q found u old (run_good s t old r).kept w.0 w.1,
    )

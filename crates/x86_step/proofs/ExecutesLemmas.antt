-- How executions go together.
use Rattle.std.proofs.Common.{◌≡◌, ℕ, ◌++◌, List, [], ◌∷◌, true, false, Option, Some, None, Result}
use Rattle.std.proofs.Common.{Bool, if◌then◌else◌, Ok, Err, ◌⊎◌, inl, inr, refl, sym, ap, subst}
use Rattle.std.proofs.Common.{◌∙◌}
use Rattle.std.proofs.Common.{false, ◌==◌}
use Rattle.std.proofs.lemmas.Bool.{eq-eqb, ne_eqb}
use Rattle.std.proofs.lemmas.List.{append-nil}
use Rattle.erim_defs.specs.declared.machine.Thread.{Thread}
use Rattle.erim_defs.specs.declared.machine.Access.{Access}
use Rattle.erim_defs.specs.declared.insn.Mem.{Mem}
use Rattle.erim_defs.specs.declared.insn.Place.{Place}
use Rattle.erim_defs.specs.declared.insn.Place.TheVariants.{Reg, High, At}
use Rattle.erim_defs.specs.declared.insn.Src.{Src}
use Rattle.erim_defs.specs.declared.insn.Src.TheVariants.{From}
use Rattle.erim_defs.specs.declared.insn.Width.{Width}
use Rattle.erim_defs.specs.Machine.Pages.{word}
use Rattle.erim_defs.specs.Machine.Access.{Seen, stop}
use Rattle.erim_defs.specs.declared.machine.Access.TheVariants.{Fault}
use Rattle.erim_defs.specs.declared.machine.Cause.TheVariants.{General}
use Rattle.erim_defs.specs.Machine.Plan.{Plan, Ask, Give, Refuse, effect, unless}
use Rattle.erim_defs.specs.Machine.Registers.{byte_count, with_operand}
use Rattle.erim_defs.specs.Machine.Operands.{address, on_place, on_source, write_to}
use Rattle.erim_defs.specs.Machine.Meaning.{write_back}
use Rattle.page_store.specs.Answers.{or_stop, load_of, bytes_after_store}
use Rattle.page_store.specs.Notes.{NoteMap, Notes, AllHeldNoted, looked_access, unless_stopped}
use Rattle.page_store.specs.declared.memory.Memory.{Ghosts}
use Rattle.x86_step.specs.Looked.{looked_addresses}
use Rattle.x86_step.specs.Executes.{Comes, Keeps, Executes, Gets, Puts, write_at}

-- ---- notes

held_kept : (seen : Seen) (old new : NoteMap) (xs : List ℕ)
    → ((x : ℕ) → old x ≡ true → new x ≡ true) → AllHeldNoted seen old xs → AllHeldNoted seen new xs
held_kept seen old new [] k h = tt
held_kept seen old new (x ∷ xs) k h =
    (λ e. k x (h.0 e), held_kept seen old new xs k h.1)

held_both : (seen : Seen) (notes : NoteMap) (xs ys : List ℕ) → AllHeldNoted seen notes xs
    → AllHeldNoted seen notes ys → AllHeldNoted seen notes (xs ++ ys)
held_both seen notes [] ys h k = k
held_both seen notes (x ∷ xs) ys h k = (h.0, held_both seen notes xs ys h.1 k)

notes_both : (seen : Seen) (old mid new : NoteMap) (xs ys : List ℕ) → Notes seen old mid xs
    → Notes seen mid new ys → Notes seen old new (xs ++ ys)
notes_both seen old mid new xs ys h k = record {
  kept = λ x e. k.kept x (h.kept x e);
  noted = held_both seen new xs ys (held_kept seen mid new xs k.kept h.noted) k.noted;
}

-- ---- executions one after the other

-- what came so far of a plan p leaves the plan q; the thread and the bytes are as they were
record Leads {M : Type 0} (g : Ghosts M) (p q : Plan) (t : Thread) (memory after : M)
    : Type 0 where
  same : effect p (g.seen memory) (g.bytes memory) t.pkru t.rip
      ≡ effect q (g.seen memory) (g.bytes memory) t.pkru t.rip
  bytes : g.bytes after ≡ g.bytes memory
  keeps : Keeps g memory after
  notes : (new : NoteMap)
      → Notes (g.seen memory) (g.notes after) new (looked_addresses q (g.seen memory)
      (g.bytes memory) t.pkru)
      → Notes (g.seen memory) (g.notes memory) new
      (looked_addresses p (g.seen memory) (g.bytes memory) t.pkru)

-- an execution of what is left of a plan is one of the plan
executes_rest : {M : Type 0} (g : Ghosts M) (p q : Plan) (t to : Thread) (memory mid after : M)
    (r : Result (Unit {0}) Access) → Leads g p q t memory mid → Executes g q t to mid after r
    → Executes g p t to memory after r
executes_rest g p q t to memory mid after r h e =
    let came : Comes r (effect p (g.seen memory) (g.bytes memory) t.pkru t.rip) t to
    (g.bytes memory) (g.bytes after) =
    rw (h.same) (rw (← h.bytes, ← h.keeps.seen) e.comes) in
    record {
      comes = came;
      keeps = record {
        seen = e.keeps.seen ∙ h.keeps.seen;
        frames = e.keeps.frames ∙ h.keeps.frames;
        first = e.keeps.first ∙ h.keeps.first;
      };
      notes = h.notes (g.notes after) (rw (← h.bytes, ← h.keeps.seen) e.notes);
    }

-- ---- one load

loaded : {X : Type 0} (o : Option Access) (x v : ℕ) (unless_x : Option Access → X → X) (f : ℕ → X)
    → ((y : X) → unless_x None y ≡ y) → or_stop o x ≡ Ok v → unless_x o (f x) ≡ f v
loaded None x v u f h e = h (f x) ∙ ap f (cc)
loaded (Some a) x v u f h e = absurd (cc)

not_loaded : (o : Option Access) (x : ℕ) (a : Access) → or_stop o x ≡ Err a → o ≡ Some a
not_loaded None x a e = absurd (cc)
not_loaded (Some s) x a e = ap Some (cc)

pub loads : {M : Type 0} (g : Ghosts M) (a n : ℕ) (t : Thread) (memory after : M)
    (r : Result ℕ Access) → r ≡ load_of (g.seen memory) (g.bytes memory) t.pkru a n
    → Keeps g memory after → g.bytes after ≡ g.bytes memory
    → Notes (g.seen memory) (g.notes memory) (g.notes after)
    (looked_access (g.seen memory) false t.pkru a n)
    → Gets g (Ask a n) t memory after r
unfolding effect looked_addresses
loads g a n t memory after (Ok v) e s b h = λ k to last r x. executes_rest g (Ask a n k) (k v) t to
    memory after last r (
    let o = stop (g.seen memory) false t.pkru a n in
    let x = word (g.bytes memory) a n in
    record {
      same = loaded o x v unless (λ y. effect (k y) (g.seen memory) (g.bytes memory) t.pkru t.rip)
          (λ y. refl) (sym e);
      bytes = b;
      keeps = s;
      notes = λ new m. notes_both (g.seen memory) (g.notes memory) (g.notes after) new
          (looked_access (g.seen memory) false t.pkru a n) _ h
          (subst (Notes (g.seen memory) (g.notes after) new)
          (sym (loaded o x v unless_stopped (λ y. looked_addresses (k y) (g.seen memory)
          (g.bytes memory)
          t.pkru) (λ y. refl) (sym e))) m);
    }) x
loads g a n t memory after (Err s) e q b h = λ k. (
    let no : stop (g.seen memory) false t.pkru a n ≡ Some s =
    not_loaded _ (word (g.bytes memory) a n) s (sym e) in
    record {
      comes = (
        ap (λ o. unless o (effect (k (word (g.bytes memory) a n)) (g.seen memory)
            (g.bytes memory) t.pkru t.rip)) no,
        refl,
        b,
      );
      keeps = q;
      notes = subst (Notes (g.seen memory) (g.notes memory) (g.notes after))
          (sym (ap (λ o. looked_access (g.seen memory) false t.pkru a n ++ unless_stopped o
          (looked_addresses (k (word (g.bytes memory) a n)) (g.seen memory)
          (g.bytes memory) t.pkru)) no
          ∙ append-nil (looked_access (g.seen memory) false t.pkru a n))) h;
    })

-- a number whose address a register names
pub loads_named : {M : Type 0} (g : Ghosts M) (a b n : ℕ) (t : Thread) (memory after : M)
    (r : Result ℕ Access) → a ≡ b → Gets g (λ k. Ask a n k) t memory after r
    → Gets g (λ k. Ask b n k) t memory after r
loads_named g a b n t memory after r e h =
    subst (λ (x : ℕ). Gets g (λ k. Ask x n k) t memory after r) e h

-- an operand in memory
pub reads_at : {M : Type 0} (g : Ghosts M) (n : ℕ) (place : Place) (m : Mem) (a len : ℕ)
    (t : Thread) (memory after : M) (r : Result ℕ Access) → place ≡ At m → a ≡ address m len t
    → Gets g (λ k. Ask a n k) t memory after r
    → Gets g (λ k. on_place n place len t k) t memory after r
reads_at g n place m a len t memory after r e q h =
    subst (λ (p : Place). Gets g (λ k. on_place n p len t k) t memory after r) (sym e)
    (subst (λ (x : ℕ). Gets g (λ k. Ask x n k) t memory after r) q h)

-- an operand of a width
pub reads : {M : Type 0} (g : Ghosts M) (w : Width) (place : Place) (n len : ℕ) (t : Thread)
    (memory after : M) (r : Result ℕ Access) → n ≡ byte_count w
    → Gets g (λ k. on_place n place len t k) t memory after r
    → Gets g (λ k. on_place (byte_count w) place len t k) t memory after r
reads g w place n len t memory after r q h =
    subst (λ (x : ℕ). Gets g (λ k. on_place x place len t k) t memory after r) q h

-- a source that isn't an immediate
pub reads_source : {M : Type 0} (g : Ghosts M) (w : Width) (src : Src) (place : Place) (len : ℕ)
    (t : Thread) (memory after : M) (r : Result ℕ Access) → src ≡ From place
    → Gets g (λ k. on_place (byte_count w) place len t k) t memory after r
    → Gets g (λ k. on_source w src len t k) t memory after r
reads_source g w src place len t memory after r e h =
    subst (λ (s : Src). Gets g (λ k. on_source w s len t k) t memory after r) (sym e) h

-- ---- one store

abbrev Answer : Type 0
Answer = Result (Unit {0}) Access

abbrev may_store : Option Access → Answer
may_store o = or_stop o tt

abbrev no_access : Option Access
no_access = None

none_stored : (o : Option Access) (u : Unit {0}) → may_store o ≡ Ok u → o ≡ no_access
none_stored None u e = refl
none_stored (Some a) u e = absurd (cc)

not_stored : (o : Option Access) (a : Access) → may_store o ≡ Err a → o ≡ Some a
not_stored None a e = absurd (cc)
not_stored (Some s) a e = ap Some (cc)

-- a store of n bytes executes what gives a result with this write
pub stores_at : {M : Type 0} (g : Ghosts M) (a n v : ℕ) (t : Thread) (memory after : M)
    (r : Result (Unit {0}) Access) → r ≡ may_store (stop (g.seen memory) true t.pkru a n)
    → Keeps g memory after
    → g.bytes after ≡ bytes_after_store (g.seen memory) (g.bytes memory) t.pkru a n v
    → Notes (g.seen memory) (g.notes memory) (g.notes after)
    (looked_access (g.seen memory) true t.pkru a n)
    → Puts g (λ next. Give next (write_at a n v)) (λ next. next) t memory after r
unfolding effect looked_addresses
stores_at g a n v t memory after (Ok u) e s b h = λ next last q. rw q (
    let no : stop (g.seen memory) true t.pkru a n ≡ None = none_stored _ u (sym e) in
    record {
      comes = rw no (refl, rw no at b);
      keeps = s;
      notes = h;
    })
stores_at g a n v t memory after (Err q) e s b h = λ next. (
    let no : stop (g.seen memory) true t.pkru a n ≡ Some q = not_stored _ q (sym e) in
    record {
      comes = rw no (refl, refl, rw no at b);
      keeps = s;
      notes = h;
    })

-- an address that is computed
pub stores_named : {M : Type 0} (g : Ghosts M) (a b n v : ℕ) (t : Thread) (memory after : M)
    (r : Result (Unit {0}) Access) → a ≡ b
    → Puts g (λ next. Give next (write_at a n v)) (λ next. next) t memory after r
    → Puts g (λ next. Give next (write_at b n v)) (λ next. next) t memory after r
stores_named g a b n v t memory after r e h =
    subst (λ (x : ℕ). Puts g (λ next. Give next (write_at x n v)) (λ next. next) t memory after r) e
    h

-- an operand in memory
pub stores : {M : Type 0} (g : Ghosts M) (w : Width) (place : Place) (m : Mem) (a n v len : ℕ)
    (t : Thread) (memory after : M) (r : Result (Unit {0}) Access) → place ≡ At m
    → a ≡ address m len t → n ≡ byte_count w
    → Puts g (λ next. Give next (write_at a n v)) (λ next. next) t memory after r
    → Puts g (λ next. write_to w place len t next v) (λ next. with_operand w place next v) t memory
    after r
stores g w place m a n v len t memory after r p q c h =
    subst (λ (x : Place). Puts g (λ next. write_to w x len t next v)
    (λ next. with_operand w x next v) t memory after r) (sym p)
    (subst (λ (x : ℕ). Puts g (λ next. Give next (write_at x (byte_count w) v)) (λ next. next) t
    memory after r) q
    (subst (λ (x : ℕ). Puts g (λ next. Give next (write_at a x v)) (λ next. next) t memory after
    r) c h))

-- and one that is written back
pub stores_back : {M : Type 0} (g : Ghosts M) (w : Width) (place : Place) (m : Mem) (v len : ℕ)
    (t : Thread) (memory after : M) (r : Result (Unit {0}) Access) → place ≡ At m
    → Puts g (λ next. write_to w place len t next v) (λ next. with_operand w place next v) t memory
    after r
    → Puts g (λ next. write_back w place len t next v) (λ next. next) t memory after r
stores_back g w place m v len t memory after r p h =
    subst (λ (x : Place). Puts g (λ next. write_back w x len t next v) (λ next. next) t memory
    after r) (sym p)
    (subst (λ (x : Place). Puts g (λ next. write_to w x len t next v)
    (λ next. with_operand w x next v) t memory after r) p h)

-- a result without a write changes the thread alone
pub gives : {M : Type 0} (g : Ghosts M) (t next : Thread) (memory : M)
    → Executes g (Give next None) t next memory memory (Ok tt)
unfolding effect looked_addresses
gives g t next memory = record {
  comes = (refl, refl);
  keeps = record { seen = refl; frames = refl; first = refl };
  notes = record { kept = λ x e. e; noted = tt };
}

-- a result in a register isn't stored
pub stores_nothing : {M : Type 0} (g : Ghosts M) (w : Width) (place : Place) (v len : ℕ)
    (t : Thread) (memory : M)
    → ((r : ℕ) × (place ≡ Reg r)) ⊎ ((r : ℕ) × (place ≡ High r))
    → Puts g (λ next. write_to w place len t next v) (λ next. with_operand w place next v) t memory
    memory (Ok tt)
stores_nothing g w place v len t memory h = λ next last q. rw q (elim h [
  | inl x ↦ rw x.1 (gives g t (with_operand w (Reg x.0) next v) memory)
  | inr x ↦ rw x.1 (gives g t (with_operand w (High x.0) next v) memory)
])

pub stores_nothing_back : {M : Type 0} (g : Ghosts M) (w : Width) (place : Place) (v len : ℕ)
    (t : Thread) (memory : M)
    → ((r : ℕ) × (place ≡ Reg r)) ⊎ ((r : ℕ) × (place ≡ High r))
    → Puts g (λ next. write_back w place len t next v) (λ next. next) t memory memory (Ok tt)
stores_nothing_back g w place v len t memory h = λ next last q. rw q (elim h [
  | inl x ↦ rw x.1 (gives g t next memory)
  | inr x ↦ rw x.1 (gives g t next memory)
])

pub gives_is : {M : Type 0} (g : Ghosts M) (t next to : Thread) (memory : M) → to ≡ next
    → Executes g (Give next None) t to memory memory (Ok tt)
gives_is g t next to memory e = rw e (gives g t next memory)

-- cause General
refuses : {M : Type 0} (g : Ghosts M) (t : Thread) (memory : M)
    → Executes g Refuse t t memory memory (Err (Fault General t.rip))
unfolding effect looked_addresses
refuses g t memory = record {
  comes = (refl, refl, refl);
  keeps = record { seen = refl; frames = refl; first = refl };
  notes = record { kept = λ x e. e; noted = tt };
}

-- what is refused where a condition fails
pub refuses_unless : {M : Type 0} (g : Ghosts M) (p : Plan) (b : Bool) (t to : Thread) (memory : M)
    (r : Result (Unit {0}) Access) → p ≡ (if b then Give to None else Refuse)
    → (b ≡ false → to ≡ t) → r ≡ (if b then Ok tt else Err (Fault General to.rip))
    → Executes g p t to memory memory r
refuses_unless g p true t to memory r e h q = rw (e, q) (gives g t to memory)
refuses_unless g p false t to memory r e h q = rw (e, q, h refl) (refuses g t memory)

-- a plan that compares
pub executes_same : {M : Type 0} (g : Ghosts M) (x a : ℕ) (p q : Plan) (t to : Thread)
    (memory after : M) (r : Result (Unit {0}) Access) → x ≡ a → Executes g p t to memory after r
    → Executes g (if x == a then p else q) t to memory after r
executes_same g x a p q t to memory after r e h = rw (eq-eqb _ _ e) h

pub executes_other : {M : Type 0} (g : Ghosts M) (x a : ℕ) (p q : Plan) (t to : Thread)
    (memory after : M) (r : Result (Unit {0}) Access) → (x ≡ a → ⊥)
    → Executes g q t to memory after r → Executes g (if x == a then p else q) t to memory after r
executes_other g x a p q t to memory after r e h = rw (ne_eqb _ _ e) h

-- a plan that gives a result without a write
pub gives_plan : {M : Type 0} (g : Ghosts M) (p : Plan) (t to : Thread) (memory : M)
    → p ≡ Give to None → Executes g p t to memory memory (Ok tt)
gives_plan g p t to memory e = rw e (gives g t to memory)

-- a number that is got where a condition holds
pub gets_then : {M : Type 0} (g : Ghosts M) (b : Bool) (on other : (ℕ → Plan) → Plan) (t : Thread)
    (memory after : M) (r : Result ℕ Access) → b ≡ true → Gets g on t memory after r
    → Gets g (λ k. if b then on k else other k) t memory after r
gets_then g b on other t memory after r e h =
    subst (λ (x : Bool). Gets g (λ k. if x then on k else other k) t memory after r) (sym e) h

-- a plan that asks a condition first
pub executes_then : {M : Type 0} (g : Ghosts M) (b : Bool) (p q : Plan) (t to : Thread)
    (memory after : M) (r : Result (Unit {0}) Access) → b ≡ true → Executes g p t to memory after r
    → Executes g (if b then p else q) t to memory after r
executes_then g b p q t to memory after r e h = rw e h

pub executes_else : {M : Type 0} (g : Ghosts M) (b : Bool) (p q : Plan) (t to : Thread)
    (memory after : M) (r : Result (Unit {0}) Access) → b ≡ false → Executes g q t to memory after r
    → Executes g (if b then p else q) t to memory after r
executes_else g b p q t to memory after r e h = rw e h

-- where an instruction goes on its condition holds
pub allowed : (b : Bool) (rip : ℕ) (r : Answer) (u : Unit {0})
    → r ≡ (if b then Ok tt else Err (Fault General rip)) → r ≡ Ok u → b ≡ true
allowed true rip r u e q = refl
allowed false rip r u e q = absurd (cc)

-- and where it doesn't it is refused
pub refused : {M : Type 0} (g : Ghosts M) (b : Bool) (p : Plan) (t : Thread) (memory : M)
    (r : Answer) (a : Access) → r ≡ (if b then Ok tt else Err (Fault General t.rip)) → r ≡ Err a
    → Executes g (if b then p else Refuse) t t memory memory r
refused g true p t memory r a e q = absurd (cc)
refused g false p t memory r a e q = rw e (refuses g t memory)

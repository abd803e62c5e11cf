-- The calls on threads leave the pages; clone makes a copy of its caller.
use Rattle.std.proofs.Common.{◌≡◌, ◌∙◌, ◌+◌, ◌%◌, ◌^◌, ℕ, length, Some, eqb, leb, not, refl, subst}
use Rattle.std.proofs.Common.{inl, inr, true, eqb-true, length-set}
use Rattle.std.specs.Prelude.{slice_set}
use Rattle.std.proofs.lemmas.Bool.{cases_Bool}
use Rattle.erim_defs.specs.declared.machine.Thread.{Thread}
use Rattle.erim_defs.specs.Machine.Registers.{register}
use Rattle.erim_defs.specs.Machine.State.{State}
use Rattle.erim_defs.specs.Machine.CallResult.{Change, Answer, no_change}
use Rattle.erim_defs.specs.Machine.ThreadCalls.{new_thread, clone_result, gettid_result}
use Rattle.erim_defs.specs.Machine.ThreadCalls.{sched_yield_result}
use Rattle.erim_defs.specs.Machine.Isolation.{IsKept}
use Rattle.isolation.proofs.KeptLemmas.{IsCopy, some_same}
use Rattle.isolation.proofs.AnswerLemmas.{refuse_answer, answer_is, LeavesPages}

new_copy : (t : Thread) (stack : ℕ) → register t 0 ≡ 56 → IsCopy t (new_thread t stack)
new_copy t stack call = elim (cases_Bool (eqb stack 0)) [
  | inl none ↦ rw none (record {
    call = call;
    regs = length-set t.regs 0 0;
    rip = refl;
    pkru = refl;
    origin = refl;
    live = refl;
  })
  | inr given ↦ rw given (record {
    call = call;
    regs = length-set (slice_set t.regs 0 0) 4 stack ∙ length-set t.regs 0 0;
    rip = refl;
    pkru = refl;
    origin = refl;
    live = refl;
  })
]

pub clone_leaves : (s : State) (t : Thread) (flags stack v : ℕ) (c : Change) → IsKept s
    → eqb (register t 0) 56 ≡ true → clone_result s t flags stack ≡ Answer v c
    → LeavesPages s t c
unfolding clone_result
clone_leaves s t flags stack v c h call e =
    let made : Change = (let x = no_change s t in
    record x { clone = Some (new_thread t stack) }) in
    let a = refuse_answer (not (eqb (flags % 2 ^ 32) 0x50F00)) 22 v _ c e in
    let b = refuse_answer (leb 16 (length s.threads)) 11 v (Answer (length s.threads + 1) made) c
    a.1 in
    subst (LeavesPages s t) (answer_is (length s.threads + 1) v made c b.1) (record {
      rights = refl;
      bytes = refl;
      keys = h.keys;
      pkru = refl;
      made = λ u k. subst (IsCopy t) (some_same (new_thread t stack) u k)
          (new_copy t stack (eqb-true _ _ call));
    })

-- a call that changes nothing
same_leaves : (s : State) (t : Thread) (w v : ℕ) (c : Change) → IsKept s
    → Answer w (no_change s t) ≡ Answer v c → LeavesPages s t c
same_leaves s t w v c h e =
    subst (LeavesPages s t) (answer_is w v (no_change s t) c e) (record {
      rights = refl;
      bytes = refl;
      keys = h.keys;
      pkru = refl;
      made = λ u k. absurd cc;
    })

pub gettid_leaves : (s : State) (number : ℕ) (t : Thread) (v : ℕ) (c : Change) → IsKept s
    → gettid_result s number t ≡ Answer v c → LeavesPages s t c
unfolding gettid_result
gettid_leaves s number t v c h e = same_leaves s t (number + 1) v c h e

pub sched_yield_leaves : (s : State) (t : Thread) (v : ℕ) (c : Change) → IsKept s
    → sched_yield_result s t ≡ Answer v c → LeavesPages s t c
unfolding sched_yield_result
sched_yield_leaves s t v c h e = same_leaves s t 0 v c h e

-- What is known of a thread that can step, and what its step makes of the state.
use Rattle.std.proofs.Common.{◌≡◌, ◌≢◌, ◌+◌, ℕ, Option, Some, None, true, sym, subst, ◌∙◌, refl}
use Rattle.std.proofs.Common.{get_or-set_other}
use Rattle.std.specs.Prelude.{slice_get, slice_set}
use Rattle.erim_defs.specs.declared.machine.Thread.{Thread}
use Rattle.erim_defs.specs.Machine.Registers.{register, onward}
use Rattle.erim_defs.specs.Machine.State.{State, code, trust_of}
use Rattle.erim_defs.specs.Machine.Step.{flags_word, step, after_fetch, after_syscall}
use Rattle.erim_defs.specs.Machine.Step.{ready_thread, after_step_of, fetch}
use Rattle.erim_defs.specs.Machine.Isolation.{Stands}
use Rattle.isolation.specs.Laws.{CanStep}
use Rattle.isolation.proofs.GrammarFacts.{Known, decoder, image_known}
use Rattle.isolation.proofs.ThreadLemmas.{each_at}
use Rattle.isolation.proofs.KeptLemmas.{some_same, runner_is}
use Rattle.isolation.proofs.AlwaysLemmas.{IsGood, good_always}

pub run_good : (s : State) (t : ℕ) (old : Thread) → CanStep s t old → IsGood Known s
run_good s t old r = good_always decoder r.setup r.entries s r.startable
    (image_known r.setup r.startable) r.reached

pub stands_now : (s : State) (t : ℕ) (old : Thread) → CanStep s t old → s.escape ≡ None
    → Stands (trust_of s) (code s) old
stands_now s t old r e = each_at (λ u. u.live ≡ true
    → Stands (trust_of s) (code s) u) s.threads t old ((run_good s t old r).kept.stand r.going
    e) r.at r.live

-- a register that SYSCALL leaves
pub entered_reg : (len n : ℕ) (t : Thread) → n ≢ 1 → n ≢ 11
    → register (after_syscall len t) n ≡ register t n
entered_reg len n t a b =
    get_or-set_other (slice_set t.regs 1 (onward len t).rip) 11 n (flags_word t.flags) 0 b
    ∙ get_or-set_other t.regs 1 n (onward len t).rip 0 a

-- the thread that a step moves
moves : (o : Option Thread) (t : ℕ) (s new : State) (old : Thread)
    → ((u : Thread) → o ≡ Some u → u ≡ old) → after_step_of o t s ≡ Some new
    → after_fetch (fetch (code s) old.rip) (record { number = t; thread = old })
    (record s { steps = s.steps + 1 }) ≡ new
moves None t s new old h e = absurd cc
moves (Some u) t s new old h e =
    let z : u ≡ old = h u refl in
    some_same (after_fetch (fetch (code s) old.rip) (record { number = t; thread = old })
    (record s { steps = s.steps + 1 })) new (subst
    (λ (v : Thread). Some (after_fetch (fetch (code s) v.rip)
    (record { number = t; thread = v }) (record s { steps = s.steps + 1 })) ≡ Some new) z e)

pub step_moves : (t : ℕ) (s new : State) (old : Thread) → slice_get s.threads t ≡ Some old
    → step t s ≡ Some new → after_fetch (fetch (code s) old.rip)
    (record { number = t; thread = old }) (record s { steps = s.steps + 1 }) ≡ new
unfolding step
step_moves t s new old at e =
    moves (ready_thread s t) t s new old
    (λ u k. let l = (runner_is s t u k).0 in let m : Some u ≡ Some old = sym l ∙ at in
    let z : u ≡ old = cc in z) e

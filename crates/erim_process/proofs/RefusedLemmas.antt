-- A page that was refused is in user memory.
use Rattle.std.proofs.Common.{◌≡◌, ℕ, ◌<◌, ◌+◌, ◌/◌, ◌^◌, ◌&&◌, false, ltb, ltb-true, Option, Some}
use Rattle.std.proofs.Common.{None, subst, inl, inr}
use Rattle.std.proofs.lemmas.Bool.{cases_Bool, and_parts}
use Rattle.erim_defs.specs.declared.machine.Rights.{Rights}
use Rattle.erim_defs.specs.declared.machine.Thread.{Thread}
use Rattle.erim_defs.specs.declared.machine.Access.{Access}
use Rattle.erim_defs.specs.declared.machine.Access.TheVariants.{Fault, Missing}
use Rattle.erim_defs.proofs.WriteFaultLemmas.{stop_either, write_either}
use Rattle.erim_defs.specs.declared.found.Found.{Found}
use Rattle.erim_defs.specs.declared.insn.Insn.{Insn}
use Rattle.erim_defs.specs.declared.insn.FetchOutcome.{FetchOutcome}
use Rattle.erim_defs.specs.declared.insn.FetchOutcome.TheVariants.{Runs, Need, Wrong}
use Rattle.erim_defs.specs.Machine.Pages.{code_with, asks_exec}
use Rattle.erim_defs.specs.Machine.Access.{whole}
use Rattle.erim_defs.specs.Inspection.Image.{image_trust}
use Rattle.erim_defs.specs.Inspection.Unsafe.{first_unsafe}
use Rattle.erim_defs.specs.Machine.Plan.{Effect, Done, Stopped, Called, effect}
use Rattle.erim_defs.specs.Machine.Meaning.{plan}
use Rattle.erim_defs.specs.Machine.State.{Setup, State, any_live, code}
use Rattle.erim_defs.specs.Machine.CallResult.{Refusal, Answer, ThreadEnd, Quit}
use Rattle.erim_defs.specs.Machine.CallResult.{CallResult}
use Rattle.erim_defs.specs.Machine.Calls.{call_result}
use Rattle.erim_defs.specs.Machine.Step.{step, after_fault, after_move, after_instruction}
use Rattle.erim_defs.specs.Machine.Step.{after_call}
use Rattle.erim_defs.specs.Machine.Step.{after_fetch, with_new_thread, caller_after, with_change}
use Rattle.erim_defs.specs.Machine.Step.{after_syscall, after_verdict, after_exec_fault}
use Rattle.erim_defs.specs.Machine.Step.{ready_thread, after_step_of, fetch, Runner, with_last_end}
use Rattle.erim_defs.specs.Machine.Start.{first_state}
use Rattle.erim_process.specs.Ends.{IfRefused}

abbrev IsLow : State → Type 0
IsLow s = IfRefused (λ page. page < 2 ^ 35) s.end

-- a page that is judged
low_judged : (o : Option Found) (q : ℕ) (r : Rights) (t : Runner) (s : State) → q < 2 ^ 35 → IsLow s
    → IsLow (after_verdict o q r t s)
low_judged None q r t s low h = h
low_judged (Some first) q r t s low h = low

-- an exec fault judges only such pages
low_fault : (o : Option Rights) (x : ℕ) (t : Runner) (s : State) → IsLow s
    → IsLow (after_exec_fault o x t s)
low_fault None x t s h = tt
low_fault (Some r) x t s h = elim (cases_Bool (asks_exec r.asked && ltb (x / 4096) (2 ^ 35))) [
  | inl on ↦ rw on (low_judged
      (first_unsafe (image_trust s.setup.image) (code_with s.rights s.bytes (x / 4096))) (x / 4096)
      r t s (ltb-true _ _ (and_parts _ _ on).1) h)
  | inr off ↦ rw off tt
]

-- a new thread
low_made : (o : Option Thread) (s : State) → IsLow s → IsLow (with_new_thread o s)
low_made None s h = h
low_made (Some u) s h = h

-- the end of a thread
low_last : (status : ℕ) (s : State) → IsLow s → IsLow (with_last_end status s)
low_last status s h = elim (cases_Bool (any_live s.threads)) [
  | inl on ↦ rw on h
  | inr off ↦ rw off tt
]

-- what came of a call
low_replied : (r : CallResult) (t : ℕ) (old new : Thread) (s : State) → IsLow s
    → IsLow (after_call r (record { number = t; thread = old }) new s)
low_replied (Refusal e) t old new s h = h
low_replied (Answer v c) t old new s h =
    low_made c.clone (after_move
    (record {
      runner = record { number = t; thread = old };
      after = (caller_after v c new);
      executed = None;
      free = false;
    }) (with_change c s)) h
low_replied (ThreadEnd status) t old new s h = low_last status (after_move (record {
  runner = record { number = t; thread = old };
  after = record new { live = false };
  executed = None;
  free = false;
}) s) h
low_replied (Quit code) t old new s h = tt

-- an instruction
low_did : (d : Effect) (insn : Insn) (len skip t : ℕ) (old : Thread) (s : State) → IsLow s
    → IsLow (after_instruction d (record { insn = insn; len = len; skip = skip })
    (record { number = t; thread = old }) s)
low_did (Done new w) insn len skip t old s h = h
low_did (Stopped a) insn len skip t old s h =
    stop_either IsLow a (record { number = t; thread = old }) s (ended a)
    (λ x e. write_either IsLow (s.rights (x / 4096)) x (record { number = t; thread = old }) s tt h
    (λ r m w free. h))
  where
    ended : (a : Access) → IsLow (after_fault a (record { number = t; thread = old }) s)
    ended (Fault cause x) = tt
    ended (Missing q) = h
low_did Called insn len skip t old s h =
    low_replied (call_result s t (after_syscall len old)) t old (after_syscall len old) s h

-- a step without its guard
low_moved : (x : FetchOutcome) (t : ℕ) (old : Thread) (s : State) → IsLow s
    → IsLow (after_fetch x (record { number = t; thread = old }) s)
low_moved (Runs insn len skip) t old s h =
    low_did (effect (plan insn len old) (whole s.rights) s.bytes old.pkru old.rip) insn len skip t
    old s h
low_moved (Need x) t old s h =
    low_fault (s.rights (x / 4096)) x (record { number = t; thread = old }) s h
low_moved Wrong t old s h = tt

-- a step, by the thread that runs
low_by : (o : Option Thread) (t : ℕ) (s new : State) → IsLow s → after_step_of o t s ≡ Some new
    → IsLow new
low_by None t s new h e = absurd cc
low_by (Some old) t s new h e =
    let later : State = record s { steps = s.steps + 1 } in
    let same : after_fetch (fetch (code s) old.rip) (record { number = t; thread = old }) later
    ≡ new = cc in
    subst IsLow same (low_moved (fetch (code s) old.rip) t old later h)

-- a step
pub refused_step : (t : ℕ) (s new : State) → IfRefused (λ page. page < 2 ^ 35) s.end
    → step t s ≡ Some new → IfRefused (λ page. page < 2 ^ 35) new.end
unfolding step
refused_step t s new h e = low_by (ready_thread s t) t s new h e

-- nothing was refused at the start
pub refused_start : (setup : Setup) (s : State) → s ≡ first_state setup
    → IfRefused (λ page. page < 2 ^ 35) s.end
unfolding first_state
refused_start setup s e = rw e tt

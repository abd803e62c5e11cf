-- A thread that is settled after a step: what the definitions make of the state.
use Rattle.std.proofs.Common.{◌≡◌, ℕ, Bool, refl, ap, ◌∙◌}
use Rattle.erim_defs.specs.declared.machine.Cause.{Cause}
use Rattle.erim_defs.specs.declared.machine.Thread.{Thread}
use Rattle.erim_defs.specs.declared.machine.Access.TheVariants.{Fault, Missing}
use Rattle.erim_defs.specs.Inspection.Trust.{TrustValue}
use Rattle.erim_defs.specs.Machine.Pages.{ByteMap}
use Rattle.erim_defs.specs.Machine.Plan.{Effect, Done, Stopped, Called, bytes_after_write}
use Rattle.erim_defs.specs.Machine.Plan.{effect}
use Rattle.erim_defs.specs.Machine.Meaning.{plan}
use Rattle.erim_defs.specs.Machine.Access.{Seen, whole}
use Rattle.erim_defs.specs.Inspection.Image.{image_trust}
use Rattle.erim_defs.specs.Machine.State.{Setup, State, is_escape, trust_of, with_origin}
use Rattle.erim_defs.specs.Machine.Step.{CodedInsn, Move, Runner, after_instruction}
use Rattle.erim_defs.specs.Machine.Step.{after_move, writes_pkru, sequence_of}
use Rattle.x86_step.specs.Execution.{bytes_after, exec_of, thread_after}
use Rattle.x86_step.specs.declared.answer.Exec.TheVariants as exec
use Rattle.erim_defs.specs.Machine.Access.{rights_in}
use Rattle.page_store.specs.declared.memory.Memory.{Ghosts}
use Rattle.erim_process.specs.declared.machine.Machine.{Machine}
use Rattle.erim_process.specs.Machine.{machine_state, with_thread}

pub settled_move : (m : Move) (trust : TrustValue) (s : State) (after : Thread) (escaped : Bool)
    → trust_of s ≡ trust → after ≡ with_origin trust m.executed m.after
    → escaped ≡ is_escape trust m.free m.runner.thread m.after
    → with_thread m.runner.number after escaped s ≡ after_move m s
settled_move m trust s after escaped e f g = rw (f, g, ← e) refl

-- the same, of an instruction that was done; it may have written
done_settled : (e : Effect) (trust : TrustValue) (i : CodedInsn) (r : Runner) (s : State)
    (after : Thread) (escaped : Bool) (bytes : ByteMap) → trust_of s ≡ trust
    → exec.Done escaped ≡ exec_of e trust i.insn r.thread
    → after ≡ thread_after e trust i r.thread → bytes ≡ bytes_after e s.bytes
    → with_thread r.number after escaped (record s { bytes = bytes }) ≡ after_instruction e i r s
done_settled (Done new w) trust i r s after escaped bytes e answer thread there =
    let same : escaped ≡ is_escape trust (writes_pkru i.insn r.thread) r.thread new = cc in
    rw there (settled_move (record {
      runner = r;
      after = new;
      executed = sequence_of i r.thread.rip;
      free = writes_pkru i.insn r.thread;
    }) trust (record s { bytes = bytes_after_write w s.bytes }) after escaped e thread same)
done_settled (Stopped (Fault cause a)) trust i r s after escaped bytes e answer thread there =
    absurd cc
done_settled (Stopped (Missing q)) trust i r s after escaped bytes e answer thread there = absurd cc
done_settled Called trust i r s after escaped bytes e answer thread there = absurd cc

-- what an execution says of what came of an instruction
pub call_is : (e : Effect) (trust : TrustValue) (i : CodedInsn) (t : Thread)
    → exec.Syscall ≡ exec_of e trust i.insn t → e ≡ Called
call_is (Done new w) trust i t h = absurd cc
call_is (Stopped (Fault cause a)) trust i t h = absurd cc
call_is (Stopped (Missing q)) trust i t h = absurd cc
call_is Called trust i t h = refl

pub stop_is : (e : Effect) (trust : TrustValue) (i : CodedInsn) (t : Thread) (cause : Cause)
    (a : ℕ) → exec.Fault cause a ≡ exec_of e trust i.insn t → e ≡ Stopped (Fault cause a)
stop_is (Done new w) trust i t cause a h = absurd cc
stop_is (Stopped (Fault c b)) trust i t cause a h = let s : c ≡ cause = cc in
    let p : b ≡ a = cc in rw (s, p) refl
stop_is (Stopped (Missing q)) trust i t cause a h = absurd cc
stop_is Called trust i t cause a h = absurd cc

-- ---- of a machine, whose pages are a whole memory

-- what an instruction that a thread runs comes to on a memory
abbrev pub effect_on : CodedInsn → Runner → Seen → ByteMap → Effect
effect_on i r seen bytes =
    effect (plan i.insn i.len r.thread) seen bytes r.thread.pkru r.thread.rip

pub whole_effect : {P : Type 0} (g : Ghosts P) (setup : Setup) (m : Machine P) (i : CodedInsn)
    (r : Runner) → g.seen m.pages ≡ whole (rights_in (g.seen m.pages))
    → after_instruction (effect_on i r (g.seen m.pages) (g.bytes m.pages)) i r
    (machine_state g setup m)
    ≡ after_instruction (effect_on i r (whole (rights_in (g.seen m.pages))) (g.bytes m.pages)) i r
    (machine_state g setup m)
whole_effect g setup m i r holds =
    ap (λ (x : Seen). after_instruction (effect_on i r x (g.bytes m.pages)) i r
    (machine_state g setup m)) holds

pub run_done : {P : Type 0} (g : Ghosts P) (setup : Setup) (m : Machine P) (pages : P)
    (trust : TrustValue) (i : CodedInsn) (r : Runner) (after : Thread) (escaped : Bool)
    → g.seen m.pages ≡ whole (rights_in (g.seen m.pages)) → image_trust setup.image ≡ trust
    → g.seen pages ≡ g.seen m.pages
    → exec.Done escaped ≡ exec_of (effect_on i r (g.seen m.pages) (g.bytes m.pages)) trust i.insn
    r.thread
    → after ≡ thread_after (effect_on i r (g.seen m.pages) (g.bytes m.pages)) trust i r.thread
    → g.bytes pages ≡ bytes_after (effect_on i r (g.seen m.pages) (g.bytes m.pages))
    (g.bytes m.pages)
    → with_thread r.number after escaped (machine_state g setup (record m { pages = pages }))
    ≡ after_instruction (effect_on i r (whole (rights_in (g.seen m.pages))) (g.bytes m.pages)) i r
    (machine_state g setup m)
run_done g setup m pages trust i r after escaped holds e same answer thread there =
    let s : State = machine_state g setup m in
    ap (λ (x : Seen). with_thread r.number after escaped
    (record s { rights = rights_in x; bytes = g.bytes pages })) same
    ∙ done_settled (effect_on i r (g.seen m.pages) (g.bytes m.pages)) trust i r s after escaped
    (g.bytes pages) e answer thread there
    ∙ whole_effect g setup m i r holds

use Rattle.std.proofs.Common.{◌≡◌, sym, ap, ◌∙◌, refl}
use Rattle.erim_defs.specs.declared.machine.Access.TheVariants.{Fault}
use Rattle.erim_defs.specs.Machine.Plan.{Effect, Called, Stopped}
use Rattle.erim_defs.specs.Machine.State.{State}
use Rattle.erim_defs.specs.Machine.Calls.{call_result}
use Rattle.erim_defs.specs.Machine.Step.{after_call, after_instruction, after_stop}
use Rattle.erim_defs.specs.Machine.Step.{CodedInsn, Runner}
use Rattle.erim_process.specs.Machine.{machine_state}
use Rattle.x86_step.specs.Execution.{bytes_after}
use Rattle.erim_process.proofs.CallLemmas.{same_machine}
use Rattle.erim_process.proofs.MoveLemmas.{call_is, effect_on, run_done, stop_is}
use Rattle.erim_process.proofs.MoveLemmas.{whole_effect}
use Rattle.erim_process.proofs.machine.Machine.execute_insn.Goals as goal

pub returns-in-Done-clause-state : goal.returns-in-Done-clause-state
returns-in-Done-clause-state g c = λ setup trust frames heaps.
    c.settle.ensures.state setup
    ∙ run_done g.P.Memory setup c.args.self.now c.exec.new.memory c.args.trust.now
    (record { insn = c.args.insn.now; len = c.args.len; skip = c.args.skip })
    (record { number = c.args.t; thread = c.args.thread.now }) c.exec.new.thread
    c.in-Done.escaped (g.met.P.Pages.holds_all c.args.self.now.pages) trust c.in-Done.ensures.seen
    c.in-Done.ensures.answer c.in-Done.ensures.thread c.in-Done.ensures.bytes

pub returns-in-Syscall-clause-state : goal.returns-in-Syscall-clause-state
returns-in-Syscall-clause-state g c = λ setup trust frames heaps.
    let m = c.args.self.now in
    let s : State = machine_state g.P.Memory setup m in
    let t = c.args.thread.now in
    let i : CodedInsn = record { insn = c.args.insn.now; len = c.args.len; skip = c.args.skip } in
    let r : Runner = record { number = c.args.t; thread = t } in
    let e = effect_on i r (g.P.Memory.seen m.pages) (g.P.Memory.bytes m.pages) in
    let called : e ≡ Called = call_is e c.args.trust.now i t c.in-Syscall.ensures.answer in
    let bytes : g.P.Memory.bytes c.exec.new.memory ≡ g.P.Memory.bytes m.pages =
    c.in-Syscall.ensures.bytes
    ∙ ap (λ (x : Effect). bytes_after x (g.P.Memory.bytes m.pages)) called in
    let same : machine_state g.P.Memory setup (record m { pages = c.exec.new.memory }) ≡ s =
    same_machine g.P.Memory setup m (record m { pages = c.exec.new.memory }) refl
    (c.in-Syscall.ensures.seen, bytes, c.in-Syscall.ensures.frames) in
    c.call.ensures.state setup trust (frames ∙ sym c.in-Syscall.ensures.frames) heaps
    ∙ ap (λ (x : State). after_call (call_result x c.args.t c.after_syscall.result) r
    c.after_syscall.result x) same
    ∙ ap (λ n. after_call (call_result s c.args.t n) r n s) c.after_syscall.ensures
    ∙ sym (ap (λ (x : Effect). after_instruction x i r s) called)
    ∙ whole_effect g.P.Memory setup m i r (g.met.P.Pages.holds_all m.pages)

pub returns-in-Fault-clause-state : goal.returns-in-Fault-clause-state
returns-in-Fault-clause-state g c = λ setup trust frames heaps.
    let m = c.args.self.now in
    let s : State = machine_state g.P.Memory setup m in
    let t = c.args.thread.now in
    let i : CodedInsn = record { insn = c.args.insn.now; len = c.args.len; skip = c.args.skip } in
    let r : Runner = record { number = c.args.t; thread = t } in
    let w = c.in-Fault in
    let e = effect_on i r (g.P.Memory.seen m.pages) (g.P.Memory.bytes m.pages) in
    let stopped : e ≡ Stopped (Fault w.cause w.addr) =
    stop_is e c.args.trust.now i t w.cause w.addr w.ensures.answer in
    let bytes : g.P.Memory.bytes c.exec.new.memory ≡ g.P.Memory.bytes m.pages =
    w.ensures.bytes ∙ ap (λ (x : Effect). bytes_after x (g.P.Memory.bytes m.pages)) stopped in
    let same : machine_state g.P.Memory setup (record m { pages = c.exec.new.memory }) ≡ s =
    same_machine g.P.Memory setup m (record m { pages = c.exec.new.memory }) refl
    (w.ensures.seen, bytes, w.ensures.frames) in
    c.stop.ensures.state setup
    ∙ ap (λ (x : State). after_stop (Fault w.cause w.addr) r x) same
    ∙ sym (ap (λ (x : Effect). after_instruction x i r s) stopped)
    ∙ whole_effect g.P.Memory setup m i r (g.met.P.Pages.holds_all m.pages)

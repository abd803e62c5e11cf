use Rattle.std.proofs.Common.{◌≡◌, ◌/◌, sym, ap, ◌∙◌, refl}
use Rattle.erim_defs.specs.Machine.Access.{whole}
use Rattle.erim_defs.specs.Machine.Plan.{effect}
use Rattle.erim_defs.specs.Machine.Meaning.{plan}
use Rattle.erim_defs.specs.Machine.State.{State}
use Rattle.erim_defs.specs.Machine.Step.{after_instruction, after_exec_fault, after_fetch}
use Rattle.erim_process.specs.Machine.{machine_state}
use Rattle.erim_process.proofs.CallLemmas.{same_machine}
use Rattle.erim_process.proofs.machine.Machine.fetch_and_execute.Goals as goal

pub returns-in-Runs-clause-state : goal.returns-in-Runs-clause-state
returns-in-Runs-clause-state g c = λ setup trust frames heaps.
    let s : State = machine_state g.P.Memory setup c.args.self.now in
    let t = c.args.thread.now in
    let w = c.in-Runs in
    let same : machine_state g.P.Memory setup (record c.args.self.now { pages = c.fetch.new.pages })
    ≡ s =
    same_machine g.P.Memory setup c.args.self.now
    (record c.args.self.now { pages = c.fetch.new.pages }) refl
    (w.ensures.seen, w.ensures.bytes, w.ensures.frames) in
    c.execute_insn.ensures.state setup trust (frames ∙ sym w.ensures.frames) heaps
    ∙ ap (λ (x : State). after_instruction (effect (plan w.insn w.len t) (whole x.rights) x.bytes
    t.pkru t.rip)
    (record { insn = w.insn; len = w.len; skip = w.skip })
    (record { number = c.args.t; thread = t }) x) same
    ∙ ap (λ y. after_fetch y (record { number = c.args.t; thread = t }) s) w.ensures.answer

pub returns-in-Need-clause-state : goal.returns-in-Need-clause-state
returns-in-Need-clause-state g c = λ setup trust frames heaps.
    let s : State = machine_state g.P.Memory setup c.args.self.now in
    let t = c.args.thread.now in
    let w = c.in-Need in
    let same : machine_state g.P.Memory setup (record c.args.self.now { pages = c.fetch.new.pages })
    ≡ s =
    same_machine g.P.Memory setup c.args.self.now
    (record c.args.self.now { pages = c.fetch.new.pages }) refl
    (w.ensures.seen, w.ensures.bytes, w.ensures.frames) in
    c.exec_fault.ensures.state setup trust (frames ∙ sym w.ensures.frames) heaps
    ∙ ap (λ (x : State). after_exec_fault (x.rights (w.addr / 4096)) w.addr
    (record { number = c.args.t; thread = t }) x) same
    ∙ ap (λ y. after_fetch y (record { number = c.args.t; thread = t }) s) w.ensures.answer

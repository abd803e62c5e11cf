use Rattle.std.proofs.Common.{◌∙◌, ap, refl, sym, ℕ}
use Rattle.erim_defs.specs.Machine.Calls.{write_result}
use Rattle.erim_defs.specs.Machine.Registers.{register}
use Rattle.erim_defs.specs.Machine.Step.{Runner, after_call}
use Rattle.erim_process.specs.Machine.{machine_state}
use Rattle.erim_process.proofs.CallLemmas.{write_call}
use Rattle.erim_process.proofs.machine.Machine.write.Goals as goal

pub returns-clause-state : goal.returns-clause-state
returns-clause-state g c = λ setup trust frames heaps.
    let m = c.args.self.now in
    let s = machine_state g.P.Memory setup m in
    let t = c.args.new.now in
    let r : Runner = record { number = c.args.t; thread = c.args.old.now } in
    let w = c.write_out-outcome.ensures in
    c.answer.ensures.state setup trust (frames ∙ sym w.frames) heaps
    ∙ write_call g.P.Memory setup m c.write_out-outcome.new.pages c.write_out-outcome.new.output r t
    c.write_out-outcome.result c.rax_of.result
    (write_result s t c.register-fd.result c.register-buf.result c.register-n.result)
    (w.answer s t refl refl refl refl) w.kept (w.seen, w.bytes, w.frames) c.rax_of.ensures
    ∙ ap (λ (k : ℕ). after_call (write_result s t k c.register-buf.result c.register-n.result) r t
    s) c.register-fd.ensures
    ∙ ap (λ (k : ℕ). after_call (write_result s t (register t 7) k c.register-n.result) r t s)
    c.register-buf.ensures
    ∙ ap (λ (k : ℕ). after_call (write_result s t (register t 7) (register t 6) k) r t s)
    c.register-n.ensures

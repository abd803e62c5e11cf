use Rattle.std.proofs.Common.{◌∙◌, ap, refl, ℕ}
use Rattle.erim_defs.specs.Machine.MapCalls.{pkey_free_result}
use Rattle.erim_defs.specs.Machine.Step.{Runner, after_call}
use Rattle.erim_process.specs.Machine.{machine_state}
use Rattle.erim_process.proofs.CallLemmas.{key_call, on_err}
use Rattle.erim_process.proofs.machine.Machine.free_key.Goals as goal

pub returns-clause-state : goal.returns-clause-state
returns-clause-state g c = λ setup trust frames heaps.
    let m = c.args.self.now in
    let s = machine_state g.P.Memory setup m in
    let t = c.args.new.now in
    let r : Runner = record { number = c.args.t; thread = c.args.old.now } in
    c.answer.ensures.state setup trust frames heaps
    ∙ key_call g.P.Memory setup m c.pkey_free-outcome.new.keys t.pkru r t c.pkey_free-outcome.result
    c.rax_of.result (pkey_free_result s t c.register.result)
    (c.pkey_free-outcome.ensures.answer s t (record { taken = refl; rights = refl }) trust)
    c.pkey_free-outcome.ensures.keys (on_err c.pkey_free-outcome.result refl) c.rax_of.ensures
    ∙ ap (λ (k : ℕ). after_call (pkey_free_result s t k) r t s) c.register.ensures

use Rattle.std.proofs.Common.{◌∙◌, ap, refl, ℕ}
use Rattle.erim_defs.specs.Machine.MapCalls.{pkey_alloc_result}
use Rattle.erim_defs.specs.Machine.Registers.{register}
use Rattle.erim_defs.specs.Machine.Step.{Runner, after_call}
use Rattle.erim_process.specs.Machine.{machine_state}
use Rattle.erim_process.proofs.CallLemmas.{key_call}
use Rattle.erim_process.proofs.machine.Machine.alloc_key.Goals as goal

pub returns-clause-state : goal.returns-clause-state
returns-clause-state g c = λ setup trust frames heaps.
    let m = c.args.self.now in
    let s = machine_state g.P.Memory setup m in
    let t = c.args.new.now in
    let r : Runner = record { number = c.args.t; thread = c.args.old.now } in
    c.answer.ensures.state setup trust frames heaps
    ∙ key_call g.P.Memory setup m c.pkey_alloc-outcome.new.keys c.pkey_alloc-outcome.new.pkru r t
    c.pkey_alloc-outcome.result c.rax_of.result
    (pkey_alloc_result s t c.register-flags.result c.register-rights.result)
    (c.pkey_alloc-outcome.ensures.answer s t (record { taken = refl; rights = refl }))
    c.pkey_alloc-outcome.ensures.keys c.pkey_alloc-outcome.ensures.pkru c.rax_of.ensures
    ∙ ap (λ (k : ℕ). after_call (pkey_alloc_result s t k c.register-rights.result) r t s)
    c.register-flags.ensures
    ∙ ap (λ (k : ℕ). after_call (pkey_alloc_result s t (register t 7) k) r t s)
    c.register-rights.ensures

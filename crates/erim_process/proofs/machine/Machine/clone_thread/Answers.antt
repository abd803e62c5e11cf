use Rattle.std.proofs.Common.{◌∙◌, ap, refl, ℕ}
use Rattle.erim_defs.specs.Machine.Registers.{register}
use Rattle.erim_defs.specs.Machine.Step.{Runner, after_call}
use Rattle.erim_defs.specs.Machine.ThreadCalls.{clone_result}
use Rattle.erim_process.specs.Machine.{machine_state}
use Rattle.erim_process.proofs.CallLemmas.{clone_call, clone_there}
use Rattle.erim_process.proofs.machine.Machine.clone_thread.Goals as goal

pub answer-requires : goal.answer-requires
answer-requires g c = record {
  there = clone_there c.args.self.now.threads c.clone_thread-outcome.new.threads _ c.args.t
      c.clone_thread-outcome.result c.clone_thread-outcome.ensures.threads
      c.clone_thread-outcome.ensures.kept c.requires.there;
}

pub returns-clause-state : goal.returns-clause-state
returns-clause-state g c = λ setup trust frames heaps.
    let m = c.args.self.now in
    let s = machine_state g.P.Memory setup m in
    let t = c.args.new.now in
    let r : Runner = record { number = c.args.t; thread = c.args.old.now } in
    let flags = c.register-flags.result in
    let stack = c.register-stack.result in
    c.answer.ensures.state setup trust frames heaps
    ∙ clone_call g.P.Memory setup m c.args.trust.now c.clone_thread-outcome.new.threads r t stack
    c.clone_thread-outcome.result c.rax_of.result (clone_result s t flags stack)
    (c.clone_thread-outcome.ensures.answer s refl) c.clone_thread-outcome.ensures.threads
    c.clone_thread-outcome.ensures.kept trust c.requires.there c.rax_of.ensures
    ∙ ap (λ (k : ℕ). after_call (clone_result s t k stack) r t s) c.register-flags.ensures
    ∙ ap (λ (k : ℕ). after_call (clone_result s t (register t 7) k) r t s)
    c.register-stack.ensures

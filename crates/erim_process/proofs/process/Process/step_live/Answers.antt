use Rattle.std.proofs.Common.{◌≡◌, ◌≤◌, ◌∙◌, ap, arith}
use Rattle.erim_defs.specs.Machine.State.{Setup, State}
use Rattle.erim_defs.specs.declared.stepped.Stepped.TheVariants.{Made}
use Rattle.erim_process.specs.ProcessValue.{state_of}
use Rattle.erim_process.proofs.RunningLemmas.{made_now}
use Rattle.erim_process.proofs.process.Process.step_live.Goals as goal
use Rattle.erim_process.proofs.process.Process.step_live.Goals.{After-step_now}

-- the step was made
made : (c : After-step_now) → c.step_now.result ≡ Made
made c =
    let s = state_of c.args.self.now in
    let budget = ap (λ (setup : Setup). setup.budget) c.setup-setup.ensures.same in
    let steps = c.steps-steps.ensures.value in
    let few = c.steps-steps.ensures.within in
    let within : s.steps ≤ s.setup.budget = omega (arith, budget, steps, few) in
    c.step_now.ensures.answer ∙ made_now s c.args.thread c.requires.runs within c.requires.live

pub returns-clause-journal : goal.returns-clause-journal
returns-clause-journal c =
    c.step_now.ensures.journal (made (goal.at.returns-clause-journal c).After-step_now)

pub returns-clause-state : goal.returns-clause-state
returns-clause-state c =
    c.step_now.ensures.state (made (goal.at.returns-clause-state c).After-step_now)

pub returns-clause-counted : goal.returns-clause-counted
returns-clause-counted c =
    c.step_now.ensures.counted (made (goal.at.returns-clause-counted c).After-step_now)

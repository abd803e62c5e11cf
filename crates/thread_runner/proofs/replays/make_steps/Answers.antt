use Rattle.std.proofs.Common.{◌≡◌, ◌-◌, ◌+◌, Some, suc, sym, ◌∙◌, ap, arith}
use Rattle.erim_process.specs.ProcessValue.{state_of}
use Rattle.erim_defs.specs.declared.replay_fault.ReplayFault.{ReplayFault}
use Rattle.erim_defs.specs.declared.replay_fault.ReplayFault.TheVariants.{PastEnd, PastBudget}
use Rattle.erim_defs.specs.declared.replay_fault.ReplayFault.TheVariants.{NotLive}
use Rattle.erim_defs.specs.Machine.ReplayFaults.{fault_of_answer, steps_fault}
use Rattle.thread_runner.proofs.ReplayLemmas.{left_broken, left_on, none_left}
use Rattle.thread_runner.proofs.replays.make_steps.Goals as goal
use Rattle.thread_runner.proofs.replays.make_steps.Goals.{After-step_now, After-steps}

-- the step that was answered so breaks the replay
broken : (c : After-step_now) (fault : ReplayFault)
    → fault_of_answer c.args.index c.step_now.result ≡ Some fault
    → steps_fault c.args.index c.args.entry.now.thread c.args.entry.now.count
    (state_of c.args.process.now) ≡ Some fault
broken c fault h =
    left_broken c.args.index c.args.entry.now c.args.process.now c.steps.process
    (c.args.entry.now.count - c.steps.counter) fault c.steps.invariant (omega arith)
    (sym (ap (fault_of_answer c.args.index) c.step_now.ensures.answer) ∙ h)

pub returns-in-Ended-clause-exact : goal.returns-in-Ended-clause-exact
returns-in-Ended-clause-exact c =
    broken (goal.at.returns-in-Ended-clause-exact c).After-step_now (PastEnd c.args.index)
    (ap (fault_of_answer c.args.index) c.in-Ended.is)

pub returns-in-Spent-clause-exact : goal.returns-in-Spent-clause-exact
returns-in-Spent-clause-exact c =
    broken (goal.at.returns-in-Spent-clause-exact c).After-step_now (PastBudget c.args.index)
    (ap (fault_of_answer c.args.index) c.in-Spent.is)

pub returns-in-NotLive-clause-exact : goal.returns-in-NotLive-clause-exact
returns-in-NotLive-clause-exact c =
    broken (goal.at.returns-in-NotLive-clause-exact c).After-step_now (NotLive c.args.index)
    (ap (fault_of_answer c.args.index) c.in-NotLive.is)

pub steps-preserved : goal.steps-preserved
steps-preserved c =
    let count = c.args.entry.now.count in
    let low = c.steps-test.true in
    let more : count - c.steps.counter ≡ suc (count - (c.steps.counter + 1)) =
    omega (arith, low) in
    left_on c.args.index c.args.entry.now c.args.process.now c.steps.process c.step_now.new.self
    (count - (c.steps.counter + 1)) (count - c.steps.counter) c.steps.invariant more
    (sym c.step_now.ensures.answer ∙ c.in-Made.is) (c.step_now.ensures.state c.in-Made.is)
    (c.step_now.ensures.journal c.in-Made.is)

pub returns-clause-exact : goal.returns-clause-exact
returns-clause-exact c =
    (none_left c.args.index c.args.entry.now c.args.process.now c.steps.process
    (c.args.entry.now.count - c.steps.counter) c.steps.invariant (omega arith)).fault

pub returns-clause-run : goal.returns-clause-run
returns-clause-run c =
    (none_left c.args.index c.args.entry.now c.args.process.now c.steps.process
    (c.args.entry.now.count - c.steps.counter) c.steps.invariant (omega arith)).run

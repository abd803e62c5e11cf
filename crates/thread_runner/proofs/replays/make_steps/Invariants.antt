use Rattle.std.proofs.Common.{◌-◌}
use Rattle.thread_runner.proofs.ReplayLemmas.{IsLeft}
use Rattle.thread_runner.proofs.replays.make_steps.Given as goal

abbrev pub invariant-steps : goal.invariant-steps
invariant-steps l =
    IsLeft l.index l.entry l.fn.process l.process (l.entry.count - l.counter)

use Rattle.std.proofs.Common.{◌≡◌, ◌<◌, ◌-◌}
use Rattle.erim_process.specs.ProcessValue.{state_of}
use Rattle.thread_runner.specs.Running.{LeadsBy}
use Rattle.thread_runner.proofs.runner.run_slices.Given as goal

abbrev pub invariant-loop-next : goal.invariant-loop-next
invariant-loop-next l = record {
  setup : l.process.setup ≡ l.fn.process.setup;
  low : l.slice.thread < 16;
  slices : LeadsBy l.quantum l.fn.process l.process l.slice;
}

abbrev pub decreases-loop-next : goal.decreases-loop-next
decreases-loop-next l = l.process.setup.budget - (state_of l.process).steps

use Rattle.std.proofs.Common.{drop}
use Rattle.thread_runner.proofs.ReplayLemmas.{IsRest}
use Rattle.thread_runner.proofs.replays.make_entries.Given as goal

abbrev pub invariant-loop-index : goal.invariant-loop-index
invariant-loop-index l =
    IsRest l.entries l.fn.process l.process l.index (drop l.index l.entries)

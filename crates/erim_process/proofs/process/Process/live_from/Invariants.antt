use Rattle.std.proofs.Common.{◌≡◌, ℕ, ◌<◌, ◌≤◌, false}
use Rattle.erim_process.specs.ProcessValue.{state_of}
use Rattle.erim_defs.specs.Machine.TimeSlices.{is_live_at}
use Rattle.erim_process.proofs.process.Process.live_from.Given as goal

-- none of the threads that the loop has passed is live
abbrev pub invariant-loop-thread : goal.invariant-loop-thread
invariant-loop-thread l =
    (t : ℕ) → l.first ≤ t → t < l.thread → is_live_at (state_of l.self).threads t ≡ false

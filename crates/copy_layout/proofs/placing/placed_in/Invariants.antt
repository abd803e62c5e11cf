use Rattle.std.proofs.Common.{◌≡◌, ◌<◌, ℕ, false}
use Rattle.erim_defs.specs.Rewriting.Layout.{candidate}
use Rattle.copy_layout.specs.Trials.{ends_trial, trial_first}
use Rattle.copy_layout.proofs.placing.placed_in.Given as goal

abbrev pub invariant-loop-pad : goal.invariant-loop-pad
invariant-loop-pad l = (k : ℕ) → k < l.pad
    → ends_trial l.trial (candidate l.region (trial_first l.trial) k) ≡ false

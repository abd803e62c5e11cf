use Rattle.std.proofs.Common.{◌≡◌, ◌<◌, ◌&&◌, nat_lt, not, ℕ, false}
use Rattle.map_calls.specs.KeyAnswers.{key_map}
use Rattle.map_calls.proofs.keys.least_free.Given as goal

-- no key below is free
abbrev pub invariant-loop-key : goal.invariant-loop-key
invariant-loop-key l =
    (k : ℕ) → k < l.key → (nat_lt 1 k && not (key_map l.keys k)) ≡ false

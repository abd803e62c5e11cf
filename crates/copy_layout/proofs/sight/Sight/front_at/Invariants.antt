use Rattle.std.proofs.Common.{◌≡◌, ◌+◌, ◌<◌, ℕ, Some, length, slice_index}
use Rattle.copy_layout.specs.Trials.{sight_code}
use Rattle.copy_layout.proofs.sight.Sight.front_at.Given as goal

abbrev pub invariant-loop-place : goal.invariant-loop-place
invariant-loop-place l = record {
  room : length l.bytes ≡ 8;
  there : (k : ℕ) → k < l.place → sight_code l.self (l.a + k) ≡ Some (slice_index l.bytes k);
}

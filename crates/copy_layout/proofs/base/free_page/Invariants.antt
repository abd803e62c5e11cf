use Rattle.std.proofs.Common.{◌≡◌, ◌+◌, ◌<◌, ℕ, not, false}
use Rattle.erim_defs.specs.Inspection.Image.{segments}
use Rattle.erim_defs.specs.Rewriting.NewFile.{is_taken}
use Rattle.copy_layout.proofs.base.free_page.Given as goal

abbrev pub invariant-loop-count : goal.invariant-loop-count
invariant-loop-count l = (k : ℕ) → k < l.count
    → not (is_taken (segments l.image) (l.high + k)) ≡ false

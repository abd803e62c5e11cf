use Rattle.std.proofs.Common.{◌≡◌, ◌≤◌, ◌^◌, max, drop}
use Rattle.erim_defs.specs.Inspection.Image.{segments}
use Rattle.erim_defs.specs.Rewriting.NewFile.{high_page}
use Rattle.copy_layout.proofs.base.high_page.Given as goal

abbrev pub invariant-loop-segment : goal.invariant-loop-segment
invariant-loop-segment l = record {
  page : max l.high (high_page (drop l.segment-index (segments l.image)))
      ≡ high_page (segments l.image);
  low : l.high ≤ 2 ^ 35;
}

use Rattle.std.proofs.Common.{◌+◌, ◌-◌, ◌≤◌, length}
use Rattle.erim_defs.specs.Inspection.Code.{laid_at}
use Rattle.erim_defs.specs.Inspection.Unsafe.{NoneUnsafe}
use Rattle.safe_occurrence.proofs.scan.next_unsafe.Given as goal

abbrev pub invariant-scan : goal.invariant-scan
invariant-scan l = record {
  ahead : l.from ≤ l.place;
  none : NoneUnsafe l.trust (laid_at l.base l.code) (l.base + l.from) (l.base + l.place);
}

abbrev pub decreases-scan : goal.decreases-scan
decreases-scan l = length l.code - l.place

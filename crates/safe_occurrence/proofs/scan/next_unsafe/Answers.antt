use Rattle.std.proofs.Common.{arith, sym, ◌+◌, length}
use Rattle.erim_defs.proofs.OccurrenceLemmas.{occurrence_inside}
use Rattle.erim_defs.specs.Inspection.Code.{laid_at}
use Rattle.safe_occurrence.proofs.ScanLemmas.{scan_ends, scan_passes, scan_stops}
use Rattle.safe_occurrence.proofs.scan.next_unsafe.Goals as goal

pub returns-then-not-is_safe : goal.returns-then-not-is_safe
returns-then-not-is_safe c =
    let first = c.in-Some.ensures in
    let inside = occurrence_inside c.args.base c.args.code.now c.in-Some.found first.1 in
    scan_stops c.args.trust.now (laid_at c.args.base c.args.code.now) c.args.base
    (c.args.base + c.args.from) c.scan.place (c.args.base + length c.args.code.now)
    c.in-Some.found (omega (arith, c.scan.invariant.ahead))
    (omega (arith, inside.high, inside.some)) c.scan.invariant.none first
    (sym c.if-not-is_safe.ensures)

pub overflow_add-place : goal.overflow_add-place
overflow_add-place c =
    let inside = occurrence_inside c.args.base c.args.code.now c.in-Some.found
    c.in-Some.ensures.1 in
    omega (arith, inside.low, inside.high, c.requires)

pub scan-smaller : goal.scan-smaller
scan-smaller c =
    let first = c.in-Some.ensures in
    let inside = occurrence_inside c.args.base c.args.code.now c.in-Some.found first.1 in
    omega (arith, inside.low, inside.high, inside.some, first.0)

pub scan-preserved : goal.scan-preserved
scan-preserved c =
    let first = c.in-Some.ensures in
    let inside = occurrence_inside c.args.base c.args.code.now c.in-Some.found first.1 in
    record {
      ahead = omega (arith, inside.low, first.0, c.scan.invariant.ahead);
      none = scan_passes c.args.trust.now (laid_at c.args.base c.args.code.now) c.args.base
          (c.args.base + c.args.from) c.scan.place c.in-Some.found inside.low
          c.scan.invariant.none first (sym c.if-not-is_safe.ensures);
    }

pub returns : goal.returns
returns c =
    scan_ends c.args.trust.now (laid_at c.args.base c.args.code.now) c.args.base
    (c.args.base + c.args.from) c.scan.place (c.args.base + length c.args.code.now)
    c.scan.invariant.none c.in_default.ensures

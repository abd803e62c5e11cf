use Rattle.std.proofs.Common.{◌≡◌, ◌+◌, ℕ, drop}
use Rattle.erim_defs.specs.Inspection.Code.{laid_at}
use Rattle.erim_defs.specs.Inspection.Safe.{fits}
use Rattle.safe_occurrence.proofs.safe.check_fits.Given as goal

abbrev pub invariant-loop-step : goal.invariant-loop-step
invariant-loop-step l = (base : ℕ)
    → fits (laid_at base l.code) (base + l.place) l.check
    ≡ fits (laid_at base l.code) (base + l.place + l.step) (drop l.step l.check)

use Rattle.std.proofs.Common.{◌∙◌, sym}
use Rattle.erim_defs.specs.Inspection.Trust.{spans}
use Rattle.erim_defs.proofs.DomainLemmas.{beside_next}
use Rattle.erim_defs.proofs.trust.key_beside.Goals as goal

pub loop-place-preserved : goal.loop-place-preserved
loop-place-preserved c =
    sym (beside_next (spans c.args.addr) (record { start = 0; length = 0 }) c.args.ranges.now
    c.args.keys.now c.loop-place.place c.loop-place-test.true
    (sym c.holds.ensures ∙ c.if-holds.false))
    ∙ c.loop-place.invariant

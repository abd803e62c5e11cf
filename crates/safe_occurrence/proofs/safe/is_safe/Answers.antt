use Rattle.std.proofs.Common.{arith, ◌+◌, ◌-◌, ◌∙◌, sym}
use Rattle.erim_defs.proofs.OccurrenceLemmas.{occurrence_inside}
use Rattle.erim_defs.specs.Inspection.Code.{laid_at}
use Rattle.erim_defs.proofs.SafeLemmas.{safe_by_gate, safe_by_check}
use Rattle.safe_occurrence.proofs.safe.is_safe.Goals as goal

pub overflow_sub-behind : goal.overflow_sub-behind
overflow_sub-behind c = (occurrence_inside c.args.base c.args.code.now c.args.found.now
    c.requires.there).low

pub overflow_add-behind : goal.overflow_add-behind
overflow_add-behind c =
    let inside = occurrence_inside c.args.base c.args.code.now c.args.found.now c.requires.there in
    omega (arith, inside.low, inside.high)

pub fits_check-requires : goal.fits_check-requires
fits_check-requires c =
    let inside = occurrence_inside c.args.base c.args.code.now c.args.found.now c.requires.there in
    omega (arith, inside.low, inside.high, c.requires.user)

pub overflow_add-base : goal.overflow_add-base
overflow_add-base c =
    let inside = occurrence_inside c.args.base c.args.code.now c.args.found.now c.requires.there in
    omega (arith, inside.low, inside.high, c.requires.user)

pub overflow_add-base-else-opens_gate : goal.overflow_add-base-else-opens_gate
overflow_add-base-else-opens_gate c =
    let inside = occurrence_inside c.args.base c.args.code.now c.args.found.now c.requires.there in
    omega (arith, inside.low, inside.high, c.requires.user)

pub returns-then-opens_gate : goal.returns-then-opens_gate
returns-then-opens_gate c =
    let inside = occurrence_inside c.args.base c.args.code.now c.args.found.now c.requires.there in
    c.if-opens_gate.true ∙ sym (safe_by_gate _ (laid_at c.args.base c.args.code.now)
    c.args.found.now (c.args.base + (c.args.found.now.at - c.args.base + c.args.found.now.len))
    (omega (arith, inside.low)) (sym c.opens_gate.ensures ∙ c.if-opens_gate.true))

pub returns-else-opens_gate : goal.returns-else-opens_gate
returns-else-opens_gate c =
    let inside = occurrence_inside c.args.base c.args.code.now c.args.found.now c.requires.there in
    let next = c.args.base + (c.args.found.now.at - c.args.base + c.args.found.now.len) in
    sym (c.fits_check.ensures c.args.base) ∙
    (safe_by_check c.args.trust.now (laid_at c.args.base c.args.code.now) c.args.found.now next
    (omega (arith, inside.low)) (sym c.opens_gate.ensures ∙ c.if-opens_gate.false))

use Rattle.std.proofs.Common.{arith, ◌≡◌, ◌+◌, ◌∙◌, true, false, get_or}
use Rattle.erim_defs.specs.Inspection.Code.{laid_at, allows}
use Rattle.erim_defs.proofs.SafeLemmas.{fits_step, fits_nothing}
use Rattle.safe_occurrence.proofs.safe.check_fits.Goals as goal

pub returns-then-not-byte_allows : goal.returns-then-not-byte_allows
returns-then-not-byte_allows c = λ base.
    let i = c.loop-step.step in
    let start = base + c.args.place in
    let here : allows (laid_at base c.args.code.now (start + i)) (get_or c.args.check.now i 0)
    ≡ false =
    c.byte_allows.ensures base (start + i) (omega arith) ∙ c.if-not-byte_allows.true in
    c.loop-step.invariant base
    ∙ fits_step (laid_at base c.args.code.now) start i c.args.check.now c.loop-step-test.true
    false here

pub loop-step-preserved : goal.loop-step-preserved
loop-step-preserved c = λ base.
    let i = c.loop-step.step in
    let start = base + c.args.place in
    let here : allows (laid_at base c.args.code.now (start + i)) (get_or c.args.check.now i 0)
    ≡ true =
    c.byte_allows.ensures base (start + i) (omega arith) ∙ c.if-not-byte_allows.false in
    c.loop-step.invariant base
    ∙ fits_step (laid_at base c.args.code.now) start i c.args.check.now c.loop-step-test.true
    true here

pub returns : goal.returns
returns c = λ base. c.loop-step.invariant base
    ∙ fits_nothing (laid_at base c.args.code.now) (base + c.args.place + c.loop-step.step)
    c.loop-step.step c.args.check.now c.loop-step-test.false

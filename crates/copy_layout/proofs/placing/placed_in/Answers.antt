use Rattle.std.proofs.Common.{◌∙◌, ◌≡◌, ℕ, Some, false, arith, sym}
use borrow.Author.Count.{below_more}
use Rattle.erim_defs.specs.Rewriting.Layout.{if_spelled}
use Rattle.copy_layout.specs.Trials.{ends_trial}
use Rattle.copy_layout.proofs.PlacingLemmas.{candidate_in, not_clean, placed_clean}
use Rattle.copy_layout.proofs.placing.placed_in.Goals as goal

pub returns-then-branch : goal.returns-then-branch
returns-then-branch c =
    let t = c.args.trial.now in
    let r = c.args.region.now in
    let first = c.first-first.ensures.first in
    let some : if_spelled (candidate_in t r c.loop-pad.pad) ≡ Some c.in-Some.copy =
    rw (← first) (sym c.in_ok-copy.ensures ∙ c.in-Some.is) in
    sym (placed_clean t r c.loop-pad.pad c.in-Some.copy (omega arith) some
    (sym c.in_ok-is_clean.ensures ∙ c.if-branch.true) c.loop-pad.invariant)

pub loop-pad-preserved : goal.loop-pad-preserved
loop-pad-preserved c =
    let t = c.args.trial.now in
    let r = c.args.region.now in
    let first = c.first-first.ensures.first in
    let some : if_spelled (candidate_in t r c.loop-pad.pad) ≡ Some c.in-Some.copy =
    rw (← first) (sym c.in_ok-copy.ensures ∙ c.in-Some.is) in
    below_more (λ (k : ℕ). ends_trial t (candidate_in t r k) ≡ false) c.loop-pad.pad
    c.loop-pad.invariant
    (not_clean t r c.loop-pad.pad c.in-Some.copy some
    (sym c.in_ok-is_clean.ensures ∙ c.if-branch.false))

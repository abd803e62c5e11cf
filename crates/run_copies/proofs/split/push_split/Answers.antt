use Rattle.std.proofs.Common.{◌≡◌, sym, ap, ◌∙◌, subst, arith}
use Rattle.std.specs.Prelude.{is_some}
use Rattle.run_copies.proofs.SplitLemmas.{NoneBelow, no_split, split_found, split_never}
use Rattle.run_copies.proofs.split.push_split.Goals as goal

pub returns-then-branch-clause-fits : goal.returns-then-branch-clause-fits
returns-then-branch-clause-fits c =
    let holds = sym c.in_ok-push_split_by.ensures.fits ∙ c.if-branch.true in
    let same = split_found c.args.insn.now c.loop-d.d c.loop-d.invariant.below
    c.loop-d.invariant.some c.loop-d-test.true holds in
    sym (ap is_some same ∙ holds)

pub returns-then-branch-clause-bytes : goal.returns-then-branch-clause-bytes
returns-then-branch-clause-bytes c =
    let holds = sym c.in_ok-push_split_by.ensures.fits ∙ c.if-branch.true in
    let same = split_found c.args.insn.now c.loop-d.d c.loop-d.invariant.below
    c.loop-d.invariant.some c.loop-d-test.true holds in
    rw (same, ← c.loop-d.invariant.same) c.in_ok-push_split_by.ensures.bytes

pub returns-clause-fits : goal.returns-clause-fits
returns-clause-fits c =
    let last : c.loop-d.d ≡ 128 = omega (arith, c.loop-d-test.false, c.loop-d.auto.d-end) in
    sym (ap is_some (split_never c.args.insn.now
    (subst (NoneBelow c.args.insn.now) last c.loop-d.invariant.below)))

pub returns-clause-bytes : goal.returns-clause-bytes
returns-clause-bytes c =
    let last : c.loop-d.d ≡ 128 = omega (arith, c.loop-d-test.false, c.loop-d.auto.d-end) in
    no_split _ _ _ c.loop-d.invariant.same (split_never c.args.insn.now
    (subst (NoneBelow c.args.insn.now) last c.loop-d.invariant.below))

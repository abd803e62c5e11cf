use Rattle.std.proofs.Common.{◌≡◌, ◌+◌, ◌++◌, ◌∷◌, [], IfOk, OnOk, sym, ◌∙◌, subst, arith}
use Rattle.std.proofs.Common.{length, true}
use Rattle.erim_defs.specs.Rewriting.Copies.{Back, bytes_of, copy_parts, jump}
use Rattle.run_copies.specs.Spelling.{all_fit}
use Rattle.run_copies.proofs.CopyLemmas.{all_fits, all_told, pushed_first, pushed_next}
use Rattle.run_copies.proofs.CopyLemmas.{pushed_stuck}
use Rattle.run_copies.proofs.parts.push_parts.Goals as goal

pub loop-insn-init : goal.loop-insn-init
loop-insn-init c = pushed_first c.args.region.now c.args.first c.args.bytes.now.items

pub returns-then-not-branch-clause-fits : goal.returns-then-not-branch-clause-fits
returns-then-not-branch-clause-fits c =
    sym (pushed_stuck _ _ _ _ _ _ _ _ (c.args.first + c.len.result) _ c.insn-item.result _ _
    c.loop-insn.invariant c.elements-elements.ensures.elements c.insns-insn-items.ensures
    c.insn-item.is
    (omega (arith, c.len.ensures, c.loop-insn.bytes.ok.0)) c.loop-insn-test.true
    (sym c.in_ok-push_insn.ensures.fits ∙ c.if-not-branch.true))

pub returns-then-not-branch-clause-bytes : goal.returns-then-not-branch-clause-bytes
returns-then-not-branch-clause-bytes c =
    let stuck = pushed_stuck _ _ _ _ _ _ _ _ (c.args.first + c.len.result) _ c.insn-item.result _ _
    c.loop-insn.invariant c.elements-elements.ensures.elements c.insns-insn-items.ensures
    c.insn-item.is
    (omega (arith, c.len.ensures, c.loop-insn.bytes.ok.0)) c.loop-insn-test.true
    (sym c.in_ok-push_insn.ensures.fits ∙ c.if-not-branch.true) in
    λ fits. absurd cc

pub loop-insn-preserved : goal.loop-insn-preserved
loop-insn-preserved c =
    let fits = sym c.in_ok-push_insn.ensures.fits ∙ c.if-not-branch.false in
    pushed_next _ _ _ _ _ _ _ _ _ _ (c.args.first + c.len.result) _ c.insn-item.result _ _
    c.loop-insn.invariant c.elements-elements.ensures.elements c.insns-insn-items.ensures
    c.insn-item.is
    (omega (arith, c.len.ensures, c.loop-insn.bytes.ok.0)) c.loop-insn-test.true
    fits (c.in_ok-push_insn.ensures.bytes fits) c.in_ok-push_gap.ensures

pub returns-clause-fits : goal.returns-clause-fits
returns-clause-fits c =
    let same = all_fits _ _ _ _ _ _ _ _ (c.args.first + c.len-2.result) _ _ c.loop-insn.invariant
    c.insns-insn-items.ensures (omega (arith, c.len-2.ensures, c.loop-insn.bytes.ok.0))
    c.end.ensures.end c.loop-insn-test.false in
    subst (λ b. IfOk c.push_back.result (λ fits. fits ≡ b)) same c.push_back.ensures.fits

pub returns-clause-bytes : goal.returns-clause-bytes
returns-clause-bytes c =
    let at = c.args.first + c.len-2.result in
    let same = all_fits _ _ _ _ _ _ _ _ at _ _ c.loop-insn.invariant c.insns-insn-items.ensures
    (omega (arith, c.len-2.ensures, c.loop-insn.bytes.ok.0)) c.end.ensures.end
    c.loop-insn-test.false in
    let told = all_told _ _ _ _ _ _ _ _ at _ _ c.loop-insn.invariant c.insns-insn-items.ensures
    (omega (arith, c.len-2.ensures, c.loop-insn.bytes.ok.0)) c.end.ensures.end
    c.loop-insn-test.false in
    subst (λ b. OnOk c.push_back.result (b ≡ true → c.push_back.new.bytes.items
    ≡ c.args.bytes.now.items ++ bytes_of (copy_parts c.args.region.now
    (c.args.first + length c.args.bytes.now.items)))) same
    (subst (λ xs. OnOk c.push_back.result (all_fit (jump Back at c.end.result c.end.result ∷ [])
    ≡ true → c.push_back.new.bytes.items ≡ xs)) told c.push_back.ensures.bytes)

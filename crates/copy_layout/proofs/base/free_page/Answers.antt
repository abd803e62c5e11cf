use Rattle.std.proofs.Common.{arith}
use Rattle.std.proofs.lemmas.Grind.{common_steps}
use Rattle.erim_defs.specs.Inspection.Image.{segments}
use Rattle.copy_layout.proofs.BaseLemmas.{page_found, page_none}
use Rattle.copy_layout.proofs.base.free_page.Goals as goal

pub returns-then-not-is_taken-clause-page : goal.returns-then-not-is_taken-clause-page
returns-then-not-is_taken-clause-page c =
    let ss = segments c.args.image.now in
    let e = c.high_page-high.ensures.page in
    let others = rw e at c.loop-count.invariant in
    rw e (page_found ss c.loop-count.count (omega arith) (grind (arith, common_steps)) others)

pub returns-clause-page : goal.returns-clause-page
returns-clause-page c =
    let ss = segments c.args.image.now in
    let e = c.high_page-high.ensures.page in
    let others = rw e at c.loop-count.invariant in
    rw e (page_none ss (λ k l. others k (omega arith)))

use Rattle.std.proofs.Common.{◌∙◌, arith}
use Rattle.std.proofs.lemmas.Bool.{le-ltb}
use Rattle.rewrite_sites.proofs.TargetLemmas.{between_at, between_none}
use Rattle.rewrite_sites.proofs.targets.some_between.Goals as goal

pub returns-then-next-sorted : goal.returns-then-next-sorted
returns-then-next-sorted c =
    between_at c.args.sorted.now c.args.start c.args.end c.count_up_to-next.result 0 c.requires
    c.count_up_to-next.ensures.point (omega (arith, c.if-next-sorted.true))

pub returns-else-next-sorted : goal.returns-else-next-sorted
returns-else-next-sorted c =
    le-ltb _ _ (omega (arith, c.if-next-sorted.false))
    ∙ between_none c.args.sorted.now c.args.start c.args.end c.count_up_to-next.result
    c.count_up_to-next.ensures.point (omega (arith, c.if-next-sorted.false))

use Rattle.std.proofs.Common.{leb, leb-true, rules}
use Rattle.std.proofs.lemmas.Bool.{leb-false}
use Rattle.std.proofs.lemmas.List.Sorted.{IsPartitionPoint-from_clause, IsPartitionedBy-leb}
use Rattle.rewrite_sites.proofs.targets.count_up_to.Goals as goal

pub returns-clause-point : goal.returns-clause-point
returns-clause-point c =
    let start = c.args.start in
    let parted = IsPartitionedBy-leb (λ t. t) _ start c.requires in
    let point = IsPartitionPoint-from_clause (λ t. leb t start) _ _
    c.partition_point.ensures.partitioned parted (λ a r q k. search rules) in (
      λ k d low high. leb-true _ _ (point.0 k d low high),
      λ k d low high. leb-false _ _ (point.1 k d low high),
    )

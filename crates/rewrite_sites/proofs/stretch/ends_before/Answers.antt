use Rattle.std.proofs.Common.{leb, rules}
use Rattle.std.proofs.lemmas.List.Sorted.{IsPartitionPoint-from_clause, IsPartitionedBy-leb}
use Rattle.erim_defs.specs.Rewriting.Standing.{insn_end}
use Rattle.rewrite_sites.proofs.StretchLemmas.{from_point}
use Rattle.rewrite_sites.proofs.stretch.ends_before.Goals as goal

pub returns-clause-list : goal.returns-clause-list
returns-clause-list c =
    let address = c.args.address in
    let parted = IsPartitionedBy-leb insn_end _ address c.requires in
    let point = IsPartitionPoint-from_clause (λ i. leb (insn_end i) address) _ _
    c.partition_point.ensures.partitioned parted (λ a r q k. search rules) in
    from_point address _ _ point

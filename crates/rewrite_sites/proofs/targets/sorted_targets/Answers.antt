use Rattle.std.proofs.Common.{◌++◌, ◌∷◌, [], ◌∙◌, ap}
use Rattle.rewrite_sites.proofs.TargetLemmas.{has_targets}
use Rattle.rewrite_sites.proofs.targets.sorted_targets.Goals as goal

pub returns : goal.returns
returns c =
    has_targets c.args.functions.now c.args.trust.now c.args.entry c.in_ok-list.list.items
    c.entries.result.now _ _ c.in_ok-list.ensures c.entries.ensures
    (c.in_ok-push.ensures.items
    ∙ ap (λ xs. xs ++ c.args.entry ∷ []) c.in_ok-extend_from_slice.ensures.items)
    c.sort_unstable.ensures.permutation c.sort_unstable.ensures.sorted

use Rattle.std.proofs.Common.{◌≡◌, ◌≤◌, ◌^◌, drop}
use Rattle.trusted_heap.proofs.GapLemmas.{walked}
use Rattle.trusted_heap.proofs.fit.lowest_gap.Given as goal

-- the walk goes on from here
abbrev pub invariant-loop-block : goal.invariant-loop-block
invariant-loop-block l =
    (walked (drop l.block-index l.blocks) l.unit l.count ≡ walked l.blocks l.from l.count)
    × (l.unit ≤ 2 ^ 43)

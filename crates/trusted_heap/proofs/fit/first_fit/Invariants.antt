use Rattle.std.proofs.Common.{◌≡◌, ◌+◌, ◌≤◌, ◌^◌, take}
use Rattle.std.specs.Prelude.{IfSome}
use Rattle.erim_defs.specs.Machine.HeapCalls.{first_fit}
use Rattle.trusted_heap.proofs.fit.first_fit.Given as goal

-- the lowest of the ranges that were passed
abbrev pub invariant-loop-heap : goal.invariant-loop-heap
invariant-loop-heap l =
    (l.lowest ≡ first_fit (take l.heap-index l.heaps) l.blocks l.count)
    × IfSome l.lowest (λ unit. unit + l.count ≤ 2 ^ 43)

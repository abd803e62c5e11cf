use Rattle.std.proofs.Common.{◌≡◌, ◌++◌, take, drop}
use Rattle.erim_defs.specs.Machine.HeapCalls.{with_block}
use Rattle.trusted_heap.proofs.blocks.place_of.Given as goal

-- the block goes after those that were passed
abbrev pub invariant-loop-place : goal.invariant-loop-place
invariant-loop-place l =
    with_block l.block l.blocks
    ≡ take l.place l.blocks ++ with_block l.block (drop l.place l.blocks)

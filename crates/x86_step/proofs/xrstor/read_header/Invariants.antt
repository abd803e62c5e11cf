use Rattle.std.proofs.Common.{◌≡◌, ◌≤◌, ◌+◌, length}
use Rattle.x86_step.proofs.HeaderLemmas.{GotSome}
use Rattle.x86_step.proofs.xrstor.read_header.Given as goal

abbrev pub invariant-loop-i : goal.invariant-loop-i
invariant-loop-i g l =
    (length l.header ≡ 8)
    × GotSome g.M.Memory l.i (l.area + 512) l.header l.thread l.fn.memory l.memory
    × (g.M.Memory.spare l.fn.memory ≤ g.M.Memory.spare l.memory + l.i)

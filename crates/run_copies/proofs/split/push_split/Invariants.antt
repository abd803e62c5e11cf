use Rattle.std.proofs.Common.{◌≡◌, ◌<◌}
use Rattle.run_copies.proofs.SplitLemmas.{NoneBelow}
use Rattle.run_copies.proofs.split.push_split.Given as goal

abbrev pub invariant-loop-d : goal.invariant-loop-d
invariant-loop-d l = record {
  same : l.bytes.items ≡ l.fn.bytes.items;
  below : NoneBelow l.insn l.d;
  some : 0 < l.d;
}

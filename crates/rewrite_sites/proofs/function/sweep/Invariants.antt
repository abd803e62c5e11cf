use Rattle.std.proofs.Common.{◌+◌, ◌≤◌, ◌^◌, length}
use Rattle.erim_defs.specs.Rewriting.Standing.{sweep}
use Rattle.rewrite_sites.proofs.SweptLemmas.{Told}
use Rattle.rewrite_sites.proofs.function.sweep.Given as goal

abbrev pub invariant-sweeping : goal.invariant-sweeping
invariant-sweeping l = record {
  told : Told (sweep (length l.fn.bytes) l.fn.start l.fn.bytes) (length l.fn.bytes)
      l.insns.items l.at l.rest;
  user : l.at + length l.rest ≤ 2 ^ 47;
}

abbrev pub decreases-sweeping : goal.decreases-sweeping
decreases-sweeping l = length l.rest

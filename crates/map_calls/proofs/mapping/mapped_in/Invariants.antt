use Rattle.std.proofs.Common.{◌≡◌, ◌+◌, ◌-◌, ◌≤◌, is_some}
use Rattle.erim_defs.specs.Machine.Count.{count_below}
use Rattle.erim_defs.specs.Machine.Access.{rights_in}
use Rattle.map_calls.proofs.mapping.mapped_in.Given as goal

abbrev pub invariant-loop-page : goal.invariant-loop-page
invariant-loop-page g l = record {
  from : l.range.first ≤ l.from;
  low : l.from ≤ l.range.first + l.range.count;
  few : l.count ≤ l.from - l.range.first;
  counted : l.count ≡ count_below (l.from - l.range.first)
      (λ k. is_some (rights_in (g.P.Memory.seen l.pages) (l.range.first + k)));
}

abbrev pub decreases-loop-page : goal.decreases-loop-page
decreases-loop-page g l = l.range.first + l.range.count - l.from

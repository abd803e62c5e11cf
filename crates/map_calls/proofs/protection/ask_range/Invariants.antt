use Rattle.std.proofs.Common.{◌≡◌, ◌+◌, ◌-◌, ◌≤◌}
use Rattle.map_calls.specs.Ranges.{anew, rights_within}
use Rattle.erim_defs.specs.Machine.Access.{rights_in}
use Rattle.map_calls.proofs.protection.ask_range.Given as goal

abbrev pub invariant-loop-page : goal.invariant-loop-page
invariant-loop-page g l = record {
  from : l.range.first ≤ l.from;
  low : l.from ≤ l.range.first + l.range.count;
  rights : rights_in (g.P.Memory.seen l.pages)
      ≡ rights_within (rights_in (g.P.Memory.seen l.fn.pages)) l.range.first l.from
      (anew l.asked l.key);
  bytes : g.P.Memory.bytes l.pages ≡ g.P.Memory.bytes l.fn.pages;
  frames : g.P.Memory.frames l.pages ≡ g.P.Memory.frames l.fn.pages;
}

abbrev pub decreases-loop-page : goal.decreases-loop-page
decreases-loop-page g l = l.range.first + l.range.count - l.from

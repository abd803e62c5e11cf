use Rattle.std.proofs.Common.{◌≡◌, ℕ, ◌+◌, ◌-◌, ◌<◌, ◌≤◌, false}
use Rattle.erim_defs.specs.Machine.MapCalls.{is_denied_page}
use Rattle.erim_defs.specs.Machine.Access.{rights_in}
use Rattle.map_calls.proofs.guards.has_denied_page.Given as goal

abbrev pub invariant-loop-page : goal.invariant-loop-page
invariant-loop-page g l = record {
  from : l.range.first ≤ l.from;
  none : (q : ℕ) → l.range.first ≤ q → q < l.from
      → is_denied_page l.trust l.pkru (rights_in (g.P.Memory.seen l.pages) q) ≡ false;
}

abbrev pub decreases-loop-page : goal.decreases-loop-page
decreases-loop-page g l = l.range.first + l.range.count - l.from

use Rattle.std.proofs.Common.{◌≡◌, ℕ, ◌<◌, ◌≤◌, ◌^◌, ◌-◌, false}
use Rattle.erim_defs.specs.declared.linux.TheConstants.{LOWEST_FREE_PAGE}
use Rattle.erim_defs.specs.Machine.MapCalls.{is_free_range}
use Rattle.erim_defs.specs.Machine.Access.{rights_in}
use Rattle.map_calls.proofs.mapping.lowest_free.Given as goal

abbrev pub invariant-loop-page : goal.invariant-loop-page
invariant-loop-page g l = record {
  from : LOWEST_FREE_PAGE ≤ l.first;
  low : l.first ≤ 2 ^ 35;
  taken : (k : ℕ) → k < l.first
      → is_free_range (rights_in (g.P.Memory.seen l.pages)) (record { first = k; count = l.count })
      ≡ false;
}

abbrev pub decreases-loop-page : goal.decreases-loop-page
decreases-loop-page g l = 2 ^ 35 - l.first

use Rattle.std.proofs.Common.{◌≡◌, ℕ, ◌<◌, ◌≤◌, is_none, false}
use Rattle.erim_defs.specs.Machine.Access.{rights_in}
use Rattle.map_calls.proofs.protection.has_unmapped.Given as goal

-- the pages so far are mapped
abbrev pub invariant-loop-page : goal.invariant-loop-page
invariant-loop-page g l =
    (q : ℕ) → l.range.first ≤ q → q < l.page
    → is_none (rights_in (g.P.Memory.seen l.pages) q) ≡ false

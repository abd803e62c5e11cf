use Rattle.std.proofs.Common.{◌≡◌, ◌≤◌, ◌<◌, ◌-◌, ◌^◌, ℕ, true}
use Rattle.erim_defs.specs.Inspection.Image.{is_executable, is_page_of}
use Rattle.image_code.proofs.ranges.range_end.Given as goal

abbrev pub invariant-grow : goal.invariant-grow
invariant-grow l = record {
  from : l.first ≤ l.end;
  user : l.end ≤ 2 ^ 35;
  within : (page : ℕ) → l.first ≤ page → page < l.end
      → is_page_of is_executable l.segments page ≡ true;
}

abbrev pub decreases-grow : goal.decreases-grow
decreases-grow l = 2 ^ 35 - l.end

-- The least number of which a test holds.
use Rattle.std.specs.Prelude.{ℕ, ◌||◌, zero, suc, Bool, false, Option, Some, None}
use Rattle.std.specs.Prelude.{if◌then◌else◌}
use Rattle.erim_defs.specs.Inspection.Code.{or_else}

-- a test holds of a number below n
unfoldable pub any_below : ℕ → (ℕ → Bool) → Bool
any_below zero test = false
any_below (suc n) test = test n || any_below n test

-- the least number below n of which a test holds
unfoldable pub least_below : ℕ → (ℕ → Bool) → Option ℕ
least_below zero test = None
least_below (suc n) test = or_else (least_below n test) (if test n then Some n else None)

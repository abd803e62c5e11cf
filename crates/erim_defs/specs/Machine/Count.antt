-- How many pages are mapped. Own.
use Rattle.std.specs.Prelude.{◌≡◌, refl, ℕ, ◌+◌, ◌^◌, Bool, is_some, zero, suc, if◌then◌else◌}
use Rattle.erim_defs.specs.Machine.Pages.{RightsMap}

-- how many numbers below n a test holds of
unfoldable pub count_below : ℕ → (ℕ → Bool) → ℕ
count_below zero test = 0
count_below (suc n) test = (if test n then 1 else 0) + count_below n test

-- 2^35, the number of user pages; sealed, so that no proof counts up to it
pub last_page : ℕ
last_page = 2 ^ 35

pub last_page_is : last_page ≡ 2 ^ 35
unfolding last_page
last_page_is = refl

unfoldable pub mapped_pages : RightsMap → ℕ
mapped_pages rights = count_below last_page (λ q. is_some (rights q))

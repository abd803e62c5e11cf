-- Ranges of pages, and what is done to each of their pages. Own.
use Rattle.std.specs.Prelude.{◌≡◌, ℕ, ◌+◌, ◌/◌, ◌%◌, ◌<◌, ◌≤◌, ◌==◌, ◌&&◌, ◌||◌, not, nat_lt}
use Rattle.std.specs.Prelude.{nat_le}
use Rattle.std.specs.Prelude.{true, false, Option, Some, None, IsSome, Result, Ok, Err}
use Rattle.std.specs.Prelude.{if◌then◌else◌, option_map}
use Rattle.erim_defs.specs.declared.linux.TheConstants.{EINVAL, ENOMEM}
use Rattle.erim_defs.specs.declared.machine.Rights.{Rights}
use Rattle.erim_defs.specs.Machine.MapCalls.{PageRange, range_of, ends_past_user, asked_anew}
use Rattle.erim_defs.specs.Machine.MapCalls.{key_or}
use Rattle.erim_defs.specs.Machine.MapCalls.{lowest_free}
use Rattle.erim_defs.specs.Machine.Pages.{RightsMap, ByteMap}
use Rattle.map_calls.specs.declared.range.UserRange.{UserRange}

-- the pages of a range
abbrev pub page_range : UserRange → PageRange
page_range r = record { first = r.first; count = r.count }

-- the pages that a given number of bytes from an address on cover, or EINVAL where the address
-- isn't that of a page or they end past user memory
abbrev pub Covers : ℕ → ℕ → Result UserRange ℕ → Type 0
Covers addr len (Err e) =
    (e ≡ EINVAL) × ((not (addr % 4096 == 0) || ends_past_user (range_of addr len)) ≡ true)
Covers addr len (Ok r) =
    ((addr % 4096 == 0) ≡ true) × (ends_past_user (range_of addr len) ≡ false)
    × (page_range r ≡ range_of addr len)

-- the least mapped page from one on, up to an end
abbrev pub IsNextIn : RightsMap → ℕ → ℕ → Option ℕ → Type 0
IsNextIn rights from end None = (q : ℕ) → from ≤ q → q < end → rights q ≡ None
IsNextIn rights from end (Some p) =
    (from ≤ p) × (p < end) × IsSome (rights p) × ((q : ℕ) → from ≤ q → q < p → rights q ≡ None)

-- no page of a range is mapped
abbrev pub IsUnmapped : RightsMap → PageRange → Type 0
IsUnmapped rights r = (q : ℕ) → r.first ≤ q → q < r.first + r.count → rights q ≡ None

-- the lowest free pages, so many, or ENOMEM
abbrev pub IsLowestFree : RightsMap → ℕ → Result UserRange ℕ → Type 0
IsLowestFree rights count (Err e) = (e ≡ ENOMEM) × (lowest_free rights count ≡ None)
IsLowestFree rights count (Ok r) =
    (r.count ≡ count) × (lowest_free rights count ≡ Some r.first) × IsUnmapped rights (page_range r)

-- the rights of a page that is asked anew, with another key where there is one
abbrev pub anew : ℕ → Option ℕ → Option Rights → Option Rights
anew asked key = λ o. option_map (λ rights. asked_anew asked (key_or rights.key key) rights) o

-- the rights changed from a page on, up to an end
abbrev pub rights_within : RightsMap → ℕ → ℕ → (Option Rights → Option Rights) → RightsMap
rights_within rights first end change =
    λ q. if nat_le first q && nat_lt q end then change (rights q) else rights q

-- zeros from a page on, up to an end
abbrev pub zeros_within : ByteMap → ℕ → ℕ → ByteMap
zeros_within bytes first end =
    λ a. if nat_le first (a / 4096) && nat_lt (a / 4096) end then 0 else bytes a

-- Pages in a list. Own.
use Rattle.std.specs.Prelude.{ℕ, ◌/◌, ◌%◌, ◌^◌, ◌==◌, ◌&&◌, nat_lt, Bool, true, Option, Some, None}
use Rattle.std.specs.Prelude.{◌≡◌, ◌<◌, MatchOption, slice_index_or}
use Rattle.std.specs.Prelude.{is_none, List, [], ◌∷◌, slice_index, length, if◌then◌else◌}
use Rattle.erim_defs.specs.declared.machine.Rights.{Rights}
use Rattle.erim_defs.specs.Machine.Pages.{RightsMap, ByteMap}
use Rattle.page_store.specs.declared.page_list.Page.{Page}

-- the page of a number
abbrev pub find_page : List Page → ℕ → Option Page
find_page [] q = None
find_page (p ∷ ps) q = if p.number == q then Some p else find_page ps q

-- the page of a number stands at a place
abbrev pub StandsAt : List Page → ℕ → ℕ → Type 0
StandsAt ps q i = (i < length ps) × ((d : Page) → find_page ps q ≡ Some (slice_index_or ps i d))

-- the place of the page of a number, or none where no page has it
abbrev pub IsPlaceOf : List Page → ℕ → Option ℕ → Type 0
IsPlaceOf ps q place = MatchOption place (find_page ps q ≡ None) (StandsAt ps q)

abbrev pub rights_of : Option Page → Option Rights
rights_of None = None
rights_of (Some p) = Some p.rights

abbrev pub byte_of : Option Page → ℕ → ℕ
byte_of None i = 0
byte_of (Some p) i = slice_index p.bytes i

abbrev pub list_rights : List Page → RightsMap
list_rights ps = λ q. rights_of (find_page ps q)

abbrev pub list_bytes : List Page → ByteMap
list_bytes ps = λ a. byte_of (find_page ps (a / 4096)) (a % 4096)

abbrev pub is_sound : Rights → Bool
is_sound r = nat_lt r.key 16 && nat_lt r.asked 8

-- a page that is listed before the pages ps
abbrev pub is_fresh : Page → List Page → Bool
is_fresh p ps = is_none (find_page ps p.number) && nat_lt p.number (2 ^ 35) && is_sound p.rights
    && (length p.bytes == 4096)

-- each page number stands once and is below 2^35, and all rights are sound
abbrev pub is_listed : List Page → Bool
is_listed [] = true
is_listed (p ∷ ps) = is_fresh p ps && is_listed ps

abbrev pub lesser : ℕ → Option ℕ → ℕ
lesser n None = n
lesser n (Some m) = if nat_lt n m then n else m

-- the lesser of the least number so far and one more, if that is at least from
abbrev pub nearer : ℕ → ℕ → Option ℕ → Option ℕ
nearer n from least = if nat_lt n from then least else Some (lesser n least)

-- the least number at or above from, of a least so far and those of the pages
abbrev pub nearest : List Page → ℕ → Option ℕ → Option ℕ
nearest [] from least = least
nearest (p ∷ ps) from least = nearest ps from (nearer p.number from least)

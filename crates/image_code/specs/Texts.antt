-- The part of a code on trusted text. Own.
use Rattle.std.specs.Prelude.{◌≡◌, ℕ, ◌*◌, ◌/◌, ◌&&◌, nat_lt, Bool}
use Rattle.erim_defs.specs.Inspection.Trust.{TrustValue, in_text_of}

-- is the page trusted text
abbrev pub is_text_page : TrustValue → ℕ → Bool
is_text_page trust page = in_text_of trust (4096 * page)

-- is the page trusted text, and before another one
abbrev pub is_text_below : TrustValue → ℕ → ℕ → Bool
is_text_below trust end page = is_text_page trust page && nat_lt page end

-- trusted text is made of whole pages
abbrev pub IsPaged : TrustValue → Type 0
IsPaged trust = (a : ℕ) → in_text_of trust a ≡ is_text_page trust (a / 4096)

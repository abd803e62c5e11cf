-- Ranges of adjoining pages, and the bytes that a code has on them. Own.
use Rattle.std.specs.Prelude.{◌≡◌, ℕ, ◌+◌, ◌*◌, ◌-◌, ◌^◌, ◌&&◌, nat_le, nat_lt, ◌<◌, ◌≤◌, Bool}
use Rattle.std.specs.Prelude.{true, false, Option, Some, None, List, length, slice_index}
use Rattle.std.specs.Prelude.{if◌then◌else◌}
use Rattle.erim_defs.specs.declared.segment.Segment.{Segment}
use Rattle.erim_defs.specs.Inspection.Code.{Code, laid_at}
use Rattle.image_code.specs.declared.ranges.PageBounds.{PageBounds}

-- the first page from a page on that passes a test, or there is none
abbrev pub IsFirstPage : (ℕ → Bool) → ℕ → Option ℕ → Type 0
IsFirstPage test from None = (page : ℕ) → from ≤ page → test page ≡ false
IsFirstPage test from (Some first) = (from ≤ first) × (test first ≡ true) × ((page : ℕ)
    → from ≤ page → page < first → test page ≡ false)

-- the pages from one to another, of which there are some, pass a test; both lie in user memory
pub record GoesOn (test : ℕ → Bool) (page end : ℕ) : Type 0 where
  pub some : page < end
  pub user : end ≤ 2 ^ 35
  pub within : (at : ℕ) → page ≤ at → at < end → test at ≡ true

-- the pages of a range pass a test, and the one after it doesn't
pub record IsRange (test : ℕ → Bool) (pages : PageBounds) : Type 0 where
  pub some : pages.first < pages.end
  pub user : pages.end ≤ 2 ^ 35
  pub within : (page : ℕ) → pages.first ≤ page → page < pages.end → test page ≡ true
  pub behind : test pages.end ≡ false

-- no page between two passes a test
abbrev pub NoneBetween : (ℕ → Bool) → ℕ → ℕ → Type 0
NoneBetween test low high = (page : ℕ) → low ≤ page → page < high → test page ≡ false

-- the first range from a page on, or no page passes the test from there on
abbrev pub IsNextRange : (ℕ → Bool) → ℕ → Option PageBounds → Type 0
IsNextRange test from None = (page : ℕ) → from ≤ page → test page ≡ false
IsNextRange test from (Some pages) = (from ≤ pages.first) × NoneBetween test from pages.first
    × IsRange test pages

-- the bytes of a code on all pages of a range
pub record LaysRange (c : Code) (pages : PageBounds) (bytes : List ℕ) : Type 0 where
  pub long : length bytes ≡ 4096 * (pages.end - pages.first)
  pub same : (a : ℕ) → 4096 * pages.first ≤ a → a < 4096 * pages.end
      → laid_at (4096 * pages.first) bytes a ≡ c a

-- the byte of a segment's file part at an address, or another one where the part has none
abbrev pub part_byte_or : List ℕ → Segment → ℕ → ℕ → ℕ
part_byte_or bytes s a other = if nat_le s.vaddr a && nat_lt a (s.vaddr + s.filesz)
    then slice_index bytes (s.offset + (a - s.vaddr)) else other

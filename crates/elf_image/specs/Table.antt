-- The table of program headers, and what of it is left behind an index.
use Rattle.std.specs.Prelude.{ℕ, ◌+◌, ◌-◌, ◌*◌, ◌≤◌, List, [], ◌∷◌, length, zero, suc}
use Rattle.erim_defs.specs.declared.segment.Segment.{Segment}
use Rattle.erim_defs.specs.Inspection.Image.{Header, header_at, header_count, headers_from}
use Rattle.erim_defs.specs.Inspection.Image.{loadable_segments, table_place}

-- the bytes have a file header and the table that it says
pub record HasTable (bytes : List ℕ) : Type 0 where
  pub header : 64 ≤ length bytes
  pub few : header_count bytes ≤ 64
  pub within : table_place bytes + 56 * header_count bytes ≤ length bytes

-- the header of a number
unfoldable pub header_of : List ℕ → ℕ → Header
header_of bytes index = header_at bytes (table_place bytes + 56 * index)

-- the headers from a number on
unfoldable pub headers_left : List ℕ → ℕ → List Header
headers_left bytes index =
    headers_from bytes (table_place bytes + 56 * index) (header_count bytes - index)

-- a given number of headers, the last first
unfoldable pub seen_headers : List ℕ → ℕ → List Header
seen_headers bytes zero = []
seen_headers bytes (suc n) = header_of bytes n ∷ seen_headers bytes n

-- their loadable segments
unfoldable pub seen_segments : List ℕ → ℕ → List Segment
seen_segments bytes n = loadable_segments (seen_headers bytes n)

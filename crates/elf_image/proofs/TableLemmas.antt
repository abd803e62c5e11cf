-- One header after another.
use Rattle.std.proofs.Common.{◌≡◌, ℕ, suc, ◌+◌, ◌-◌, ◌*◌, ◌<◌, ◌≤◌, List, [], ◌∷◌, Some, None, true}
use Rattle.std.proofs.Common.{false, ◌||◌, ◌&&◌, inl, inr, refl, ap, arith, sum_by}
use Rattle.std.specs.List.{list_any}
use Rattle.std.proofs.lemmas.Bool.{cases_Bool}
use Rattle.erim_defs.specs.declared.segment.Segment.{Segment}
use Rattle.erim_defs.specs.declared.fault.ImageFault.TheVariants.{NotStatic, SegmentRange}
use Rattle.erim_defs.specs.declared.fault.ImageFault.TheVariants.{SharedPage}
use Rattle.erim_defs.specs.Inspection.Image.{header_at, header_count, headers, headers_from}
use Rattle.erim_defs.specs.Inspection.Image.{is_dynamic, is_loadable, is_ranged, loadable_segments}
use Rattle.erim_defs.specs.Inspection.Image.{header_pages, range_fault, shared_fault, shares_page}
use Rattle.erim_defs.specs.Inspection.Image.{static_fault, table_place}
use Rattle.elf_image.specs.Table.{header_of, headers_left, seen_headers, seen_segments}
use Rattle.erim_defs.proofs.PlaceLemmas.{ranged_few, total_more}

-- a number of headers that isn't 0
from_more : (bytes : List ℕ) (place n m : ℕ) → n ≡ suc m
    → headers_from bytes place n ≡ header_at bytes place ∷ headers_from bytes (place + 56) m
unfolding headers_from
from_more bytes place n m e = rw e refl

-- all are left at first
pub headers_left-all : (bytes : List ℕ) → headers_left bytes 0 ≡ headers bytes
unfolding headers_left headers
headers_left-all bytes =
    let place : table_place bytes + 56 * 0 ≡ table_place bytes = omega arith in
    let count : header_count bytes - 0 ≡ header_count bytes = omega arith in
    rw (place, count) refl

-- the next one
pub headers_left-next : (bytes : List ℕ) (index : ℕ) → index < header_count bytes
    → headers_left bytes index ≡ header_of bytes index ∷ headers_left bytes (index + 1)
unfolding headers_left header_of
headers_left-next bytes index h =
    let count : header_count bytes - index ≡ suc (header_count bytes - (index + 1)) = omega arith in
    let place : table_place bytes + 56 * (index + 1) ≡ table_place bytes + 56 * index + 56 =
    omega arith in
    rw place (from_more bytes (table_place bytes + 56 * index) _ _ count)

-- none at last
pub headers_left-none : (bytes : List ℕ) (index : ℕ) → header_count bytes ≤ index
    → headers_left bytes index ≡ []
unfolding headers_left headers_from
headers_left-none bytes index h =
    let count : header_count bytes - index ≡ 0 = omega arith in
    rw count refl

-- ---- the row of static headers

pub static_begins : (bytes : List ℕ)
    → static_fault 0 (seen_headers bytes 0) (headers_left bytes 0)
    ≡ static_fault 0 [] (headers bytes)
unfolding seen_headers
static_begins bytes = ap (static_fault 0 []) (headers_left-all bytes)

pub static_stops : (bytes : List ℕ) (index : ℕ) → index < header_count bytes
    → is_dynamic (header_of bytes index) ≡ true
    → static_fault index (seen_headers bytes index) (headers_left bytes index)
    ≡ Some (NotStatic index)
unfolding static_fault
static_stops bytes index h test = rw (headers_left-next bytes index h) (rw test refl)

pub static_goes_on : (bytes : List ℕ) (index : ℕ) → index < header_count bytes
    → is_dynamic (header_of bytes index) ≡ false
    → static_fault index (seen_headers bytes index) (headers_left bytes index)
    ≡ static_fault (index + 1) (seen_headers bytes (index + 1)) (headers_left bytes (index + 1))
unfolding static_fault seen_headers
static_goes_on bytes index h test =
    let more : index + 1 ≡ suc index = omega arith in
    rw (headers_left-next bytes index h) (rw test (rw more refl))

pub static_ends : (bytes : List ℕ) (index : ℕ) → header_count bytes ≤ index
    → static_fault index (seen_headers bytes index) (headers_left bytes index) ≡ None
unfolding static_fault
static_ends bytes index h = rw (headers_left-none bytes index h) refl

-- ---- the row of ranges

pub range_begins : (file_length : ℕ) (bytes : List ℕ)
    → range_fault file_length 0 (seen_headers bytes 0) (headers_left bytes 0)
    ≡ range_fault file_length 0 [] (headers bytes)
unfolding seen_headers
range_begins file_length bytes = ap (range_fault file_length 0 []) (headers_left-all bytes)

pub range_stops : (file_length index pages : ℕ) (bytes : List ℕ) → index < header_count bytes
    → sum_by header_pages (seen_headers bytes index) ≡ pages
    → is_ranged file_length pages (header_of bytes index) ≡ false
    → range_fault file_length index (seen_headers bytes index) (headers_left bytes index)
    ≡ Some (SegmentRange index)
unfolding range_fault
range_stops file_length index pages bytes h total test =
    rw (headers_left-next bytes index h) (rw (total, test) refl)

pub range_goes_on : (file_length index pages : ℕ) (bytes : List ℕ) → index < header_count bytes
    → sum_by header_pages (seen_headers bytes index) ≡ pages
    → is_ranged file_length pages (header_of bytes index) ≡ true
    → range_fault file_length index (seen_headers bytes index) (headers_left bytes index)
    ≡ range_fault file_length (index + 1) (seen_headers bytes (index + 1))
    (headers_left bytes (index + 1))
unfolding range_fault seen_headers
range_goes_on file_length index pages bytes h total test =
    let more : index + 1 ≡ suc index = omega arith in
    rw (headers_left-next bytes index h) (rw (total, test) (rw more refl))

pub range_pages : (index pages : ℕ) (bytes : List ℕ)
    → sum_by header_pages (seen_headers bytes index) ≡ pages
    → sum_by header_pages (seen_headers bytes (index + 1))
    ≡ pages + header_pages (header_of bytes index)
unfolding seen_headers
range_pages index pages bytes total =
    let more : index + 1 ≡ suc index = omega arith in
    rw more (total_more (header_of bytes index) (seen_headers bytes index) pages total)

pub range_none : (bytes : List ℕ) → sum_by header_pages (seen_headers bytes 0) ≡ 0
unfolding seen_headers
range_none bytes = refl

pub range_ends : (file_length index : ℕ) (bytes : List ℕ) → header_count bytes ≤ index
    → range_fault file_length index (seen_headers bytes index) (headers_left bytes index) ≡ None
unfolding range_fault
range_ends file_length index bytes h = rw (headers_left-none bytes index h) refl

-- ---- the row of shared pages

pub shared_begins : (bytes : List ℕ)
    → shared_fault 0 (seen_headers bytes 0) (headers_left bytes 0)
    ≡ shared_fault 0 [] (headers bytes)
unfolding seen_headers
shared_begins bytes = ap (shared_fault 0 []) (headers_left-all bytes)

pub shared_stops : (bytes : List ℕ) (index : ℕ) → index < header_count bytes
    → is_loadable (header_of bytes index) ≡ true
    → list_any (shares_page (header_of bytes index).segment) (seen_segments bytes index) ≡ true
    → shared_fault index (seen_headers bytes index) (headers_left bytes index)
    ≡ Some (SharedPage index)
unfolding shared_fault seen_segments
shared_stops bytes index h test shares =
    rw (headers_left-next bytes index h) (rw (test, shares) refl)

pub shared_goes_on : (bytes : List ℕ) (index : ℕ) → index < header_count bytes
    → (is_loadable (header_of bytes index)
    && list_any (shares_page (header_of bytes index).segment) (seen_segments bytes index)) ≡ false
    → shared_fault index (seen_headers bytes index) (headers_left bytes index)
    ≡ shared_fault (index + 1) (seen_headers bytes (index + 1)) (headers_left bytes (index + 1))
unfolding shared_fault seen_segments seen_headers
shared_goes_on bytes index h test =
    let more : index + 1 ≡ suc index = omega arith in
    rw (headers_left-next bytes index h) (rw test (rw more refl))

pub shared_ends : (bytes : List ℕ) (index : ℕ) → header_count bytes ≤ index
    → shared_fault index (seen_headers bytes index) (headers_left bytes index) ≡ None
unfolding shared_fault
shared_ends bytes index h = rw (headers_left-none bytes index h) refl

-- the segments before a header, one more
pub shares_none : (s : Segment) (bytes : List ℕ)
    → list_any (shares_page s) (seen_segments bytes 0) ≡ false
unfolding seen_segments seen_headers loadable_segments
shares_none s bytes = refl

pub shares_more : (s : Segment) (bytes : List ℕ) (n : ℕ)
    → list_any (shares_page s) (seen_segments bytes (n + 1))
    ≡ ((is_loadable (header_of bytes n) && shares_page s (header_of bytes n).segment)
    || list_any (shares_page s) (seen_segments bytes n))
unfolding seen_segments seen_headers loadable_segments
shares_more s bytes n =
    let more : n + 1 ≡ suc n = omega arith in
    elim (cases_Bool (is_loadable (header_of bytes n))) [
      | inl loads ↦ rw (more, loads) refl
      | inr not_loads ↦ rw (more, not_loads) refl
    ]

-- ---- by function, for the goals of its loop

pub ruleset static_steps = (static_begins, static_stops, static_goes_on, static_ends)

pub ruleset range_steps = (
  range_begins,
  range_stops,
  range_goes_on,
  range_pages,
  range_none,
  ranged_few,
  range_ends,
)

pub ruleset shared_steps = (shared_begins, shared_stops, shared_goes_on, shared_ends)

pub ruleset shares_steps = (shares_none, shares_more)

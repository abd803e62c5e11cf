-- Ranges of pages, and the bytes that are laid out for one.
use Rattle.std.proofs.Common.{◌≡◌, ℕ, ◌+◌, ◌-◌, ◌*◌, ◌/◌, ◌<◌, ◌≤◌, ◌∙◌, ◌⊎◌, List, length, take}
use Rattle.std.proofs.Common.{drop, get_or, max, min, Option, Some, None, Bool, true, false, ◌&&◌}
use Rattle.std.proofs.Common.{◌||◌, ltb, leb, refl, sym, ap, arith, inl, inr}
use Rattle.std.specs.List.{All, AllPairs}
use Rattle.std.proofs.lemmas.Bool.{cases_Bool, cases_lt, and_parts, leb-true, ltb-true, le-leb}
use Rattle.std.proofs.lemmas.Bool.{lt-leb, lt-ltb, le-ltb, both_ways}
use Rattle.std.proofs.lemmas.List.{get_or-take, get_or-drop}
use Rattle.std.proofs.lemmas.List.Folds.{list_any_more}
use Rattle.std.proofs.lemmas.Option.{slice_get-get_or}
use Rattle.erim_defs.specs.declared.segment.Segment.{Segment}
use Rattle.erim_defs.specs.Inspection.Code.{laid_at, or_else}
use Rattle.erim_defs.specs.Inspection.Image.{IsPlaced, is_executable, touches, is_page_of}
use Rattle.erim_defs.specs.Inspection.Image.{shares_page, segment_code, code_of}
use Rattle.erim_defs.proofs.CodeLemmas.{laid_at_place}
use Rattle.erim_defs.proofs.PageLemmas.{apart_absent, touches_from, byte_or_zero, code_of_absent}
use Rattle.erim_defs.proofs.PageLemmas.{code_of_present, code_of_more}
use Rattle.image_code.specs.declared.ranges.PageBounds.{PageBounds}
use Rattle.image_code.specs.Ranges.{IsFirstPage, IsRange, LaysRange, part_byte_or}

-- tests that answer alike have one first page
same_first : (f g : ℕ → Bool) (from : ℕ) (o : Option ℕ) → ((page : ℕ) → f page ≡ g page)
    → IsFirstPage f from o → IsFirstPage g from o
same_first f g from None same none = λ page low. sym (same page) ∙ none page low
same_first f g from (Some first) same is =
    (is.0, sym (same first) ∙ is.1, λ page low high. sym (same page) ∙ is.2 page low high)

-- the first page of one more segment
pub first_page_more : (ss : List Segment) (i : ℕ) (d : Segment) (from : ℕ) (o : Option ℕ)
    → i < length ss
    → IsFirstPage (λ page. is_page_of is_executable (take i ss) page
    || (is_executable (get_or ss i d) && touches (get_or ss i d) page)) from o
    → IsFirstPage (is_page_of is_executable (take (i + 1) ss)) from o
first_page_more ss i d from o lt is =
    same_first (λ page. is_page_of is_executable (take i ss) page
    || (is_executable (get_or ss i d) && touches (get_or ss i d) page)) (is_page_of
    is_executable (take (i + 1) ss)) from o
    (λ page. sym (list_any_more (λ s. is_executable s && touches s page) ss i d lt)) is

or_nothing : (o : Option ℕ) → or_else o None ≡ o
or_nothing None = refl
or_nothing (Some x) = refl

-- a segment that isn't executable adds no byte
pub passed_byte : (bytes : List ℕ) (ss : List Segment) (i : ℕ) (d : Segment) (a byte : ℕ)
    → i < length ss → is_executable (get_or ss i d) ≡ false
    → byte ≡ byte_or_zero (code_of bytes (take i ss) a)
    → byte ≡ byte_or_zero (code_of bytes (take (i + 1) ss) a)
passed_byte bytes ss i d a byte lt other is =
    let nothing : segment_code bytes (get_or ss i d) a ≡ None = rw other refl in
    rw (code_of_more bytes ss i d a lt, nothing, or_nothing (code_of bytes (take i ss) a)) is

-- the file part of an executable segment lies on its pages
part_touches : (file_length : ℕ) (s : Segment) (a : ℕ) → IsPlaced file_length s
    → (leb s.vaddr a && ltb a (s.vaddr + s.filesz)) ≡ true → touches s (a / 4096) ≡ true
part_touches file_length s a placed inside =
    let p = and_parts (leb s.vaddr a) (ltb a (s.vaddr + s.filesz)) inside in
    let low = leb-true s.vaddr a p.0 in
    let high = ltb-true a (s.vaddr + s.filesz) p.1 in
    touches_from s (a / 4096)
    (record { some = placed.some; low = omega arith; high = omega (arith, placed.part) })

-- the byte at an address once the file part of one more segment was copied
pub copied_byte : (bytes : List ℕ) (ss : List Segment) (i : ℕ) (d : Segment) (a old new : ℕ)
    → AllPairs (λ s t. shares_page s t ≡ false) ss → i < length ss
    → is_executable (get_or ss i d) ≡ true → IsPlaced (length bytes) (get_or ss i d)
    → old ≡ byte_or_zero (code_of bytes (take i ss) a)
    → new ≡ part_byte_or bytes (get_or ss i d) a old
    → new ≡ byte_or_zero (code_of bytes (take (i + 1) ss) a)
copied_byte bytes ss i d a old new apart lt executable placed was is =
    let s = get_or ss i d in
    elim (cases_Bool (touches s (a / 4096))) [
      | inl there ↦
          (let none : code_of bytes (take i ss) a
          ≡ None = code_of_absent bytes (take i ss) a
          (apart_absent ss i d (a / 4096) apart lt there) in
          let zero : old ≡ 0 = was ∙ ap byte_or_zero none in
          rw (code_of_more bytes ss i d a lt, none, executable, there) (is
          ∙ ap (part_byte_or bytes s a) zero))
      | inr gone ↦
          (let nothing : segment_code bytes s a ≡ None = rw (executable, gone) refl in
          let outside : (leb s.vaddr a && ltb a (s.vaddr + s.filesz)) ≡ false =
          elim (cases_Bool (leb s.vaddr a && ltb a (s.vaddr + s.filesz))) [
            | inl inside ↦ absurd (both_ways (touches s (a / 4096)) gone
                (part_touches (length bytes) s a placed inside))
            | inr outside ↦ outside
          ] in
          let kept : new ≡ old = rw outside at is in
          rw (code_of_more bytes ss i d a lt, nothing, or_nothing (code_of bytes (take i ss) a))
          (kept ∙ was))
    ]

-- the bytes of a range, so far as the first segments have them
pub record HasParts (bytes : List ℕ) (ss : List Segment) (pages : PageBounds) (code : List ℕ) :
    Type 0 where
  pub long : length code ≡ 4096 * (pages.end - pages.first)
  pub parts : (k : ℕ) → k < length code
      → get_or code k 0 ≡ byte_or_zero (code_of bytes ss (4096 * pages.first + k))

-- a segment that isn't executable leaves them
pub passed_parts : (bytes : List ℕ) (ss : List Segment) (i : ℕ) (d : Segment) (pages : PageBounds)
    (code : List ℕ) → i < length ss → is_executable (get_or ss i d) ≡ false
    → HasParts bytes (take i ss) pages code → HasParts bytes (take (i + 1) ss) pages code
passed_parts bytes ss i d pages code lt other has =
    record {
      long = has.long;
      parts = λ k within. passed_byte bytes ss i d (4096 * pages.first + k)
          (get_or code k 0) lt other (has.parts k within);
    }

-- one whose file part was copied adds its bytes
pub copied_parts : (bytes : List ℕ) (ss : List Segment) (i : ℕ) (d : Segment) (pages : PageBounds)
    (code new : List ℕ) → All (IsPlaced (length bytes)) ss
    → AllPairs (λ s t. shares_page s t ≡ false) ss → i < length ss
    → is_executable (get_or ss i d) ≡ true → HasParts bytes (take i ss) pages code
    → length new ≡ length code
    → ((k : ℕ) → k < length new
    → get_or new k 0 ≡ part_byte_or bytes (get_or ss i d) (4096 * pages.first + k)
    (get_or code k 0)) → HasParts bytes (take (i + 1) ss) pages new
copied_parts bytes ss i d pages code new placed apart lt executable has long copied =
    record { long = long ∙ has.long; parts = parts }
  where
    parts : (k : ℕ) → k < length new
        → get_or new k 0 ≡ byte_or_zero (code_of bytes (take (i + 1) ss) (4096 * pages.first + k))
    parts k within =
        copied_byte bytes ss i d (4096 * pages.first + k) (get_or code k 0) (get_or new k 0) apart
        lt executable (placed i d lt)
        (has.parts k (omega (arith, long, within))) (copied k within)

-- the file part of a segment, as far as it lies in the code that begins at base, was put in its
-- place
pub part_put : (bytes : List ℕ) (s : Segment) (base start end : ℕ) (old new : List ℕ)
    → start ≡ max s.vaddr base → end ≡ min (s.vaddr + s.filesz) (base + length old)
    → length new ≡ length old
    → ((j : ℕ) → j < end - start
    → get_or new (start - base + j) 0 ≡ get_or bytes (s.offset + (start - s.vaddr) + j) 0)
    → ((k : ℕ) → (k < start - base) ⊎ (start - base + (end - start) ≤ k)
    → get_or new k 0 ≡ get_or old k 0)
    → start < end → (i : ℕ) → i < length new
    → get_or new i 0 ≡ part_byte_or bytes s (base + i) (get_or old i 0)
part_put bytes s base start end old new start_is end_is long inside outside some i within =
    elim (cases_lt (base + i) start) [
      | inl before ↦
          (let below : leb s.vaddr (base + i) ≡ false = lt-leb s.vaddr (base + i) (omega arith) in
          rw below (outside i (inl (omega arith))))
      | inr from ↦
          (let low : leb s.vaddr (base + i) ≡ true = le-leb s.vaddr (base + i) (omega arith) in
          elim (cases_lt (base + i) end) [
            | inl until ↦
                (let high : ltb (base + i) (s.vaddr + s.filesz)
                ≡ true = lt-ltb (base + i) (s.vaddr + s.filesz) (omega arith) in
                let here : start - base + (base + i - start) ≡ i = omega arith in
                let there : s.offset + (start - s.vaddr) + (base + i - start)
                ≡ s.offset + (base + i - s.vaddr) = omega arith in
                let byte = rw (here, there) at (inside (base + i - start) (omega arith)) in
                rw (low, high) byte)
            | inr past ↦
                (let high : ltb (base + i) (s.vaddr + s.filesz)
                ≡ false = le-ltb (base + i) (s.vaddr + s.filesz) (omega arith) in
                rw (low, high) (outside i (inr (omega arith))))
          ])
    ]

-- a byte of a part of a list
pub part_at : (bytes : List ℕ) (place n j : ℕ) → j < n
    → get_or (take n (drop place bytes)) j 0 ≡ get_or bytes (place + j) 0
part_at bytes place n j lt = get_or-take n (drop place bytes) j 0 lt ∙ get_or-drop place bytes j 0

-- with all segments they are the range's
pub range_laid : (bytes : List ℕ) (ss : List Segment) (pages : PageBounds) (code : List ℕ)
    → IsRange (is_page_of is_executable ss) pages → HasParts bytes ss pages code
    → LaysRange (code_of bytes ss) pages code
range_laid bytes ss pages code is has = record { long = has.long; same = same }
  where
    same : (a : ℕ) → 4096 * pages.first ≤ a → a < 4096 * pages.end
        → laid_at (4096 * pages.first) code a ≡ code_of bytes ss a
    same a low high =
        let base = 4096 * pages.first in
        let here : a ≡ base + (a - base) = omega arith in
        let within : a - base < length code = omega (arith, has.long, is.some) in
        let there : code_of bytes ss a ≡ Some (byte_or_zero (code_of bytes ss a)) =
        code_of_present bytes ss a (is.within (a / 4096) (omega arith) (omega arith)) in
        let byte : get_or code (a - base) 0 ≡ byte_or_zero (code_of bytes ss a) =
        rw (← here) at (has.parts (a - base) within) in
        laid_at_place base (a - base) a code here ∙ slice_get-get_or code (a - base) 0 within
        ∙ ap Some byte ∙ sym there

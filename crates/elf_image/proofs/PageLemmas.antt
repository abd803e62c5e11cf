-- The pages that segments hold.
use Rattle.std.proofs.Common.{◌≡◌, ℕ, zero, suc, ◌+◌, ◌-◌, ◌/◌, ◌<◌, ◌≤◌, List, ◌∷◌, Bool}
use Rattle.std.proofs.Common.{true, false, ◌||◌, ◌&&◌, inl, inr, refl, sym, ◌∙◌, ap, arith}
use Rattle.std.proofs.lemmas.Bool.{cases_Bool, or_right}
use Rattle.erim_defs.specs.declared.segment.Segment.{Segment}
use Rattle.erim_defs.specs.Inspection.Image.{Header, Record, all_pages, header_count, is_loadable}
use Rattle.erim_defs.specs.Inspection.Image.{loadable_segments, segments, touches}
use Rattle.elf_image.specs.declared.pages.Purpose.{Purpose}
use Rattle.elf_image.specs.Table.{header_of, headers_left}
use Rattle.elf_image.specs.Records.{are_held, is_held, is_lying, serves}
use Rattle.elf_image.proofs.TableLemmas.{headers_left-all, headers_left-next, headers_left-none}

-- the header's segment holds the page
abbrev pub is_holding : Purpose → Header → ℕ → Bool
is_holding purpose h page = is_loadable h && (serves purpose h.segment && touches h.segment page)

held_header : (purpose : Purpose) (h : Header) (hs : List Header) (page : ℕ)
    → is_held purpose (loadable_segments (h ∷ hs)) page
    ≡ (is_holding purpose h page || is_held purpose (loadable_segments hs) page)
unfolding is_held loadable_segments
held_header purpose h hs page =
    elim (cases_Bool (is_loadable h)) [
      | inl loads ↦ rw loads refl
      | inr not_loads ↦ rw not_loads refl
    ]

pub held_begins : (purpose : Purpose) (bytes : List ℕ) (page : ℕ)
    → is_held purpose (loadable_segments (headers_left bytes 0)) page
    ≡ is_held purpose (segments bytes) page
held_begins purpose bytes page =
    ap (λ hs. is_held purpose (loadable_segments hs) page) (headers_left-all bytes)

pub held_stops : (purpose : Purpose) (bytes : List ℕ) (index page : ℕ) → index < header_count bytes
    → is_holding purpose (header_of bytes index) page ≡ true
    → is_held purpose (loadable_segments (headers_left bytes index)) page ≡ true
held_stops purpose bytes index page lt test =
    rw (headers_left-next bytes index lt) (held_header purpose _ _ page
    ∙ ap (λ b. b || is_held purpose (loadable_segments (headers_left bytes (index + 1))) page) test)

pub held_goes_on : (purpose : Purpose) (bytes : List ℕ) (index page : ℕ)
    → index < header_count bytes → is_holding purpose (header_of bytes index) page ≡ false
    → is_held purpose (loadable_segments (headers_left bytes index)) page
    ≡ is_held purpose (loadable_segments (headers_left bytes (index + 1))) page
held_goes_on purpose bytes index page lt test =
    rw (headers_left-next bytes index lt) (held_header purpose _ _ page
    ∙ ap (λ b. b || is_held purpose (loadable_segments (headers_left bytes (index + 1))) page) test)

pub held_ends : (purpose : Purpose) (bytes : List ℕ) (index page : ℕ) → header_count bytes ≤ index
    → is_held purpose (loadable_segments (headers_left bytes index)) page ≡ false
unfolding is_held loadable_segments
held_ends purpose bytes index page past = rw (headers_left-none bytes index past) refl

-- one of the headers from a number on
held_from : (purpose : Purpose) (bytes : List ℕ) (page index gap start : ℕ) → start + gap ≡ index
    → index < header_count bytes → is_holding purpose (header_of bytes index) page ≡ true
    → is_held purpose (loadable_segments (headers_left bytes start)) page ≡ true
held_from purpose bytes page index zero start e lt test =
    let same : start ≡ index = omega arith in
    rw same (held_stops purpose bytes index page lt test)
held_from purpose bytes page index (suc gap) start e lt test =
    let inner : start < header_count bytes = omega arith in
    let rest = held_from purpose bytes page index gap (start + 1) (omega arith) lt test in
    rw (headers_left-next bytes start inner) (held_header purpose _ _ page
    ∙ or_right (is_holding purpose (header_of bytes start) page) _ rest)

-- whichever it is
pub held_near : (purpose : Purpose) (bytes : List ℕ) (index page : ℕ) → index < header_count bytes
    → is_holding purpose (header_of bytes index) page ≡ true
    → is_held purpose (segments bytes) page ≡ true
held_near purpose bytes index page lt test = sym (held_begins purpose bytes page)
    ∙ held_from purpose bytes page index index 0 (omega arith) lt test

-- ---- one page after another

pub lying_begins : (purpose : Purpose) (ss : List Segment) (r : Record) (end : ℕ)
    → end ≡ r.start / 4096 + r.length / 4096
    → are_held purpose ss (r.start / 4096) end ≡ is_lying purpose ss r
unfolding are_held is_lying
lying_begins purpose ss r end e =
    let count : end - r.start / 4096 ≡ r.length / 4096 = omega arith in
    rw count refl

pub are_held_stops : (purpose : Purpose) (ss : List Segment) (page end : ℕ) → page < end
    → is_held purpose ss page ≡ false → are_held purpose ss page end ≡ false
unfolding are_held is_held all_pages
are_held_stops purpose ss page end lt test =
    let count : end - page ≡ suc (end - (page + 1)) = omega arith in
    rw (count, test) refl

pub are_held_goes_on : (purpose : Purpose) (ss : List Segment) (page end : ℕ) → page < end
    → is_held purpose ss page ≡ true
    → are_held purpose ss page end ≡ are_held purpose ss (page + 1) end
unfolding are_held is_held all_pages
are_held_goes_on purpose ss page end lt test =
    let count : end - page ≡ suc (end - (page + 1)) = omega arith in
    rw (count, test) refl

pub are_held_ends : (purpose : Purpose) (ss : List Segment) (page end : ℕ) → end ≤ page
    → are_held purpose ss page end ≡ true
unfolding are_held all_pages
are_held_ends purpose ss page end past =
    let count : end - page ≡ 0 = omega arith in
    rw count refl

-- ---- by function, for the goals of its loop

pub ruleset held_steps = (held_begins, held_stops, held_goes_on, held_ends, held_near)

pub ruleset lying_steps = (lying_begins, are_held_stops, are_held_goes_on, are_held_ends)

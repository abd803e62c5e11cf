-- The pages of segments, and the code that stands on them.
use Rattle.std.proofs.Common.{◌≡◌, ℕ, ◌+◌, ◌/◌, ◌^◌, ◌<◌, ◌≤◌, ◌∙◌, ◌++◌, List, [], ◌∷◌, length}
use Rattle.std.proofs.Common.{take, get_or, Option, Some, None, Bool, true, false, ◌&&◌, refl, ap}
use Rattle.std.proofs.Common.{arith, inl, inr}
use Rattle.std.specs.List.{All, AllPairs}
use Rattle.std.proofs.lemmas.Bool.{cases_Bool, and_parts, or_parts, leb-true, ltb-true, le-leb}
use Rattle.std.proofs.lemmas.Bool.{lt-ltb, and_right, both_ways}
use Rattle.std.proofs.lemmas.List.{take_more, get_or-take, get_or_default, length-take}
use Rattle.std.proofs.lemmas.List.Folds.{Any-from_list_any, list_any_none}
use Rattle.erim_defs.specs.declared.segment.Segment.{Segment}
use Rattle.erim_defs.specs.Inspection.Code.{or_else}
use Rattle.erim_defs.specs.Inspection.Image.{is_executable, is_in_user, first_page, end_page}
use Rattle.erim_defs.specs.Inspection.Image.{touches, is_page_of, shares_page, segment_code}
use Rattle.erim_defs.specs.Inspection.Image.{code_of}
use Rattle.erim_defs.proofs.ImageLemmas.{in_user_view}

-- a page of a segment
pub record Touches (s : Segment) (page : ℕ) : Type 0 where
  pub some : 0 < s.memsz
  pub low : first_page s ≤ page
  pub high : page < end_page s

pub touches_view : (s : Segment) (page : ℕ) → touches s page ≡ true → Touches s page
touches_view s page h =
    let p = and_parts _ _ h in
    let q = and_parts _ _ p.1 in
    record { some = ltb-true _ _ p.0; low = leb-true _ _ q.0; high = ltb-true _ _ q.1 }

pub touches_from : (s : Segment) (page : ℕ) → Touches s page → touches s page ≡ true
touches_from s page t = rw (
  lt-ltb 0 s.memsz t.some,
  le-leb (first_page s) page t.low,
  lt-ltb page
      (end_page s) t.high,
) refl

-- segments apart have no page in common
pub apart_page : (s t : Segment) (page : ℕ) → shares_page s t ≡ false → touches t page ≡ true
    → touches s page ≡ false
apart_page s t page apart there = elim (cases_Bool (touches s page)) [
  | inl both ↦
      (let a = touches_view s page both in
      let b = touches_view t page there in
      absurd (both_ways (shares_page s t) apart
      (rw (
        lt-ltb (first_page s) (end_page t) (omega (arith, a.low, b.high)),
        lt-ltb
            (first_page t) (end_page s) (omega (arith, b.low, a.high)),
      ) refl)))
  | inr none ↦ none
]

-- a page of one segment is no page of those before it
pub apart_absent : (ss : List Segment) (i : ℕ) (d : Segment) (page : ℕ)
    → AllPairs (λ s t. shares_page s t ≡ false) ss → i < length ss
    → touches (get_or ss i d) page ≡ true → is_page_of is_executable (take i ss) page ≡ false
apart_absent ss i d page apart lt there =
    list_any_none (λ s. is_executable s && touches s page) (take i ss) none
  where
    none : All (λ s. (is_executable s && touches s page) ≡ false) (take i ss)
    none k e in_take =
        let before : k < i = omega (arith, in_take, length-take i ss) in
        let same : get_or (take i ss) k e ≡ get_or ss k e = get_or-take i ss k e before in
        let place : get_or ss i e ≡ get_or ss i d = get_or_default ss i e d lt in
        rw same (and_right _ _ (apart_page (get_or ss k e) (get_or ss i e) page
        (apart k i e before lt) (rw place there)))

-- where no executable segment has a page no byte is there
pub code_of_absent : (bytes : List ℕ) (ss : List Segment) (a : ℕ)
    → is_page_of is_executable ss (a / 4096) ≡ false → code_of bytes ss a ≡ None
code_of_absent bytes [] a none = refl
code_of_absent bytes (s ∷ ss) a none =
    let p = or_parts (is_executable s
    && touches s (a / 4096)) (is_page_of is_executable ss (a / 4096)) none in
    rw p.0 (code_of_absent bytes ss a p.1)

-- the byte that is there, or zero
abbrev pub byte_or_zero : Option ℕ → ℕ
byte_or_zero None = 0
byte_or_zero (Some x) = x

-- where one has a page a byte is there
pub code_of_present : (bytes : List ℕ) (ss : List Segment) (a : ℕ)
    → is_page_of is_executable ss (a / 4096) ≡ true
    → code_of bytes ss a ≡ Some (byte_or_zero (code_of bytes ss a))
code_of_present bytes [] a there = absurd cc
code_of_present bytes (s ∷ ss) a there =
    elim (cases_Bool (is_executable s && touches s (a / 4096))) [
      | inl here ↦ rw here refl
      | inr gone ↦ (let rest : is_page_of is_executable ss (a / 4096) ≡ true = rw gone at there in
          rw gone (code_of_present bytes ss a rest))
    ]

or_else_assoc : (x y z : Option ℕ) → or_else x (or_else y z) ≡ or_else (or_else x y) z
or_else_assoc None y z = refl
or_else_assoc (Some x) y z = refl

or_else_nothing : (o : Option ℕ) → or_else o None ≡ o
or_else_nothing None = refl
or_else_nothing (Some x) = refl

code_of-append : (bytes : List ℕ) (ss ts : List Segment) (a : ℕ)
    → code_of bytes (ss ++ ts) a ≡ or_else (code_of bytes ss a) (code_of bytes ts a)
code_of-append bytes [] ts a = refl
code_of-append bytes (s ∷ ss) ts a =
    rw (code_of-append bytes ss ts a) (or_else_assoc (segment_code bytes s a) (code_of bytes ss a)
    (code_of bytes ts a))

-- one more segment
pub code_of_more : (bytes : List ℕ) (ss : List Segment) (i : ℕ) (d : Segment) (a : ℕ)
    → i < length ss
    → code_of bytes (take (i + 1) ss) a
    ≡ or_else (code_of bytes (take i ss) a) (segment_code bytes (get_or ss i d) a)
code_of_more bytes ss i d a lt =
    rw (take_more ss i d lt) (code_of-append bytes (take i ss) (get_or ss i d ∷ []) a
    ∙ ap (λ o. or_else (code_of bytes (take i ss) a) o)
    (or_else_nothing (segment_code bytes (get_or ss i d) a)))

-- pages of segments in user memory end with it
pub pages_below : (test : Segment → Bool) (ss : List Segment) (page : ℕ)
    → All (λ s. is_in_user s ≡ true) ss → is_page_of test ss page ≡ true → page < 2 ^ 35
pages_below test ss page user there =
    let any = Any-from_list_any (λ s. test s && touches s page) ss there in
    let s : Segment = any.1 in
    let end = in_user_view s (let h = user any.0 s any.2 in rw any.3 at h) in
    let page_of = touches_view s page (and_parts (test s) (touches s page) any.4).1 in
    omega (arith, end.user, page_of.high)

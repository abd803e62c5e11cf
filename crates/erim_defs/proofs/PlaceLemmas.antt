-- Where the loadable segments of an accepted image lie: in the file and in user memory, on few
-- pages, and apart from one another.
use Rattle.std.proofs.Common.{◌≡◌, ℕ, zero, suc, ◌+◌, ◌<◌, ◌≤◌, List, [], ◌∷◌, length, get_or, None}
use Rattle.std.proofs.Common.{Bool, true, false, not, ◌&&◌, inl, inr, ltb, eqb, refl, sym, subst}
use Rattle.std.proofs.Common.{◌∙◌, arith, sum_by}
use Rattle.std.specs.List.{All, AllPairs, list_any}
use Rattle.std.proofs.lemmas.List.Sums.{sum_by-cons}
use Rattle.std.proofs.lemmas.Bool.{cases_Bool, and_parts, and_from, or_parts, ltb-true, leb-true}
use Rattle.std.proofs.lemmas.Bool.{eqb-true, ne_eqb}
use Rattle.erim_defs.specs.declared.segment.Segment.{Segment}
use Rattle.erim_defs.specs.Inspection.Image.{Header, IsAccepted, IsPlaced, end_page, first_page}
use Rattle.erim_defs.specs.Inspection.Image.{headers, is_apart, is_in_file, is_in_user, is_loadable}
use Rattle.erim_defs.specs.Inspection.Image.{is_passed_over, is_ranged, loadable_segments}
use Rattle.erim_defs.specs.Inspection.Image.{page_count, header_pages, range_fault, segments}
use Rattle.erim_defs.specs.Inspection.Image.{shared_fault, shares_page}
use Rattle.erim_defs.proofs.FaultLemmas.{cond_fault, not_true, sound}
use Rattle.erim_defs.proofs.ImageLemmas.{placed_from}

-- with a header that lies where it may there are still few pages
pub ranged_few : (file_length pages : ℕ) (h : Header) → pages ≤ 4080
    → is_ranged file_length pages h ≡ true → pages + header_pages h ≤ 4080
ranged_few file_length pages h few test =
    elim (cases_Bool (eqb h.kind 1 && not (is_passed_over h))) [
      | inl counted ↦
          let kind : h.kind ≡ 1 = eqb-true _ _ (and_parts _ _ counted).0 in
          let other : eqb h.kind 4 ≡ false =
          ne_eqb _ _ (λ (e : h.kind ≡ 4). absurd (omega arith)) in
          let parts = rw (other, counted) at test in
          let fits = leb-true _ _ (and_parts _ _ (and_parts _ _ parts).1).1 in
          rw counted fits
      | inr not_counted ↦ rw not_counted (omega arith)
    ]

all_cons : (P : Segment → Type 0) (s : Segment) (ss : List Segment) → P s → All P ss
    → All P (s ∷ ss)
all_cons P s ss here there zero d below = here
all_cons P s ss here there (suc k) d below = there k d (omega arith)

loads_counted : (h : Header) → is_loadable h ≡ true
    → (eqb h.kind 1 && not (is_passed_over h)) ≡ true
loads_counted h loads =
    let p = and_parts (eqb h.kind 1) (ltb 0 h.segment.memsz) loads in
    let some : 0 < h.segment.memsz = ltb-true _ _ p.1 in
    let not_zero : eqb h.segment.memsz 0 ≡ false =
    ne_eqb _ _ (λ (e : h.segment.memsz ≡ 0). absurd (omega arith)) in
    and_from _ _ p.0 (rw not_zero refl)

ranged_placed : (file_length pages : ℕ) (h : Header) → is_loadable h ≡ true
    → is_ranged file_length pages h ≡ true → IsPlaced file_length h.segment
ranged_placed file_length pages h loads ranged =
    let p = and_parts (eqb h.kind 1) (ltb 0 h.segment.memsz) loads in
    let kind : h.kind ≡ 1 = eqb-true _ _ p.0 in
    let other : eqb h.kind 4 ≡ false = rw kind refl in
    let q = rw (other, loads_counted h loads) at ranged in
    let r = and_parts (is_in_file file_length h.segment) _ q in
    placed_from file_length h.segment r.0 (and_parts (is_in_user h.segment) _ r.1).0
    (ltb-true _ _ p.1)

loads_pages : (h : Header) → is_loadable h ≡ true → header_pages h ≡ page_count h.segment
loads_pages h loads = rw (loads_counted h loads) refl

-- the pages with one more header
pub total_more : (h : Header) (seen : List Header) (pages : ℕ) → sum_by header_pages seen ≡ pages
    → sum_by header_pages (h ∷ seen) ≡ pages + header_pages h
total_more h seen pages total = sum_by-cons header_pages h seen ∙ omega (arith, total)

-- all segments lie where they may, and have few pages
pub all_placed : (file_length i pages : ℕ) (seen hs : List Header)
    → sum_by header_pages seen ≡ pages
    → pages ≤ 4080 → range_fault file_length i seen hs ≡ None
    → All (IsPlaced file_length) (loadable_segments hs)
    × (pages + sum_by page_count (loadable_segments hs) ≤ 4080)
unfolding loadable_segments range_fault
all_placed file_length i pages seen [] total few none =
    (λ k d below. absurd (omega arith), omega arith)
all_placed file_length i pages seen (h ∷ hs) total few none =
    let parts = cond_fault (is_ranged file_length (sum_by header_pages seen) h) _
    (range_fault file_length (i + 1) (h ∷ seen) hs) none in
    let ranged : is_ranged file_length pages h ≡ true = rw total at parts.0 in
    let more : sum_by header_pages (h ∷ seen)
    ≡ pages + header_pages h = total_more h seen pages total in
    let rest = all_placed file_length (i + 1) (pages + header_pages h) (h ∷ seen) hs more
    (ranged_few file_length pages h few ranged) parts.1 in
    elim (cases_Bool (is_loadable h)) [
      | inl loads ↦
          (let P : List Segment → Type 0 = λ ss. All (IsPlaced file_length) ss
          × (pages + sum_by page_count ss ≤ 4080) in
          let e : loadable_segments (h ∷ hs) ≡ h.segment ∷ loadable_segments hs = rw loads refl in
          let sum : sum_by page_count (h.segment ∷ loadable_segments hs)
          ≡ page_count h.segment + sum_by page_count (loadable_segments hs) =
          sum_by-cons page_count h.segment (loadable_segments hs) in
          let count : header_pages h ≡ page_count h.segment = loads_pages h loads in
          let few_all : pages + header_pages h + sum_by page_count (loadable_segments hs) ≤ 4080 =
          rest.1 in
          let few_more : pages + (page_count h.segment + sum_by page_count (loadable_segments hs))
          ≤ 4080 = rw (← count) (omega (arith, few_all)) in
          subst P (sym e) (
            all_cons (IsPlaced file_length) _ _
                (ranged_placed file_length pages h loads ranged) rest.0,
            rw sum few_more,
          ))
      | inr other ↦
          (let P : List Segment → Type 0 = λ ss. All (IsPlaced file_length) ss
          × (pages + sum_by page_count ss ≤ 4080) in
          let e : loadable_segments (h ∷ hs) ≡ loadable_segments hs = rw other refl in
          let few_all : pages + header_pages h + sum_by page_count (loadable_segments hs) ≤ 4080 =
          rest.1 in
          subst P (sym e) (rest.0, omega (arith, few_all)))
    ]

-- ---- no two segments share a page

and_swap : (a b : Bool) → (a && b) ≡ (b && a)
and_swap true true = refl
and_swap true false = refl
and_swap false true = refl
and_swap false false = refl

-- segments that share no page
abbrev pub IsApart : Segment → Segment → Type 0
IsApart s t = shares_page s t ≡ false

pub apart_swap : (s t : Segment) → IsApart s t → IsApart t s
apart_swap s t h = and_swap (ltb (first_page t) (end_page s)) (ltb (first_page s) (end_page t)) ∙ h

pairs_cons : (s : Segment) (ss : List Segment) → All (λ t. IsApart s t) ss → AllPairs IsApart ss
    → AllPairs IsApart (s ∷ ss)
pairs_cons s ss here there zero zero d lt below = absurd (omega arith)
pairs_cons s ss here there zero (suc j) d lt below = here j d (omega arith)
pairs_cons s ss here there (suc i) zero d lt below = absurd (omega arith)
pairs_cons s ss here there (suc i) (suc j) d lt below = there i j d (omega arith) (omega arith)

-- where no page of a header is shared, nor is one of the others
pub shared_parts : (i : ℕ) (seen : List Header) (h : Header) (hs : List Header)
    → shared_fault i seen (h ∷ hs) ≡ None → is_loadable h ≡ true
    → (list_any (shares_page h.segment) (loadable_segments seen) ≡ false)
    × (shared_fault (i + 1) (h ∷ seen) hs ≡ None)
unfolding shared_fault
shared_parts i seen h hs none loads =
    let p = cond_fault (is_apart seen h) _ (shared_fault (i + 1) (h ∷ seen) hs) none in
    let apart : not (true && list_any (shares_page h.segment) (loadable_segments seen)) ≡ true =
    rw loads at p.0 in
    (not_true _ apart, p.1)

pub shared_passed : (i : ℕ) (seen : List Header) (h : Header) (hs : List Header)
    → shared_fault i seen (h ∷ hs) ≡ None → shared_fault (i + 1) (h ∷ seen) hs ≡ None
unfolding shared_fault
shared_passed i seen h hs none =
    (cond_fault (is_apart seen h) _ (shared_fault (i + 1) (h ∷ seen) hs) none).1

apart_parts : (t s : Segment) (seen : List Segment) → list_any (shares_page t) (s ∷ seen) ≡ false
    → IsApart s t × (list_any (shares_page t) seen ≡ false)
apart_parts t s seen h =
    let p = or_parts (shares_page t s) (list_any (shares_page t) seen) h in
    (apart_swap t s p.0, p.1)

-- all segments are apart from one another, and from those before them
pub all_apart : (i : ℕ) (seen hs : List Header) → shared_fault i seen hs ≡ None
    → AllPairs IsApart (loadable_segments hs)
    × All (λ s. list_any (shares_page s) (loadable_segments seen) ≡ false) (loadable_segments hs)
unfolding loadable_segments
all_apart i seen [] none =
    (λ i j d lt below. absurd (omega arith), λ k d below. absurd (omega arith))
all_apart i seen (h ∷ hs) none =
    let P : List Segment → Type 0 = λ ss. AllPairs IsApart ss
    × All (λ s. list_any (shares_page s) (loadable_segments seen) ≡ false) ss in
    let rest = all_apart (i + 1) (h ∷ seen) hs (shared_passed i seen h hs none) in
    elim (cases_Bool (is_loadable h)) [
      | inl loads ↦
          (let e : loadable_segments (h ∷ hs) ≡ h.segment ∷ loadable_segments hs = rw loads refl in
          let before : loadable_segments (h ∷ seen) ≡ h.segment ∷ loadable_segments seen =
          rw loads refl in
          let parts = shared_parts i seen h hs none loads in
          let Q : List Segment → Type 0 =
          λ ts. All (λ s. list_any (shares_page s) ts ≡ false) (loadable_segments hs) in
          let behind : All (λ s. list_any (shares_page s) (h.segment ∷ loadable_segments seen)
          ≡ false) (loadable_segments hs) = subst Q before rest.1 in
          subst P (sym e) (
            pairs_cons h.segment (loadable_segments hs)
                (λ k d below. (apart_parts (get_or (loadable_segments hs) k d) h.segment
                (loadable_segments seen) (behind k d below)).0) rest.0,
            all_cons (λ s. list_any (shares_page s) (loadable_segments seen)
                ≡ false) h.segment (loadable_segments hs) parts.0 (λ k d below.
                (apart_parts (get_or (loadable_segments hs) k d) h.segment (loadable_segments seen)
                (behind k d below)).1),
          ))
      | inr other ↦
          (let e : loadable_segments (h ∷ hs) ≡ loadable_segments hs = rw other refl in
          let before : loadable_segments (h ∷ seen) ≡ loadable_segments seen = rw other refl in
          let Q : List Segment → Type 0 =
          λ ts. All (λ s. list_any (shares_page s) ts ≡ false) (loadable_segments hs) in
          let behind : All (λ s. list_any (shares_page s) (loadable_segments seen)
          ≡ false) (loadable_segments hs) = subst Q before rest.1 in
          subst P (sym e) (rest.0, behind))
    ]

-- ---- of an image

-- what is known of all segments
pub record IsLoaded (bytes : List ℕ) (list : List Segment) : Type 0 where
  pub placed : All (IsPlaced (length bytes)) list
  pub apart : AllPairs IsApart list
  pub few : sum_by page_count list ≤ 4080

pub accepted_segments : (bytes : List ℕ) → IsAccepted bytes → IsLoaded bytes (segments bytes)
accepted_segments bytes h =
    let s = sound bytes h in
    let placed = all_placed (length bytes) 0 0 [] (headers bytes) refl (omega arith) s.ranged in
    record {
      placed = placed.0;
      apart = (all_apart 0 [] (headers bytes) s.shared).0;
      few = omega (arith, placed.1);
    }

pub few_pages : (bytes : List ℕ) (list : List Segment) → IsAccepted bytes → list ≡ segments bytes
    → sum_by page_count list ≤ 4080
few_pages bytes list h e = rw e (accepted_segments bytes h).few

-- The pages of several segments.
use Rattle.std.proofs.Common.{◌≡◌, ℕ, zero, suc, ◌*◌, ◌+◌, ◌-◌, ◌<◌, ◌≤◌, true, false, List, []}
use Rattle.std.proofs.Common.{◌∷◌, length, get_or, drop, length-drop, sum_by, All, AllPairs, None}
use Rattle.std.proofs.Common.{refl, sym, ap, ◌∙◌, arith, inl, inr}
use Rattle.std.proofs.Math.Path.{fun_ext}
use Rattle.std.proofs.Math.Seq.{drop-cons}
use Rattle.std.proofs.lemmas.List.{get_or-drop}
use Rattle.std.proofs.lemmas.List.Sums.{sum_by-drop_more, sum_by-take-drop}
use Rattle.std.proofs.lemmas.Bool.{cases_Bool, both_ways, false_from_ne_true}
use Rattle.erim_defs.specs.declared.segment.Segment.{Segment}
use Rattle.erim_defs.specs.Inspection.Trust.{in_text_of}
use Rattle.erim_defs.specs.Inspection.Image.{is_in_user, loaded_byte}
use Rattle.erim_defs.specs.Inspection.Image.{image_trust, page_count, page_total, segments}
use Rattle.erim_defs.specs.Inspection.Image.{shares_page, touches}
use Rattle.erim_defs.specs.Machine.Start.{asked_in, asked_of, byte_in, first_rights, frames_needed}
use Rattle.erim_defs.specs.Machine.Start.{image_byte, is_stack}
use Rattle.erim_defs.specs.Machine.State.{Setup}
use Rattle.erim_defs.proofs.PageLemmas.{apart_page}
use Rattle.erim_defs.proofs.PlaceLemmas.{apart_swap}
use Rattle.erim_defs.proofs.SegmentLemmas.{user_page}
use Rattle.erim_process.specs.ImagePages.{bytes_over, page_rights, rights_from, rights_over}
use Rattle.erim_process.specs.ImagePages.{segment_rights}

-- a page that no segment has
asked_none : (ss : List Segment) (q : ℕ) → All (λ t. touches t q ≡ false) ss → asked_in ss q ≡ None
asked_none [] q h = refl
asked_none (t ∷ ts) q h =
    let head : touches t q ≡ false = h zero t (omega arith) in
    rw head (asked_none ts q (λ k d l. h (suc k) d (omega arith)))

rights_none : (ss : List Segment) (image : List ℕ)
    (q : ℕ) → asked_in ss q ≡ None → segment_rights ss image q ≡ None
rights_none ss image q h = rw h refl

-- the pages of a segment that is apart from the others
pub unmapped_apart : (s : Segment) (ss : List Segment) (image : List ℕ) (q : ℕ)
    → All (λ t. shares_page s t ≡ false) ss → touches s q ≡ true
    → segment_rights ss image q ≡ None
unmapped_apart s ss image q apart here =
    rights_none ss image q
    (asked_none ss q (λ k d l. apart_page (get_or ss k d) s q
    (apart_swap s (get_or ss k d) (apart k d l)) here))

-- a page of the stack is none of a segment
stack_page : (s : Segment) (q : ℕ) → is_in_user s ≡ true → is_stack q ≡ true → touches s q ≡ false
stack_page s q user stack =
    false_from_ne_true _ (λ here. both_ways (is_stack q) (user_page s q user here).1 stack)

-- the stack's pages
pub unmapped_stack : (ss : List Segment) (image : List ℕ) (q : ℕ)
    → All (λ s. is_in_user s ≡ true) ss → is_stack q ≡ true
    → segment_rights ss image q ≡ None
unmapped_stack ss image q user stack =
    rights_none ss image q
    (asked_none ss q (λ k d l. stack_page (get_or ss k d) q (user k d l) stack))

-- one more segment
pub rights_more : (s : Segment) (ss : List Segment) (image : List ℕ)
    → rights_over (touches s) (page_rights image (asked_of s))
    (segment_rights ss image)
    ≡ segment_rights (s ∷ ss) image
rights_more s ss image = fun_ext (λ q. elim (cases_Bool (touches s q)) [
  | inl t ↦ rw t (elim (cases_Bool (in_text_of (image_trust image) (4096 * q))) [
    | inl u ↦ rw u refl
    | inr v ↦
        rw v refl
  ])
  | inr f ↦ rw f refl
])

pub bytes_more : (bytes : List ℕ) (s : Segment) (ss : List Segment)
    → bytes_over (touches s) (loaded_byte bytes s) (byte_in bytes ss) ≡ byte_in bytes (s ∷ ss)
bytes_more bytes s ss = fun_ext (λ a. refl)

-- no segment so far
pub rights_empty : (image : List ℕ)
    → (λ _. None) ≡ segment_rights [] image
rights_empty image = fun_ext (λ q. refl)

pub bytes_empty : (bytes : List ℕ) → (λ _. 0) ≡ byte_in bytes []
bytes_empty bytes = fun_ext (λ a. refl)

-- ---- the segments from a place on

drop_next : (ss : List Segment) (n : ℕ) (d : Segment) → 0 < n → n ≤ length ss
    → drop (n - 1) ss ≡ get_or ss (n - 1) d ∷ drop n ss
drop_next ss n d some within =
    let same : suc (n - 1) ≡ n = omega arith in
    drop-cons ss (n - 1) d (omega arith) ∙ ap (λ (k : ℕ). get_or ss (n - 1) d ∷ drop k ss) same

pub rights_from_next : (ss : List Segment) (n : ℕ) (d : Segment) (image : List ℕ) → 0 < n
    → n ≤ length ss
    → rights_over (touches (get_or ss (n - 1) d))
    (page_rights image (asked_of (get_or ss (n - 1) d)))
    (segment_rights (drop n ss) image)
    ≡ segment_rights (drop (n - 1) ss) image
rights_from_next ss n d image some within =
    rights_more (get_or ss (n - 1) d) (drop n ss) image
    ∙ ap (λ (ts : List Segment). segment_rights ts image)
    (sym (drop_next ss n d some within))

pub bytes_from_next : (bytes : List ℕ) (ss : List Segment) (n : ℕ) (d : Segment) → 0 < n
    → n ≤ length ss
    → bytes_over (touches (get_or ss (n - 1) d)) (loaded_byte bytes (get_or ss (n - 1) d))
    (byte_in bytes (drop n ss)) ≡ byte_in bytes (drop (n - 1) ss)
bytes_from_next bytes ss n d some within = bytes_more bytes (get_or ss (n - 1) d) (drop n ss)
    ∙ ap (byte_in bytes) (sym (drop_next ss n d some within))

sum_swap : (a b c : ℕ) → c ≡ b + a → a + b ≡ c
sum_swap a b c h = omega arith

pub count_from_next : (ss : List Segment) (n : ℕ) (d : Segment) → 0 < n → n ≤ length ss
    → sum_by page_count (drop n ss) + page_count (get_or ss (n - 1) d)
    ≡ sum_by page_count (drop (n - 1) ss)
count_from_next ss n d some within =
    let same : n - 1 + 1 ≡ n = omega arith in
    let e : sum_by page_count (drop (n - 1) ss)
    ≡ page_count (get_or ss (n - 1) d) + sum_by page_count (drop n ss) =
    sum_by-drop_more page_count ss (n - 1) d (omega arith)
    ∙ ap (λ (k : ℕ). page_count (get_or ss (n - 1) d) + sum_by page_count (drop k ss)) same in
    sum_swap (sum_by page_count (drop n ss)) (page_count (get_or ss (n - 1) d)) _ e

pub count_from_within : (ss : List Segment) (n : ℕ)
    → sum_by page_count (drop n ss) ≤ sum_by page_count ss
count_from_within ss n = let e = sum_by-take-drop page_count ss n in omega (arith, e)

get_or_any : (ss : List Segment) (i : ℕ) (d e : Segment) → i < length ss
    → get_or ss i d ≡ get_or ss i e
get_or_any [] i d e h = absurd (omega arith)
get_or_any (s ∷ ss) zero d e h = refl
get_or_any (s ∷ ss) (suc i) d e h = get_or_any ss i d e (omega arith)

-- a segment is apart from those after it
pub apart_from : (ss : List Segment) (n : ℕ) (d : Segment) → 0 < n → n ≤ length ss
    → AllPairs (λ s t. shares_page s t ≡ false) ss
    → All (λ t. shares_page (get_or ss (n - 1) d) t ≡ false) (drop n ss)
apart_from ss n d some within apart k e l =
    let size = length-drop n ss in
    let before : n - 1 < n + k = omega arith in
    let there : n + k < length ss = omega (arith, size) in
    let here : n - 1 < length ss = omega arith in
    rw (get_or_any ss (n - 1) d e here, get_or-drop n ss k e) (apart (n - 1) (n + k) e before there)

-- ---- an image's

-- the rights at the start are those by its segments, trusted text, data and heaps
pub first_rights_is : (setup : Setup) → first_rights setup ≡ rights_from setup.image
unfolding first_rights rights_from
first_rights_is setup = refl

pub image_byte_is : (image : List ℕ) → image_byte image ≡ byte_in image (segments image)
image_byte_is image = fun_ext (λ a. refl)

pub frames_needed_is : (image : List ℕ)
    → frames_needed image ≡ sum_by page_count (segments image) + 16
unfolding page_total
frames_needed_is image = refl

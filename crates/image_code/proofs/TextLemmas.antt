-- Trusted text: its ranges in a stretch, what a code has on it, and that it is made of whole pages.
use Rattle.std.proofs.Common.{◌≡◌, ℕ, ◌+◌, ◌-◌, ◌*◌, ◌/◌, ◌≤◌, ◌<◌, ◌∙◌, ◌&&◌, List, []}
use Rattle.std.proofs.Common.{length, take, drop, get_or, Option, Some, None, Bool, true}
use Rattle.std.proofs.Common.{false, cond, ltb, refl, sym, ap, arith, inl, inr}
use Rattle.std.specs.List.{All}
use Rattle.std.proofs.lemmas.Bool.{cases_Bool, cases_lt, and_parts, both_ways}
use Rattle.std.proofs.lemmas.Bool.{lt-ltb, ltb-true}
use Rattle.std.proofs.lemmas.List.{get_or-take, get_or-drop, length-take, length-drop}
use Rattle.std.proofs.lemmas.List.{get_or_default, take_more}
use Rattle.std.proofs.lemmas.Option.{slice_get-get_or}
use Rattle.erim_defs.specs.Inspection.Code.{Code, laid_at, or_else}
use Rattle.erim_defs.specs.Inspection.Image.{IsAccepted}
use Rattle.erim_defs.specs.Inspection.Image.{image_trust}
use Rattle.erim_defs.specs.Inspection.Image.{text_of}
use Rattle.erim_defs.specs.Inspection.Trust.{TrustValue, in_text_of}
use Rattle.erim_defs.proofs.CodeLemmas.{laid_at_before, laid_at_past, laid_at_place}
use Rattle.image_code.specs.declared.ranges.PageBounds.{PageBounds}
use Rattle.image_code.specs.declared.stretch.Stretch.{Stretch}
use Rattle.image_code.specs.Ranges.{IsRange, LaysRange}
use Rattle.image_code.specs.Stretches.{AddsCode, AreApart, IsWithin, LiesBefore, code_in}
use Rattle.image_code.specs.Stretches.{stretch_code, stretch_end}
use Rattle.image_code.specs.Texts.{IsPaged, is_text_below, is_text_page}
use Rattle.image_code.proofs.CodeLemmas.{StandsOn, code_in_push}
use Rattle.erim_defs.proofs.AcceptedLemmas.{text_page}

-- ---- a part of a stretch

-- some pages of a stretch have its bytes
pub part_lays : (s : Stretch) (pages : PageBounds) (i n : ℕ) → i ≡ 4096 * pages.first - s.base
    → n ≡ 4096 * pages.end - s.base - i → IsWithin s pages
    → LaysRange (stretch_code s) pages (take n (drop i s.bytes.items))
part_lays s pages i n i_is n_is is = record { long = long; same = same }
  where
    whole : length (take n (drop i s.bytes.items)) ≡ n
    whole = omega (
      arith,
      length-take n (drop i s.bytes.items),
      length-drop i s.bytes.items,
      is.low,
      is.order,
      is.high,
    )

    long : length (take n (drop i s.bytes.items)) ≡ 4096 * (pages.end - pages.first)
    long = omega (arith, whole, is.low, is.order)

    same : (a : ℕ) → 4096 * pages.first ≤ a → a < 4096 * pages.end
        → laid_at (4096 * pages.first) (take n (drop i s.bytes.items)) a ≡ stretch_code s a
    same a low high =
        let bytes = s.bytes.items in
        let part = take n (drop i bytes) in
        let first = 4096 * pages.first in
        let here : laid_at first part a ≡ Some (get_or part (a - first) 0) =
        laid_at_place first (a - first) a part (omega arith)
        ∙ slice_get-get_or part (a - first) 0 (omega (arith, long)) in
        let byte : get_or part (a - first) 0 ≡ get_or bytes (i + (a - first)) 0 =
        get_or-take n (drop i bytes) (a - first) 0 (omega (arith, long, whole))
        ∙ get_or-drop i bytes (a - first) 0 in
        let there : stretch_code s a ≡ Some (get_or bytes (i + (a - first)) 0) =
        laid_at_place s.base (i + (a - first)) a bytes (omega (arith, is.low))
        ∙ slice_get-get_or bytes (i + (a - first)) 0 (omega (arith, is.low, is.high)) in
        here ∙ ap Some byte ∙ sym there

-- a range of trusted text before the end of a stretch lies in it
pub text_within : (trust : TrustValue) (s : Stretch) (from end : ℕ) (pages : PageBounds)
    → s.base ≤ 4096 * from → 4096 * end ≡ stretch_end s → from ≤ pages.first
    → IsRange (is_text_below trust end) pages → IsWithin s pages
text_within trust s from end pages base ends low is =
    let last = ltb-true (pages.end - 1) end
    (and_parts (is_text_page trust (pages.end - 1)) (ltb (pages.end - 1) end)
    (is.within (pages.end - 1) (omega (arith, is.some)) (omega (arith, is.some)))).1 in
    record {
      low = omega (arith, base, low);
      order = omega (arith, is.some);
      high = omega
          (arith, ends, last, is.some);
    }

-- ---- the code on trusted text

text_none : (trust : TrustValue) (c : Code) (a : ℕ) → c a ≡ None → text_of trust c a ≡ None
text_none trust c a none = elim (cases_Bool (in_text_of trust a)) [
  | inl text ↦ rw text none
  | inr other ↦ rw other refl
]

text_other : (trust : TrustValue) (c : Code) (a : ℕ) → IsPaged trust
    → is_text_page trust (a / 4096) ≡ false → text_of trust c a ≡ None
text_other trust c a paged other = let no_text : in_text_of trust a ≡ false = paged a ∙ other in
    rw no_text refl

text_there : (trust : TrustValue) (c : Code) (a : ℕ) → IsPaged trust
    → is_text_page trust (a / 4096) ≡ true → text_of trust c a ≡ c a
text_there trust c a paged there = let text : in_text_of trust a ≡ true = paged a ∙ there in
    rw text refl

-- before a stretch there is no text of it
pub text_before : (trust : TrustValue) (s : Stretch) (a : ℕ) → a < s.base
    → text_of trust (stretch_code s) a ≡ None
text_before trust s a before =
    text_none trust (stretch_code s) a (laid_at_before s.base a s.bytes.items before)

-- nor off its pages of trusted text
pub text_stands : (trust : TrustValue) (s : Stretch) (end : ℕ) → IsPaged trust
    → 4096 * end ≡ stretch_end s
    → StandsOn (is_text_below trust end) (text_of trust (stretch_code s))
text_stands trust s end paged ends a none = elim (cases_lt (a / 4096) end) [
  | inl before ↦
      (let inside : ltb (a / 4096) end ≡ true = lt-ltb (a / 4096) end before in
      text_other trust (stretch_code s) a paged
      (shut (is_text_page trust (a / 4096)) (ltb (a / 4096) end) inside none))
  | inr past ↦ text_none trust (stretch_code s) a
      (laid_at_past s.base a s.bytes.items (omega (arith, ends)))
]
  where
    shut : (p q : Bool) → q ≡ true → (p && q) ≡ false → p ≡ false
    shut true q is both = absurd (both_ways q both is)
    shut false q is both = refl

-- on a range of them the stretch has the text
pub text_lays : (trust : TrustValue) (s : Stretch) (end : ℕ) (pages : PageBounds) (bytes : List ℕ)
    → IsPaged trust → IsRange (is_text_below trust end) pages
    → LaysRange (stretch_code s) pages bytes
    → LaysRange (text_of trust (stretch_code s)) pages bytes
text_lays trust s end pages bytes paged is lays = record {
  long = lays.long;
  same = λ a low high.
      let there = (and_parts (is_text_page trust (a / 4096)) (ltb (a / 4096) end)
      (is.within (a / 4096) (omega arith) (omega arith))).0 in
      lays.same a low high ∙ sym (text_there trust (stretch_code s) a paged there);
}

-- ---- all stretches

-- the text of the first stretches was added
pub record HasTexts (trust : TrustValue) (ss new : List Stretch) : Type 0 where
  pub same : (a : ℕ) → code_in new a ≡ text_of trust (code_in ss) a
  pub apart : AreApart new
  pub before : (b : ℕ) → All (λ s. stretch_end s + 4096 ≤ b) ss
      → All (λ t. stretch_end t + 4096 ≤ b) new

pub texts_nothing : (trust : TrustValue) → HasTexts trust [] []
texts_nothing trust = record {
  same = λ a. sym (text_none trust (code_in []) a refl);
  apart = λ i j d lt in_range. absurd (omega arith);
  before = λ b all. all;
}

-- they end before the next stretch
pub texts_before : (trust : TrustValue) (ss : List Stretch) (i : ℕ) (d : Stretch)
    (new : List Stretch) → AreApart ss → i < length ss → HasTexts trust (take i ss) new
    → All (λ t. LiesBefore t (get_or ss i d)) new
texts_before trust ss i d new apart lt has = has.before (get_or ss i d).base earlier
  where
    earlier : All (λ s. stretch_end s + 4096 ≤ (get_or ss i d).base) (take i ss)
    earlier k e within =
        let before : k < i = omega (arith, within, length-take i ss) in
        let same : get_or (take i ss) k e ≡ get_or ss k e = get_or-take i ss k e before in
        let place : get_or ss i e ≡ get_or ss i d = get_or_default ss i e d lt in
        rw (same, ← place) (apart k i e before lt)

or_text : (trust : TrustValue) (c d : Code) (a : ℕ)
    → or_else (text_of trust c a) (text_of trust d a) ≡ text_of trust (λ b. or_else (c b) (d b)) a
or_text trust c d a = elim (cases_Bool (in_text_of trust a)) [
  | inl text ↦ rw text refl
  | inr other ↦ rw other refl
]

-- the text of one more stretch
pub texts_more : (trust : TrustValue) (ss : List Stretch) (i : ℕ) (d : Stretch)
    (old new : List Stretch) → i < length ss → HasTexts trust (take i ss) old
    → AddsCode old new (get_or ss i d) (text_of trust (stretch_code (get_or ss i d)))
    → HasTexts trust (take (i + 1) ss) new
texts_more trust ss i d old new lt has adds = record {
  same = λ a. adds.same a ∙ rw (has.same a) (or_text trust (code_in (take i ss)) (stretch_code s) a
      ∙ text_same a (grown a));
  apart = adds.apart;
  before = λ b all.
      let last = all i d (omega (arith, length-take (i + 1) ss, lt)) in
      let same : get_or (take (i + 1) ss) i d ≡ get_or ss i d =
      get_or-take (i + 1) ss i d (omega arith) in
      let end = rw same at last in
      λ k e within. omega (arith, adds.within k e within, end);
}
  where
    s : Stretch
    s = get_or ss i d

    grown : (a : ℕ) → or_else (code_in (take i ss) a) (stretch_code (get_or ss i d) a)
        ≡ code_in (take (i + 1) ss) a
    grown a = sym (rw (take_more ss i d lt) (code_in_push (take i ss) (get_or ss i d) a))

    text_same : (a : ℕ) {x y : Option ℕ} → x ≡ y
        → cond (in_text_of trust a) x None ≡ cond (in_text_of trust a) y None
    text_same a e = ap (λ byte. cond (in_text_of trust a) byte None) e

-- ---- images

-- the trusted text of an accepted image is made of whole pages
pub image_paged : (image : List ℕ) (trust : TrustValue) → IsAccepted image
    → trust ≡ image_trust image → IsPaged trust
image_paged image trust accepted is a = rw is (sym (text_page image a accepted))

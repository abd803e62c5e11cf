-- The code of stretches: how it grows by one more, and its first unsafe sequence from those of the
-- stretches.
use Rattle.std.proofs.Common.{◌≡◌, ℕ, suc, zero, ◌+◌, ◌*◌, ◌/◌, ◌≤◌, ◌<◌, ◌^◌, ◌∙◌, ◌⊎◌, ◌++◌, List}
use Rattle.std.proofs.Common.{[], ◌∷◌, length, take, get_or, Option, Some, None, Bool, false, refl}
use Rattle.std.proofs.Common.{sym, ap, arith, inl, inr}
use Rattle.std.specs.Prelude.{nat_lt, if◌then◌else◌}
use Rattle.std.specs.List.{All}
use Rattle.std.proofs.Math.Path.{fun_ext}
use Rattle.std.proofs.lemmas.Bool.{cases_lt, lt-ltb, le-ltb}
use Rattle.std.proofs.lemmas.List.{get_or-take, length-take}
use Rattle.std.proofs.lemmas.List.Elements.{All-nil, All-push, All-tail}
use Rattle.std.proofs.lemmas.List.Quantifiers.{all_pairs_push}
use Rattle.erim_defs.specs.declared.found.Found.{Found}
use Rattle.erim_defs.specs.Inspection.Code.{Code, or_else}
use Rattle.erim_defs.specs.Inspection.Safe.{unsafe_at}
use Rattle.erim_defs.specs.Inspection.Trust.{TrustValue}
use Rattle.erim_defs.proofs.CodeLemmas.{laid_at_before, laid_at_past}
use Rattle.erim_defs.proofs.OccurrenceLemmas.{Agrees, occurrence_absent}
use Rattle.erim_defs.proofs.UnsafeLemmas.{unsafe_absent, unsafe_agrees}
use Rattle.image_code.specs.declared.ranges.PageBounds.{PageBounds}
use Rattle.image_code.specs.declared.stretch.Stretch.{Stretch}
use Rattle.image_code.specs.Ranges.{IsRange, LaysRange, NoneBetween}
use Rattle.image_code.specs.Stretches.{AreApart, LiesBefore, code_in, stretch_code, stretch_end}
use Rattle.erim_defs.specs.Inspection.Unsafe.{NoneUnsafe, IsFirstUnsafe}

-- ---- one more stretch

-- a code stands on pages of a test alone
abbrev pub StandsOn : (ℕ → Bool) → Code → Type 0
StandsOn test c = (a : ℕ) → test (a / 4096) ≡ false → c a ≡ None

-- the code below an address
abbrev pub below : ℕ → Code → Code
below high c = λ a. if nat_lt a high then c a else None

below_under : (high : ℕ) (c : Code) (a : ℕ) → a < high → below high c a ≡ c a
below_under high c a under = rw (lt-ltb a high under) refl

below_past : (high : ℕ) (c : Code) (a : ℕ) → high ≤ a → below high c a ≡ None
below_past high c a past = rw (le-ltb a high past) refl

below_none : (high : ℕ) (c : Code) (a : ℕ) → c a ≡ None → below high c a ≡ None
below_none high c a none = elim (cases_lt a high) [
  | inl under ↦ below_under high c a under ∙ none
  | inr past ↦ below_past high c a past
]

or_nothing : (o : Option ℕ) → or_else o None ≡ o
or_nothing None = refl
or_nothing (Some x) = refl

or_else_assoc : (x y z : Option ℕ) → or_else (or_else x y) z ≡ or_else x (or_else y z)
or_else_assoc None y z = refl
or_else_assoc (Some x) y z = refl

pub code_in_push : (ss : List Stretch) (s : Stretch) (a : ℕ)
    → code_in (ss ++ s ∷ []) a ≡ or_else (code_in ss a) (stretch_code s a)
code_in_push [] s a = or_nothing (stretch_code s a)
code_in_push (t ∷ ss) s a =
    rw (code_in_push ss s a)
    (sym (or_else_assoc (stretch_code t a) (code_in ss a) (stretch_code s a)))

-- the pages of a code below one were added to the code of some stretches
pub record LaysTo (old : List Stretch) (c : Code) (from : ℕ) (new : List Stretch) : Type 0 where
  pub same : (a : ℕ) → code_in new a ≡ or_else (code_in old a) (below (4096 * from) c a)
  pub apart : AreApart new
  pub before : All (λ s. stretch_end s + 4096 ≤ 4096 * from) new

-- at the beginning there is nothing
pub lays_nothing : (c : Code) → LaysTo [] c 0 []
lays_nothing c = record {
  same = λ a. sym (below_past (4096 * 0) c a (omega arith));
  apart = λ i j d lt in_range. absurd (omega arith);
  before =
      All-nil (λ s. stretch_end s + 4096 ≤ 4096 * 0);
}

-- nor is there where the code begins later
pub lays_begins : (old : List Stretch) (c : Code) (first : ℕ) (s : Stretch) → 4096 * first ≡ s.base
    → AreApart old → All (λ t. LiesBefore t s) old → ((a : ℕ) → a < s.base → c a ≡ None)
    → LaysTo old c first old
lays_begins old c first s base apart before none = record {
  same = λ a. sym (rw (begins a) (or_nothing (code_in old a)));
  apart = apart;
  before = λ i d lt. omega (arith, base, before i d lt);
}
  where
    begins : (a : ℕ) → below (4096 * first) c a ≡ None
    begins a = elim (cases_lt a (4096 * first)) [
      | inl under ↦ below_none (4096 * first) c a (none a (omega arith))
      | inr past ↦ below_past (4096 * first) c a past
    ]

-- the next range of pages is laid as a stretch
pub lays_next : (old : List Stretch) (c : Code) (test : ℕ
    → Bool) (from : ℕ) (new : List Stretch) (pages : PageBounds) (s :
    Stretch) → StandsOn test c → LaysTo old c from new
    → from ≤ pages.first → NoneBetween test from pages.first → IsRange test pages
    → s.base ≡ 4096 * pages.first → LaysRange c pages s.bytes.items
    → LaysTo old c (pages.end + 1) (new ++ s ∷ [])
lays_next old c test from new pages s stands so_far low none is base lays = record {
  same = λ a. code_in_push new s a
      ∙ rw (so_far.same a) (or_else_assoc (code_in old a) (below (4096 * from) c a)
      (stretch_code s a) ∙ ap (λ o. or_else (code_in old a) o) (grows a));
  apart = all_pairs_push LiesBefore new s so_far.apart
      (λ k d lt. omega (arith, so_far.before k d lt, base));
  before = All-push (λ t. stretch_end t + 4096 ≤ 4096 * (pages.end + 1)) new s
      (λ k d lt. omega (arith, so_far.before k d lt, is.some)) (omega (arith, ends));
}
  where
    ends : stretch_end s ≡ 4096 * pages.end
    ends = omega (arith, base, lays.long, is.some)

    laid : (a : ℕ) → 4096 * pages.first ≤ a → a < 4096 * pages.end → stretch_code s a ≡ c a
    laid a l h = rw base (lays.same a l h)

    grows : (a : ℕ) → or_else (below (4096 * from) c a) (stretch_code s a)
        ≡ below (4096 * (pages.end + 1)) c a
    grows a = elim (cases_lt a (4096 * from)) [
      | inl under ↦
          (let nothing : stretch_code s a
          ≡ None = laid_at_before s.base a s.bytes.items (omega (arith, base)) in
          rw nothing (or_nothing (below (4096 * from) c a) ∙ below_under (4096 * from) c a under
          ∙ sym (below_under (4096 * (pages.end + 1)) c a (omega (arith, is.some)))))
      | inr over ↦
          (let past : below (4096 * from) c a ≡ None = below_past (4096 * from) c a over in
          rw past (later a over))
    ]
      where
        later : (a : ℕ) → 4096 * from ≤ a → stretch_code s a ≡ below (4096 * (pages.end + 1)) c a
        later a over = elim (cases_lt a (4096 * pages.first)) [
          | inl before ↦
              laid_at_before s.base a s.bytes.items (omega (arith, base))
              ∙ sym (below_none (4096 * (pages.end + 1)) c a
              (stands a (none (a / 4096) (omega arith) (omega arith))))
          | inr from_first ↦ elim (cases_lt a (4096 * pages.end)) [
            | inl inside ↦ laid a from_first inside
                ∙ sym (below_under (4096 * (pages.end + 1)) c a (omega arith))
            | inr behind ↦ laid_at_past s.base a s.bytes.items (omega (arith, ends))
                ∙ sym (rest behind)
          ]
        ]
          where
            rest : 4096 * pages.end ≤ a → below (4096 * (pages.end + 1)) c a ≡ None
            rest behind = elim (cases_lt a (4096 * (pages.end + 1))) [
              | inl on_next ↦
                  (let page : a / 4096 ≡ pages.end = omega arith in
                  below_none (4096 * (pages.end + 1)) c a (stands a (rw page is.behind)))
              | inr past ↦ below_past (4096 * (pages.end + 1)) c a past
            ]

-- where no page is left all of the code was added
pub lays_ends : (old : List Stretch) (c : Code) (test : ℕ → Bool) (from : ℕ) (new : List Stretch)
    → StandsOn test c → LaysTo old c from new → ((page : ℕ) → from ≤ page → test page ≡ false)
    → (a : ℕ) → code_in new a ≡ or_else (code_in old a) (c a)
lays_ends old c test from new stands so_far none a =
    so_far.same a ∙ ap (λ o. or_else (code_in old a) o) all
  where
    all : below (4096 * from) c a ≡ c a
    all = elim (cases_lt a (4096 * from)) [
      | inl under ↦ below_under (4096 * from) c a under
      | inr past ↦ (let gone = none (a / 4096) (omega arith) in below_past (4096 * from) c a past
          ∙ sym (stands a gone))
    ]

-- two codes that have the same bytes are one
pub same_code : (c d : Code) → ((a : ℕ) → c a ≡ d a) → c ≡ d
same_code c d same = fun_ext same

-- ---- where the bytes are

none_before : (ss : List Stretch) (a : ℕ) → All (λ s. a < s.base) ss → code_in ss a ≡ None
none_before [] a before = refl
none_before (s ∷ ss) a before =
    let here : stretch_code s a ≡ None =
    laid_at_before s.base a s.bytes.items (before 0 s (omega arith)) in
    rw here (none_before ss a (All-tail (λ s. a < s.base) s ss before))

apart_tail : (s : Stretch) (ss : List Stretch) → AreApart (s ∷ ss) → AreApart ss
apart_tail s ss apart = λ i j d lt within. apart (suc i) (suc j) d (omega arith) (omega arith)

-- a stretch has the bytes of the code on its pages and the page after them
stretch_agrees : (ss : List Stretch) (k : ℕ) (d : Stretch) → AreApart ss → k < length ss
    → Agrees (stretch_code (get_or ss k d)) (code_in ss) (get_or ss k d).base
    (stretch_end (get_or ss k d) + 4096)
stretch_agrees [] k d apart lt = absurd (omega arith)
stretch_agrees (s ∷ ss) zero d apart lt = λ a low high.
    let rest : code_in ss a ≡ None =
    none_before ss a (λ i e within. omega (
      arith,
      apart 0 (suc i) e (omega arith) (omega arith),
      high,
    )) in
    rw rest (sym (or_nothing (stretch_code s a)))
stretch_agrees (s ∷ ss) (suc k) d apart lt = λ a low high.
    let here : stretch_code s a ≡ None =
    laid_at_past s.base a s.bytes.items
    (omega (arith, apart 0 (suc k) d (omega arith) lt, low)) in
    rw here (stretch_agrees ss k d (apart_tail s ss apart) (omega arith) a low high)

-- an address lies in one of the stretches
pub record LiesIn (ss : List Stretch) (d : Stretch) (a : ℕ) : Type 0 where
  pub place : ℕ
  pub within : place < length ss
  pub low : (get_or ss place d).base ≤ a
  pub high : a < stretch_end (get_or ss place d)

-- or there is no byte
found_in : (ss : List Stretch) (d : Stretch) (a : ℕ) → (code_in ss a ≡ None) ⊎ LiesIn ss d a
found_in [] d a = inl refl
found_in (s ∷ ss) d a = elim (cases_lt a s.base) [
  | inl before ↦ further (found_in ss d a) (laid_at_before s.base a s.bytes.items before)
  | inr low ↦ elim (cases_lt a (stretch_end s)) [
    | inl high ↦ inr (record { place = 0; within = omega arith; low = low; high = high })
    | inr past ↦ further (found_in ss d a) (laid_at_past s.base a s.bytes.items past)
  ]
]
  where
    further : (code_in ss a ≡ None) ⊎ LiesIn ss d a → stretch_code s a ≡ None
        → (code_in (s ∷ ss) a ≡ None) ⊎ LiesIn (s ∷ ss) d a
    further (inl nothing) none = inl (rw none nothing)
    further (inr is) none = inr
        (record {
          place = suc is.place;
          within = omega (arith, is.within);
          low = is.low;
          high = is.high;
        })

-- ---- the first unsafe sequence

-- nothing of a code is unsafe on a stretch, from an address on
abbrev pub IsClear : TrustValue → Code → ℕ → Stretch → Type 0
IsClear trust c from s = (a : ℕ) → from ≤ a → s.base ≤ a → a < stretch_end s
    → unsafe_at trust c a ≡ None

absent_safe : (trust : TrustValue) (c : Code) (a : ℕ) → c a ≡ None → unsafe_at trust c a ≡ None
absent_safe trust c a none = unsafe_absent trust c a (occurrence_absent c a none)

-- on its pages a stretch alone says what is unsafe
stretch_tells : (trust : TrustValue) (ss : List Stretch) (k : ℕ) (d : Stretch) (a : ℕ) → AreApart ss
    → k < length ss → (get_or ss k d).base ≤ a → a < stretch_end (get_or ss k d)
    → unsafe_at trust (stretch_code (get_or ss k d)) a ≡ unsafe_at trust (code_in ss) a
stretch_tells trust ss k d a apart lt low high =
    unsafe_agrees trust (stretch_code (get_or ss k d)) (code_in ss) a
    (λ b from to. stretch_agrees ss k d apart lt b (omega arith) (omega arith))

-- a stretch in which nothing is found is clear
pub clear_stretch : (trust : TrustValue) (ss : List Stretch) (k : ℕ) (d : Stretch) (from : ℕ)
    → AreApart ss → k < length ss
    → IsFirstUnsafe trust (stretch_code (get_or ss k d)) from (stretch_end (get_or ss k d)) None
    → IsClear trust (code_in ss) from (get_or ss k d)
clear_stretch trust ss k d from apart lt none =
    λ a ahead low high. sym (stretch_tells trust ss k d a apart lt low high) ∙ none a ahead high

-- what is found first in a stretch after clear ones is the first of all
pub first_of_stretch : (trust : TrustValue) (ss : List Stretch) (k : ℕ) (d : Stretch) (from : ℕ)
    (o : Found) → AreApart ss → k < length ss → All (IsClear trust (code_in ss) from) (take k ss)
    → IsFirstUnsafe trust (stretch_code (get_or ss k d)) from (stretch_end (get_or ss k d)) (Some o)
    → IsFirstUnsafe trust (code_in ss) from (2 ^ 47) (Some o)
first_of_stretch trust ss k d from o apart lt clear is = (
  is.0,
  omega (arith, s.user, is.1),
  sym (stretch_tells trust ss k d o.at apart lt inside is.1)
      ∙ is.2,
  none,
)
  where
    s : Stretch
    s = get_or ss k d

    inside : (get_or ss k d).base ≤ o.at
    inside = elim (cases_lt o.at (get_or ss k d).base) [
      | inl before ↦
          (let no : unsafe_at trust (stretch_code (get_or ss k d)) o.at ≡ None =
          absent_safe trust (stretch_code (get_or ss k d)) o.at
          (laid_at_before (get_or ss k d).base o.at (get_or ss k d).bytes.items before) in
          absurd (some_none o (sym is.2 ∙ no)))
      | inr low ↦ low
    ]
      where
        some_none : (o : Found) → Some o ≡ None → ⊥
        some_none o e = cc

    none : NoneUnsafe trust (code_in ss) from o.at
    none a ahead before = elim (found_in ss d a) [
      | inl nothing ↦ absent_safe trust (code_in ss) a nothing
      | inr at ↦ elim (cases_lt at.place k) [
        | inl earlier ↦
            (let cleared = clear at.place d (omega (arith, earlier, lt, length-take k ss)) in
            let same : get_or (take k ss) at.place d ≡ get_or ss at.place d =
            get_or-take k ss at.place d earlier in
            (rw same at cleared) a ahead at.low at.high)
        | inr later ↦ elim (cases_lt k at.place) [
          | inl behind ↦ absurd (omega (
            arith,
            apart k at.place d behind at.within,
            at.low,
            is.1,
            before,
          ))
          | inr last ↦
              (let here : at.place ≡ k = omega arith in
              sym (stretch_tells trust ss k d a apart lt (rw here at at.low) (rw here at at.high))
              ∙ is.3 a ahead before)
        ]
      ]
    ]

-- where all are clear nothing is unsafe
pub clear_all : (trust : TrustValue) (ss : List Stretch) (from : ℕ)
    → All (IsClear trust (code_in ss) from) ss → IsFirstUnsafe trust (code_in ss) from (2 ^ 47) None
clear_all trust [] from clear = λ a ahead user. absent_safe trust (code_in []) a refl
clear_all trust (s ∷ ss) from clear = λ a ahead user. elim (found_in (s ∷ ss) s a) [
  | inl nothing ↦ absent_safe trust (code_in (s ∷ ss)) a nothing
  | inr at ↦ clear at.place s at.within a ahead at.low at.high
]

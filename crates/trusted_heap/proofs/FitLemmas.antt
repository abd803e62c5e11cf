-- The lowest place where a block fits, in one range of heap and in several.
use Rattle.std.proofs.Common.{◌≡◌, ◌<◌, ◌≤◌, ◌+◌, ◌*◌, ◌/◌, ◌^◌, ◌∙◌, ℕ, zero, suc, Bool, true}
use Rattle.std.proofs.Common.{false, List, [], ◌∷◌, ◌++◌, ◌&&◌, ◌||◌, not, length, get_or, take}
use Rattle.std.proofs.Common.{nat_le, refl, sym, ap, subst, arith, inl, inr, cond, min}
use Rattle.std.proofs.Common.{Option, Some, None, IfSome}
use Rattle.std.specs.List.{list_any}
use Rattle.std.proofs.Math.Path.{fun_ext}
use Rattle.std.proofs.lemmas.Bool.{and_parts, cases_lt}
use Rattle.std.proofs.lemmas.Bool.Decides.{nat_tests}
use Rattle.std.proofs.lemmas.List.{take_all, take_more}
use Rattle.std.proofs.lemmas.List.Folds.{list_any-append}
use Rattle.erim_defs.specs.declared.trust.Span.{Span}
use Rattle.erim_defs.specs.Inspection.Code.{or_else}
use Rattle.erim_defs.specs.Machine.Least.{least_below}
use Rattle.erim_defs.specs.Machine.HeapCalls.{block_at, meets, lies_within, is_fit, first_fit}
use Rattle.erim_defs.specs.Machine.HeapCalls.{last_unit, last_unit_is}
use Rattle.erim_defs.proofs.LeastLemmas.{least_found, least_holds, least_low, least_none}
use Rattle.trusted_heap.specs.Blocks.{EndsLow, IsLowestGap, IsWithin, sooner}

-- ---- in one range

fits_by : (h : Span) (blocks : List Span) (u c : ℕ) → h.start ≤ 16 * u
    → 16 * u + 16 * c ≤ h.start + h.length → list_any (meets (block_at u c)) blocks ≡ false
    → is_fit (h ∷ []) blocks (block_at u c) ≡ true
fits_by h blocks u c l m free =
    let low : nat_le h.start (16 * u) ≡ true = grind (arith, nat_tests) in
    let high : nat_le (16 * u + 16 * c) (h.start + h.length) ≡ true = grind (arith, nat_tests) in
    rw (low, high, free) refl

before_heap : (h : Span) (blocks : List Span) (u c : ℕ) → 16 * u < h.start
    → is_fit (h ∷ []) blocks (block_at u c) ≡ false
before_heap h blocks u c l =
    let low : nat_le h.start (16 * u) ≡ false = grind (arith, nat_tests) in
    rw low refl

unfit : (a b : Bool) → b ≡ false → ((a && b || false) && true) ≡ false
unfit true b h = rw h refl
unfit false b h = refl

no_first : (a b x : Bool) → b ≡ false → (((a && b) || false) && x) ≡ false
no_first true b x h = rw h refl
no_first false b x h = refl

behind_heap : (h : Span) (blocks : List Span) (u c : ℕ) → h.start + h.length < 16 * u + 16 * c
    → is_fit (h ∷ []) blocks (block_at u c) ≡ false
behind_heap h blocks u c l =
    let high : nat_le (16 * u + 16 * c) (h.start + h.length) ≡ false = grind (arith, nat_tests) in
    no_first (nat_le h.start (16 * u)) _ _ high

no_not : (x y : Bool) → y ≡ true → (x && not y) ≡ false
no_not true y h = rw h refl
no_not false y h = refl

taken_away : (h : Span) (blocks : List Span) (u c : ℕ)
    → list_any (meets (block_at u c)) blocks ≡ true
    → is_fit (h ∷ []) blocks (block_at u c) ≡ false
taken_away h blocks u c t = no_not (list_any (lies_within (block_at u c)) (h ∷ [])) _ t

-- no place before the lowest gap fits
unfit_before : (h : Span) (blocks : List Span) (from u c k : ℕ) → from ≡ (h.start + 15) / 16
    → IsLowestGap blocks from c u → k < u → is_fit (h ∷ []) blocks (block_at k c) ≡ false
unfit_before h blocks from u c k e gap l = elim (cases_lt k from) [
  | inl before ↦ before_heap h blocks k c (omega (arith, e, before))
  | inr behind ↦ taken_away h blocks k c (gap.taken k behind l)
]

pub fit_some : (h : Span) (blocks : List Span) (from u c : ℕ) → from ≡ (h.start + 15) / 16
    → EndsLow h → 0 < c → IsLowestGap blocks from c u → u + c ≤ (h.start + h.length) / 16
    → first_fit (h ∷ []) blocks c ≡ Some u
unfolding first_fit
fit_some h blocks from u c e low some gap l =
    let user : u < 2 ^ 43 = omega (arith, low, some, l) in
    let behind = gap.behind in
    least_found last_unit u (λ unit. is_fit (h ∷ []) blocks (block_at unit c))
    (subst (λ (n : ℕ). u < n) (sym last_unit_is) user)
    (fits_by h blocks u c (omega (arith, e, behind)) (omega arith) gap.free)
    (λ k m. unfit_before h blocks from u c k e gap m)

pub fit_none : (h : Span) (blocks : List Span) (from u c : ℕ) → from ≡ (h.start + 15) / 16
    → IsLowestGap blocks from c u → (h.start + h.length) / 16 < u + c
    → first_fit (h ∷ []) blocks c ≡ None
unfolding first_fit
fit_none h blocks from u c e gap l =
    least_none last_unit (λ unit. is_fit (h ∷ []) blocks (block_at unit c))
    (λ k m. elim (cases_lt k u) [
      | inl before ↦ unfit_before h blocks from u c k e gap before
      | inr behind ↦ behind_heap h blocks k c (omega (arith, l, behind))
    ])

-- ---- in several ranges

pub none_in_none : (blocks : List Span) (c : ℕ) → first_fit [] blocks c ≡ None
unfolding first_fit
none_in_none blocks c = least_none last_unit _ (λ k l. refl)

-- what is found lies in a range, and meets no block
pub fit_holds : (heaps blocks : List Span) (c u : ℕ) → Some u ≡ first_fit heaps blocks c
    → IsWithin heaps (block_at u c) × (list_any (meets (block_at u c)) blocks ≡ false)
unfolding first_fit
fit_holds heaps blocks c u h =
    let parts = and_parts _ _ (least_holds last_unit u
    (λ k. is_fit heaps blocks (block_at k c)) (sym h)) in (parts.0, is_false _ parts.1)
  where
    is_false : (b : Bool) → not b ≡ true → b ≡ false
    is_false true h = absurd cc
    is_false false h = refl

least_either : (n : ℕ) (f g : ℕ → Bool) → least_below n (λ k. f k || g k)
    ≡ sooner (least_below n f) (least_below n g)
unfolding least_below
least_either zero f g = refl
least_either (suc n) f g =
    rw (least_either n f g)
    (by (least_below n f) (least_below n g) (f n) (g n) (λ p h. least_low n p f h)
    (λ p h. least_low n p g h))
  where
    by : (o r : Option ℕ) (a b : Bool) → ((p : ℕ) → o ≡ Some p → p < n)
        → ((p : ℕ) → r ≡ Some p → p < n)
        → or_else (sooner o r) (cond (a || b) (Some n) None)
        ≡ sooner (or_else o (cond a (Some n) None)) (or_else r (cond b (Some n) None))
    by None None true true lo lr = (let m : n ≡ min n n = omega arith in ap Some m)
    by None None true false lo lr = refl
    by None None false b lo lr = refl
    by None (Some q) true b lo lr = (let l = lr q refl in
        let m : q ≡ min n q = omega (arith, l) in ap Some m)
    by None (Some q) false b lo lr = refl
    by (Some p) None a true lo lr = (let l = lo p refl in
        let m : p ≡ min p n = omega (arith, l) in ap Some m)
    by (Some p) None a false lo lr = refl
    by (Some p) (Some q) a b lo lr = refl

either_and : (a b x : Bool) → ((a || b) && x) ≡ ((a && x) || (b && x))
either_and true b true = refl
either_and true true false = refl
either_and true false false = refl
either_and false b x = refl

fit_either : (hs gs blocks : List Span) (block : Span)
    → is_fit (hs ++ gs) blocks block ≡ (is_fit hs blocks block || is_fit gs blocks block)
fit_either hs gs blocks block =
    ap (λ x. x && not (list_any (meets block) blocks))
    (list_any-append (lies_within block) hs gs)
    ∙ either_and (list_any (lies_within block) hs) (list_any (lies_within block) gs)
    (not (list_any (meets block) blocks))

pub fit_append : (hs gs blocks : List Span) (c : ℕ)
    → first_fit (hs ++ gs) blocks c ≡ sooner (first_fit hs blocks c) (first_fit gs blocks c)
unfolding first_fit
fit_append hs gs blocks c =
    ap (λ (f : ℕ → Bool). least_below last_unit f)
    (fun_ext (λ u. fit_either hs gs blocks (block_at u c)))
    ∙ least_either last_unit (λ u. is_fit hs blocks (block_at u c))
    (λ u. is_fit gs blocks (block_at u c))

pub fit_next : (hs blocks : List Span) (i c : ℕ) (d : Span) (old new : Option ℕ) → i < length hs
    → old ≡ first_fit (take i hs) blocks c → new ≡ first_fit (get_or hs i d ∷ []) blocks c
    → sooner old new ≡ first_fit (take (i + 1) hs) blocks c
fit_next hs blocks i c d old new l o n =
    rw (take_more hs i d l, fit_append (take i hs) (get_or hs i d ∷ []) blocks c, o, n) refl

pub fit_all : (hs blocks : List Span) (i c : ℕ) (lowest : Option ℕ) → length hs ≤ i
    → lowest ≡ first_fit (take i hs) blocks c → lowest ≡ first_fit hs blocks c
fit_all hs blocks i c lowest l h = h ∙ ap (λ xs. first_fit xs blocks c) (take_all i hs l)

pub sooner_low : (count : ℕ) (a b : Option ℕ) → IfSome a (λ unit. unit + count ≤ 2 ^ 43)
    → IfSome b (λ unit. unit + count ≤ 2 ^ 43)
    → IfSome (sooner a b) (λ unit. unit + count ≤ 2 ^ 43)
sooner_low count None b h i = i
sooner_low count (Some a) None h i = h
sooner_low count (Some a) (Some b) h i = omega (arith, h, i)

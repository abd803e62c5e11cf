-- The lowest place between blocks, by a walk over them.
use Rattle.std.proofs.Common.{◌≡◌, ◌<◌, ◌≤◌, ◌+◌, ◌*◌, ◌∙◌, ℕ, zero, suc, Bool, true, false}
use Rattle.std.proofs.Common.{List, [], ◌∷◌, ◌&&◌, ◌||◌, length, get_or, drop, drop-cons, add-one}
use Rattle.std.proofs.Common.{refl, sym, ap, arith, inl, inr, ltb-true, cond}
use Rattle.std.specs.List.{list_any}
use Rattle.std.proofs.lemmas.Bool.{or_right, cases_Bool, cases_lt, lt-ltb, le-ltb, and_parts}
use Rattle.std.proofs.lemmas.List.{drop_all}
use Rattle.erim_defs.specs.declared.trust.Span.{Span}
use Rattle.erim_defs.specs.Machine.HeapCalls.{block_at, meets}
use Rattle.trusted_heap.specs.Blocks.{AreApart, EndsLow, IsLowestGap, unit_after}

-- a block that is met sends the place after it
abbrev pub past : Span → ℕ → ℕ → ℕ
past b unit count = cond (meets (block_at unit count) b) (unit_after b) unit

unfoldable pub walked : List Span → ℕ → ℕ → ℕ
walked [] unit count = unit
walked (b ∷ bs) unit count = walked bs (past b unit count) count

-- ---- one block

met_ends : (b : Span) (u c : ℕ) → meets (block_at u c) b ≡ true
    → (16 * u < b.start + b.length) × (b.start < 16 * u + 16 * c)
met_ends b u c h =
    let parts = and_parts _ _ h in (ltb-true _ _ parts.0, ltb-true _ _ parts.1)

met_by : (b : Span) (u c : ℕ) → 16 * u < b.start + b.length → b.start < 16 * u + 16 * c
    → meets (block_at u c) b ≡ true
met_by b u c l m =
    rw (lt-ltb (16 * u) (b.start + b.length) l, lt-ltb b.start (16 * u + 16 * c) m) refl

ends_before : (b : Span) (u c : ℕ) → b.start + b.length ≤ 16 * u
    → meets (block_at u c) b ≡ false
ends_before b u c l = rw (le-ltb (16 * u) (b.start + b.length) l) refl

no_second : (x y : Bool) → y ≡ false → (x && y) ≡ false
no_second true y h = h
no_second false y h = refl

begins_behind : (b : Span) (u c : ℕ) → 16 * u + 16 * c ≤ b.start
    → meets (block_at u c) b ≡ false
begins_behind b u c l = no_second _ _ (le-ltb b.start (16 * u + 16 * c) l)

past_met : (b : Span) (u c : ℕ) → meets (block_at u c) b ≡ true → past b u c ≡ unit_after b
past_met b u c h = rw h refl

past_free : (b : Span) (u c : ℕ) → meets (block_at u c) b ≡ false → past b u c ≡ u
past_free b u c h = rw h refl

past_low : (b : Span) (u c : ℕ) → u ≤ past b u c
past_low b u c = elim (cases_Bool (meets (block_at u c) b)) [
  | inl t ↦ (let ends = (met_ends b u c t).0 in let e = past_met b u c t in omega (arith, ends, e))
  | inr f ↦ (let e = past_free b u c f in omega (arith, e))
]

-- a place that the block takes away
met_between : (b : Span) (u c k : ℕ) → u ≤ k → k < past b u c → meets (block_at k c) b ≡ true
met_between b u c k l m = elim (cases_Bool (meets (block_at u c) b)) [
  | inl t ↦ (let ends = met_ends b u c t in
      let e = past_met b u c t in
      met_by b k c (omega (arith, e, m)) (omega (arith, ends, l)))
  | inr f ↦ (let e = past_free b u c f in absurd (omega (arith, e, l, m)))
]

-- ---- all blocks

pub walked_low : (bs : List Span) (u c : ℕ) → u ≤ walked bs u c
unfolding walked
walked_low [] u c = omega arith
walked_low (b ∷ bs) u c =
    let first = past_low b u c in
    let rest = walked_low bs (past b u c) c in omega (arith, first, rest)

walked_taken : (bs : List Span) (u c k : ℕ) → u ≤ k → k < walked bs u c
    → list_any (meets (block_at k c)) bs ≡ true
unfolding walked
walked_taken [] u c k l m = absurd (omega (arith, l, m))
walked_taken (b ∷ bs) u c k l m = elim (cases_lt k (past b u c)) [
  | inl before ↦ ap (λ x. x || list_any (meets (block_at k c)) bs) (met_between b u c k l before)
  | inr behind ↦
      or_right (meets (block_at k c) b) _ (walked_taken bs (past b u c) c k behind m)
]

-- no block begins before the end of the place
walked_stays : (bs : List Span) (u c least : ℕ) → AreApart least bs → 16 * u + 16 * c ≤ least
    → walked bs u c ≡ u
unfolding walked AreApart
walked_stays [] u c least r l = refl
walked_stays (b ∷ bs) u c least r l =
    let from = r.0 in
    let e = past_free b u c (begins_behind b u c (omega (arith, from, l))) in
    ap (λ p. walked bs p c) e
    ∙ walked_stays bs u c (b.start + b.length) r.3 (omega (arith, from, l))

free_of : (b : Span) (bs : List Span) (u c : ℕ) → AreApart (b.start + b.length) bs
    → meets (block_at (walked bs (past b u c) c) c) b ≡ false
free_of b bs u c r = elim (cases_Bool (meets (block_at u c) b)) [
  | inl t ↦ (let e = past_met b u c t in
      let low = walked_low bs (past b u c) c in
      ends_before b (walked bs (past b u c) c) c (omega (arith, e, low)))
  | inr f ↦ (let e = past_free b u c f in
      elim (cases_lt (16 * u) (b.start + b.length)) [
        | inl before ↦ elim (cases_lt b.start (16 * u + 16 * c)) [
          | inl meets_it ↦ (let met = met_by b u c before meets_it in
              absurd (let bad : true ≡ false = sym met ∙ f in cc))
          | inr behind ↦ (let stays = ap (λ p. walked bs p c) e
              ∙ walked_stays bs u c (b.start + b.length) r (omega (arith, behind)) in
              begins_behind b _ c (omega (arith, stays, behind)))
        ]
        | inr ended ↦ (let low = walked_low bs (past b u c) c in
            ends_before b (walked bs (past b u c) c) c (omega (arith, e, low, ended)))
      ])
]

walked_free : (bs : List Span) (u c least : ℕ) → AreApart least bs
    → list_any (meets (block_at (walked bs u c) c)) bs ≡ false
unfolding walked AreApart
walked_free [] u c least r = refl
walked_free (b ∷ bs) u c least r =
    ap (λ x. x || list_any (meets (block_at (walked bs (past b u c) c) c)) bs)
    (free_of b bs u c r.3) ∙ walked_free bs (past b u c) c (b.start + b.length) r.3

pub walked_lowest : (bs : List Span) (u c : ℕ) → AreApart 0 bs
    → IsLowestGap bs u c (walked bs u c)
walked_lowest bs u c r = record {
  behind = walked_low bs u c;
  free = walked_free bs u c 0 r;
  taken = walked_taken bs u c;
}

-- ---- as a loop walks

-- what stands after the end of a list
abbrev pub no_span : Span
no_span = record { start = 0; length = 0 }

walk_next : (bs : List Span) (i u c : ℕ) → i < length bs
    → walked (drop i bs) u c ≡ walked (drop (i + 1) bs) (past (get_or bs i no_span) u c) c
unfolding walked
walk_next bs i u c l = rw (add-one, drop-cons bs i no_span l) refl

pub walk_past : (bs : List Span) (i u c v end : ℕ) → i < length bs
    → meets (block_at u c) (get_or bs i no_span) ≡ true → v ≡ unit_after (get_or bs i no_span)
    → walked (drop i bs) u c ≡ end → walked (drop (i + 1) bs) v c ≡ end
walk_past bs i u c v end l t e h =
    ap (λ p. walked (drop (i + 1) bs) p c) (e ∙ sym (past_met (get_or bs i no_span) u c t))
    ∙ sym (walk_next bs i u c l) ∙ h

pub walk_on : (bs : List Span) (i u c v end : ℕ) → i < length bs
    → meets (block_at u c) (get_or bs i no_span) ≡ false → v ≡ u
    → walked (drop i bs) u c ≡ end → walked (drop (i + 1) bs) v c ≡ end
walk_on bs i u c v end l f e h =
    ap (λ p. walked (drop (i + 1) bs) p c) (e ∙ sym (past_free (get_or bs i no_span) u c f))
    ∙ sym (walk_next bs i u c l) ∙ h

pub walk_end : (bs : List Span) (i u c : ℕ) → length bs ≤ i → walked (drop i bs) u c ≡ u
unfolding walked
walk_end bs i u c l = rw (drop_all i bs l) refl

-- a block of them ends in user memory
pub ends_low : (least : ℕ) (bs : List Span) (i : ℕ) (d : Span) → AreApart least bs
    → i < length bs → EndsLow (get_or bs i d)
unfolding AreApart
ends_low least [] i d r l = absurd (omega (arith, l))
ends_low least (b ∷ bs) zero d r l = r.2
ends_low least (b ∷ bs) (suc i) d r l = ends_low (b.start + b.length) bs i d r.3 (omega (arith, l))

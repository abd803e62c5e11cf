-- The live blocks by rising address, when one comes or goes.
use Rattle.std.proofs.Common.{◌≡◌, ◌<◌, ◌≤◌, ◌+◌, ◌∙◌, ℕ, suc, Bool, true, false, not}
use Rattle.std.proofs.Common.{List, [], ◌∷◌, ◌++◌, length, get_or, take, drop, drop-cons, add-one}
use Rattle.std.proofs.Common.{◌==◌, ◌||◌, nat_le, nat_lt, refl, sym, ap, arith, inl, inr, leb-true}
use Rattle.std.proofs.Common.{ltb-true, append_assoc, Result, Ok, Err, IsOk, is_ok, cond}
use Rattle.std.specs.List.{All, insert, filter, list_any}
use Rattle.std.proofs.lemmas.Bool.{and_parts, cases_Bool, cases_lt, lt-ltb, le-ltb, ltb-false}
use Rattle.std.proofs.lemmas.Bool.{or_parts}
use Rattle.std.proofs.lemmas.List.Elements.{All-cons, All-head, All-tail}
use Rattle.std.proofs.lemmas.List.{drop_all}
use Rattle.std.proofs.Math.Seq.{take-suc}
use Rattle.erim_defs.specs.declared.trust.Span.{Span}
use Rattle.erim_defs.specs.Machine.HeapCalls.{lies_within, meets, starts_at}
use Rattle.erim_defs.specs.Machine.HeapCalls.{with_block, without_block}
use Rattle.trusted_heap.specs.Blocks.{AreApart, EndsLow, IsWithin}

-- ---- apart

weaker : (less least : ℕ) (bs : List Span) → less ≤ least → AreApart least bs → AreApart less bs
unfolding AreApart
weaker less least [] l r = tt
weaker less least (b ∷ bs) l r = (let from = r.0 in (omega (arith, l, from), r.1, r.2, r.3))

-- a block that begins first ends first, where none meets another
ends_first : (block b : Span) → 0 < b.length → meets block b ≡ false → block.start < b.start
    → block.start + block.length ≤ b.start
ends_first block b some free l = elim (cases_lt b.start (block.start + block.length)) [
  | inl over ↦ (let met : meets block b ≡ true =
      rw (
        lt-ltb block.start (b.start + b.length) (omega (arith, l)),
        lt-ltb b.start (block.start + block.length) over,
      ) refl in
      absurd (let bad : true ≡ false = sym met ∙ free in cc))
  | inr behind ↦ behind
]

begins_behind : (block b : Span) → 0 < block.length → meets block b ≡ false
    → b.start ≤ block.start → b.start + b.length ≤ block.start
begins_behind block b some free l = elim (cases_lt block.start (b.start + b.length)) [
  | inl over ↦ (let met : meets block b ≡ true =
      rw (
        lt-ltb block.start (b.start + b.length) over,
        lt-ltb b.start (block.start + block.length) (omega (arith, l, some)),
      ) refl in
      absurd (let bad : true ≡ false = sym met ∙ free in cc))
  | inr behind ↦ behind
]

pub apart_with : (least : ℕ) (block : Span) (bs : List Span) → least ≤ block.start
    → 0 < block.length → EndsLow block → list_any (meets block) bs ≡ false → AreApart least bs
    → AreApart least (with_block block bs)
unfolding AreApart with_block
apart_with least block [] l some low free r = (l, some, low, tt)
apart_with least block (b ∷ bs) l some low free r =
    let none = or_parts (meets block b) (list_any (meets block) bs) free in
    elim (cases_Bool (nat_lt block.start b.start)) [
      | inl t ↦ rw t (
        l,
        some,
        low,
        (ends_first block b r.1 none.0 (ltb-true _ _ t), r.1, r.2, r.3),
      )
      | inr f ↦ rw f (
        r.0,
        r.1,
        r.2,
        apart_with (b.start + b.length) block bs
            (begins_behind block b some none.0 (ltb-false _ _ f)) some low none.1 r.3,
      )
    ]

pub apart_without : (least addr : ℕ) (bs : List Span) → AreApart least bs
    → AreApart least (without_block addr bs)
unfolding AreApart without_block
apart_without least addr [] r = tt
apart_without least addr (b ∷ bs) r =
    let rest = apart_without (b.start + b.length) addr bs r.3 in
    elim (cases_Bool (starts_at addr b)) [
      | inl t ↦ rw t (let from = r.0 in
          weaker least (b.start + b.length) _ (omega (arith, from)) rest)
      | inr f ↦ rw f (r.0, r.1, r.2, rest)
    ]

pub none_apart : (least : ℕ) → AreApart least []
unfolding AreApart
none_apart least = tt

-- ---- each of them

pub all_with : (P : Span → Type 0) (block : Span) (bs : List Span) → P block → All P bs
    → All P (with_block block bs)
unfolding with_block
all_with P block [] p all = All-cons P block [] p all
all_with P block (b ∷ bs) p all = elim (cases_Bool (nat_lt block.start b.start)) [
  | inl t ↦ rw t (All-cons P block (b ∷ bs) p all)
  | inr f ↦ rw f (All-cons P b _ (All-head P b bs all)
      (all_with P block bs p (All-tail P b bs all)))
]

-- what lies in a range ends where that ends, or before
pub within_low : (heaps : List Span) (block : Span) → All EndsLow heaps → IsWithin heaps block
    → EndsLow block
within_low [] block all h = absurd cc
within_low (s ∷ heaps) block all h = elim (cases_Bool (lies_within block s)) [
  | inl t ↦ (let end : block.start + block.length ≤ s.start + s.length =
      leb-true _ _ (and_parts (nat_le s.start block.start) _ t).1 in
      let low = All-head EndsLow s heaps all in omega (arith, end, low))
  | inr f ↦ (let rest : IsWithin heaps block =
      sym (ap (λ b. b || list_any (lies_within block) heaps) f) ∙ h in
      within_low heaps block (All-tail EndsLow s heaps all) rest)
]

pub without_is : (addr : ℕ) (bs : List Span)
    → without_block addr bs ≡ filter (λ b. not (b.start == addr)) bs
unfolding without_block
without_is addr [] = refl
without_is addr (b ∷ bs) = elim (cases_Bool (starts_at addr b)) [
  | inl t ↦ rw t (without_is addr bs)
  | inr f ↦ rw f (ap (λ xs. b ∷ xs) (without_is addr bs))
]

-- ---- where a block goes

-- an insertion with room to spare
pub put_items : {T E X : Type 0} (r : Result T E) (xs ys : List X) (i : ℕ) (x : X) → IsOk r
    → ys ≡ cond (is_ok r) (insert xs i x) xs → ys ≡ insert xs i x
put_items (Ok t) xs ys i x h e = e
put_items (Err f) xs ys i x h e = absurd cc

pub one_more : (b : Bool) (n m : ℕ) → m ≡ cond b (n + 1) n → m ≤ n + 1
one_more true n m e = omega (arith, e)
one_more false n m e = omega (arith, e)

pub place_next : (bs : List Span) (block : Span) (i : ℕ) (d : Span) → i < length bs
    → (get_or bs i d).start ≤ block.start
    → with_block block bs ≡ take i bs ++ with_block block (drop i bs)
    → with_block block bs ≡ take (i + 1) bs ++ with_block block (drop (i + 1) bs)
unfolding with_block
place_next bs block i d l le h =
    let b = get_or bs i d in
    let rest = with_block block (drop (suc i) bs) in
    h ∙ rw (add-one, take-suc bs i d l, drop-cons bs i d l, le-ltb block.start b.start le)
    (sym (append_assoc (take i bs) (b ∷ []) rest))

pub place_here : (bs : List Span) (block : Span) (i : ℕ) (d : Span) → i < length bs
    → block.start < (get_or bs i d).start
    → with_block block bs ≡ take i bs ++ with_block block (drop i bs)
    → with_block block bs ≡ insert bs i block
unfolding with_block
place_here bs block i d l lt h =
    let b = get_or bs i d in
    h ∙ rw (drop-cons bs i d l, lt-ltb block.start b.start lt) refl

pub place_last : (bs : List Span) (block : Span) (i : ℕ) → length bs ≤ i
    → with_block block bs ≡ take i bs ++ with_block block (drop i bs)
    → with_block block bs ≡ take i bs ++ block ∷ drop i bs
unfolding with_block
place_last bs block i le h = h ∙ rw (drop_all i bs le) refl

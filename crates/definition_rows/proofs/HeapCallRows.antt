-- The calls on the trusted heap on small states, computed. They are own: talloc 1000, tfree 1001;
-- EPERM 1, ENOMEM 12, EINVAL 22; a block has a multiple of 16 bytes.
use Rattle.std.proofs.Common.{◌≡◌, ℕ, zero, suc, ◌+◌, ◌*◌, ◌^◌, ◌<◌, ◌≤◌, ◌&&◌, not, nat_le}
use Rattle.std.proofs.Common.{nat_lt, Bool, List, [], ◌∷◌, map, length, Some, None, true}
use Rattle.std.proofs.Common.{false, refl, ap, sym, subst, arith, inl, inr, ltb-true}
use Rattle.std.specs.List.{list_any}
use Rattle.std.proofs.lemmas.Bool.{and_parts, cases_lt}
use Rattle.std.proofs.lemmas.Bool.Decides.{nat_tests}
use Rattle.erim_defs.specs.declared.machine.Thread.{Thread}
use Rattle.erim_defs.specs.declared.trust.Span.{Span}
use Rattle.erim_defs.specs.Machine.CallResult.{Refusal, Answer, ThreadEnd, Quit, CallResult}
use Rattle.erim_defs.specs.Machine.HeapCalls.{block_at, first_fit, is_fit, last_unit, last_unit_is}
use Rattle.erim_defs.specs.Machine.HeapCalls.{lies_within, meets}
use Rattle.erim_defs.specs.Machine.State.{State}
use Rattle.erim_defs.proofs.LeastLemmas.{least_found, least_none}
use Rattle.definition_rows.proofs.SmallMachine.{call_by, state_of, thread_at}

abbrev span : ℕ → ℕ → Span
span start length = record { start = start; length = length }

-- ---- the lowest place: the search's bound is never counted up to

-- no heap begins before a unit
abbrev all_from : ℕ → List Span → Bool
all_from unit [] = true
all_from unit (h ∷ hs) = nat_le (16 * unit) h.start && all_from unit hs

-- no block of this size fits at a given number of units from one on
abbrev none_fits : List Span → List Span → ℕ → ℕ → ℕ → Bool
none_fits heaps blocks count unit zero = true
none_fits heaps blocks count unit (suc n) =
    not (is_fit heaps blocks (block_at (unit + n) count)) && none_fits heaps blocks count unit n

-- one fits a given number of units after the first of all heaps, and none before
abbrev is_first : List Span → List Span → ℕ → ℕ → ℕ → Bool
is_first heaps blocks count unit n =
    all_from unit heaps
    && (none_fits heaps blocks count unit n
    && (is_fit heaps blocks (block_at (unit + n) count) && nat_lt (unit + n) 8796093022208))

before_all : (heaps : List Span) (unit k count : ℕ) → all_from unit heaps ≡ true → k < unit
    → list_any (lies_within (block_at k count)) heaps ≡ false
before_all [] unit k count h l = refl
before_all (s ∷ heaps) unit k count h l =
    let parts = and_parts _ _ h in
    let from : nat_le (16 * unit) s.start ≡ true = parts.0 in
    let before : nat_le s.start (16 * k) ≡ false = grind (arith, nat_tests) in
    rw before (before_all heaps unit k count parts.1 l)

is_false : (b : Bool) → not b ≡ true → b ≡ false
is_false true h = absurd cc
is_false false h = refl

never_fits : (heaps blocks : List Span) (count unit n k : ℕ)
    → none_fits heaps blocks count unit n ≡ true → unit ≤ k → k < unit + n
    → is_fit heaps blocks (block_at k count) ≡ false
never_fits heaps blocks count unit zero k h l m = absurd (omega (arith, l, m))
never_fits heaps blocks count unit (suc n) k h l m =
    let parts = and_parts (not (is_fit heaps blocks (block_at (unit + n) count)))
    (none_fits heaps blocks count unit n) h in
    elim (cases_lt k (unit + n)) [
      | inl before ↦ never_fits heaps blocks count unit n k parts.1 l before
      | inr last ↦ (let same : unit + n ≡ k = omega (arith, last, m) in
          subst (λ (u : ℕ). is_fit heaps blocks (block_at u count) ≡ false) same
          (is_false _ parts.0))
    ]

first_is : (heaps blocks : List Span) (count unit n : ℕ)
    → is_first heaps blocks count unit n ≡ true
    → first_fit heaps blocks count ≡ Some (unit + n)
unfolding first_fit
first_is heaps blocks count unit n h =
    let all = and_parts _ _ h in
    let none = and_parts _ _ all.1 in
    let fits = and_parts _ _ none.1 in
    let user : unit + n < 2 ^ 43 = ltb-true _ _ fits.1 in
    least_found last_unit (unit + n) (λ u. is_fit heaps blocks (block_at u count))
    (subst (λ (bound : ℕ). unit + n < bound) (sym last_unit_is) user) fits.0
    (λ k l. elim (cases_lt k unit) [
      | inl before ↦ ap (λ b. b && not (list_any (meets (block_at k count)) blocks))
          (before_all heaps unit k count all.0 before)
      | inr behind ↦ never_fits heaps blocks count unit n k none.0 behind l
    ])

-- every heap is shorter than the block
abbrev all_short : ℕ → List Span → Bool
all_short count [] = true
all_short count (h ∷ hs) = nat_lt h.length (16 * count) && all_short count hs

never_within : (heaps : List Span) (k count : ℕ) → all_short count heaps ≡ true
    → list_any (lies_within (block_at k count)) heaps ≡ false
never_within [] k count h = refl
never_within (s ∷ heaps) k count h =
    let parts = and_parts _ _ h in
    let short : s.length < 16 * count = ltb-true _ _ parts.0 in
    let out : (nat_le s.start (16 * k)
    && nat_le (16 * k + 16 * count) (s.start + s.length)) ≡ false = grind (arith, nat_tests) in
    rw out (never_within heaps k count parts.1)

no_place : (heaps blocks : List Span) (count : ℕ) → all_short count heaps ≡ true
    → first_fit heaps blocks count ≡ None
unfolding first_fit
no_place heaps blocks count h =
    least_none last_unit (λ u. is_fit heaps blocks (block_at u count))
    (λ k l. ap (λ b. b && not (list_any (meets (block_at k count)) blocks))
    (never_within heaps k count h))

-- ---- the state: the image has one heap, of 4096 bytes at 0x407000

abbrev one_heap : List Span
one_heap = span 0x407000 4096 ∷ []

-- with these blocks
state : List Span → State
state blocks = record (state_of (thread_at 0x401000 0 0 0) []) { blocks = blocks }

-- open, with RAX and RDI
caller : ℕ → ℕ → Thread
caller rax rdi = record (thread_at 0x402002 0 0 0) {
  regs = rax ∷ 1 ∷ 2 ∷ 3 ∷ 4 ∷ 5 ∷ 6 ∷ rdi ∷ 8 ∷ 9 ∷ 10 ∷ 11 ∷ 12 ∷ 13 ∷ 14 ∷ 15 ∷ [];
  pkru = 0x55555550;
}

closed_caller : ℕ → ℕ → Thread
closed_caller rax rdi = record (caller rax rdi) { pkru = 0x55555554 }

-- what is said of a call: its error, or its answer and the blocks
data Told : Type 0 where
  Refused : ℕ → Told
  Blocks : ℕ → List Span → Told

abbrev told : CallResult → Told
told (Refusal e) = Refused e
told (Answer v c) = Blocks v c.blocks
told (ThreadEnd status) = Refused 0
told (Quit status) = Refused 0

talloc : List Span → ℕ → Told
unfolding call_by state caller
talloc blocks len = told (call_by (state blocks) (caller 1000 len))

tfree : List Span → ℕ → Told
unfolding call_by state caller
tfree blocks addr = told (call_by (state blocks) (caller 1001 addr))

-- ---- one after the other

first_block : talloc [] 24 ≡ Blocks 0x407000 (span 0x407000 32 ∷ [])
unfolding talloc
first_block = rw (first_is one_heap [] 2 0x40700 0 refl) refl

second_block :
    talloc (span 0x407000 32 ∷ []) 8
    ≡ Blocks 0x407020 (span 0x407000 32 ∷ span 0x407020 16 ∷ [])
unfolding talloc
second_block = rw (first_is one_heap (span 0x407000 32 ∷ []) 1 0x40700 2 refl) refl

freed_block :
    tfree (span 0x407000 32 ∷ span 0x407020 16 ∷ []) 0x407000 ≡ Blocks 0 (span 0x407020 16 ∷ [])
unfolding tfree
freed_block = refl

-- 48 bytes don't fit in the hole of 32
behind_the_hole :
    talloc (span 0x407020 16 ∷ []) 40
    ≡ Blocks 0x407030 (span 0x407020 16 ∷ span 0x407030 48 ∷ [])
unfolding talloc
behind_the_hole = rw (first_is one_heap (span 0x407020 16 ∷ []) 3 0x40700 3 refl) refl

-- 32 bytes do, exactly, between two blocks too
in_the_hole :
    talloc (span 0x407020 16 ∷ []) 32
    ≡ Blocks 0x407000 (span 0x407000 32 ∷ span 0x407020 16 ∷ [])
unfolding talloc
in_the_hole = rw (first_is one_heap (span 0x407020 16 ∷ []) 2 0x40700 0 refl) refl

between_blocks :
    talloc (span 0x407000 16 ∷ span 0x407030 16 ∷ []) 32
    ≡ Blocks 0x407010 (span 0x407000 16 ∷ span 0x407010 32 ∷ span 0x407030 16 ∷ [])
unfolding talloc
between_blocks =
    rw (first_is one_heap (span 0x407000 16 ∷ span 0x407030 16 ∷ []) 2 0x40700 1 refl) refl

-- one byte more takes the place after them
not_between_blocks :
    talloc (span 0x407000 16 ∷ span 0x407030 16 ∷ []) 33
    ≡ Blocks 0x407040 (span 0x407000 16 ∷ span 0x407030 16 ∷ span 0x407040 48 ∷ [])
unfolding talloc
not_between_blocks =
    rw (first_is one_heap (span 0x407000 16 ∷ span 0x407030 16 ∷ []) 3 0x40700 4 refl) refl

-- ---- lengths

smallest : talloc [] 1 ∷ talloc [] 16 ∷ talloc [] 17 ∷ []
    ≡ Blocks 0x407000 (span 0x407000 16 ∷ []) ∷ Blocks 0x407000 (span 0x407000 16 ∷ [])
    ∷ Blocks 0x407000 (span 0x407000 32 ∷ []) ∷ []
unfolding talloc
smallest =
    rw (first_is one_heap [] 1 0x40700 0 refl, first_is one_heap [] 2 0x40700 0 refl) refl

whole_heap : talloc [] 4096 ≡ Blocks 0x407000 (span 0x407000 4096 ∷ [])
unfolding talloc
whole_heap = rw (first_is one_heap [] 256 0x40700 0 refl) refl

too_long : talloc [] 4097 ∷ talloc [] 0xFFFFFFFFFFFFFFFF ∷ [] ≡ Refused 12 ∷ Refused 12 ∷ []
unfolding talloc
too_long = rw (no_place one_heap [] 257 refl, no_place one_heap [] 0x1000000000000000 refl) refl

-- ---- two heaps that adjoin: a block is within one; of two places the lower, in whatever order

adjoining :
    first_fit (span 0x407000 32 ∷ span 0x407020 32 ∷ []) (span 0x407000 16 ∷ []) 2 ≡ Some 0x40702
adjoining =
    first_is (span 0x407000 32 ∷ span 0x407020 32 ∷ []) (span 0x407000 16 ∷ []) 2 0x40700 2 refl

over_both : first_fit (span 0x407000 32 ∷ span 0x407020 32 ∷ []) [] 3 ≡ None
over_both = no_place (span 0x407000 32 ∷ span 0x407020 32 ∷ []) [] 3 refl

higher_first : first_fit (span 0x409000 32 ∷ span 0x407000 32 ∷ []) [] 2 ≡ Some 0x40700
higher_first = first_is (span 0x409000 32 ∷ span 0x407000 32 ∷ []) [] 2 0x40700 0 refl

-- ---- refusals

talloc_nothing : talloc [] 0 ≡ Refused 22
unfolding talloc
talloc_nothing = refl

-- a closed caller, for whatever it asks
closed :
    map (λ (t : Thread). told (call_by (state (span 0x407000 32 ∷ [])) t))
    (closed_caller 1000 24 ∷ closed_caller 1000 0 ∷ closed_caller 1001 0x407000
    ∷ closed_caller 1001 0 ∷ [])
    ≡ Refused 1 ∷ Refused 1 ∷ Refused 1 ∷ Refused 1 ∷ []
unfolding call_by state closed_caller caller
closed = refl

-- 1,024 live blocks; one less; the length before that
full : (blocks : List Span) → length blocks ≡ 1024 → talloc blocks 24 ≡ Refused 12
unfolding talloc
full blocks h = rw h refl

last_of_all :
    (blocks : List Span) → length blocks ≡ 1023 → first_fit one_heap blocks 2 ≡ None
    → talloc blocks 24 ≡ Refused 12
unfolding talloc
last_of_all blocks h f = rw (h, f) refl

length_before_room : (blocks : List Span) → length blocks ≡ 1024 → talloc blocks 0 ≡ Refused 22
unfolding talloc
length_before_room blocks h = refl

-- within a block, after it, one that was freed, the heap's first byte without a block
free_refused :
    tfree (span 0x407000 32 ∷ []) 0x407008 ∷ tfree (span 0x407000 32 ∷ []) 0x407010
    ∷ tfree (span 0x407000 32 ∷ []) 0x407020 ∷ tfree (span 0x407020 16 ∷ []) 0x407000
    ∷ tfree [] 0x407000 ∷ []
    ≡ Refused 22 ∷ Refused 22 ∷ Refused 22 ∷ Refused 22 ∷ Refused 22 ∷ []
unfolding tfree
free_refused = refl

-- the others stay
free_middle :
    tfree (span 0x407000 32 ∷ span 0x407020 16 ∷ span 0x407030 16 ∷ []) 0x407020
    ≡ Blocks 0 (span 0x407000 32 ∷ span 0x407030 16 ∷ [])
unfolding tfree
free_middle = refl

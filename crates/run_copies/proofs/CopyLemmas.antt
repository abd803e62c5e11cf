-- The parts of a region's copy, instruction by instruction.
use Rattle.std.proofs.Common.{◌≡◌, ℕ, suc, ◌+◌, ◌<◌, ◌≤◌, ◌++◌, ◌∙◌, List, [], ◌∷◌, length, drop}
use Rattle.std.proofs.Common.{get_or, append_assoc, length-append, Bool, true, false, refl, sym, ap}
use Rattle.std.proofs.Common.{arith}
use Rattle.std.specs.Prelude.{◌&&◌}
use Rattle.std.proofs.Math.Seq.{drop-cons}
use Rattle.std.proofs.Math.ListN.{drop_of_length-le}
use Rattle.std.proofs.lemmas.Grind.{flat_map-append}
use Rattle.erim_defs.specs.declared.found.Found.{Found}
use Rattle.erim_defs.specs.Rewriting.Standing.{Standing}
use Rattle.erim_defs.specs.Rewriting.Sites.{Region, region_end, region_insns}
use Rattle.erim_defs.specs.Rewriting.Copies.{Back, Part, bytes_of, copy_parts, filler, insn_parts}
use Rattle.erim_defs.specs.Rewriting.Copies.{jump, parts_from}
use Rattle.run_copies.specs.Spelling.{all_fit, gap_bytes}
use Rattle.run_copies.proofs.PartLemmas.{gap_bytes_of, gap_fits}

and_assoc : (a b c : Bool) → ((a && b) && c) ≡ (a && (b && c))
and_assoc true b c = refl
and_assoc false b c = refl

all_append : (xs ys : List Part) → all_fit (xs ++ ys) ≡ (all_fit xs && all_fit ys)
all_append [] ys = refl
all_append (p ∷ xs) ys =
    ap (λ b. p.fits && b) (all_append xs ys) ∙ sym (and_assoc p.fits (all_fit xs) (all_fit ys))

bytes_append : (xs ys : List Part) → bytes_of (xs ++ ys) ≡ bytes_of xs ++ bytes_of ys
bytes_append xs ys = flat_map-append (λ (p : Part). p.bytes) xs ys

-- ---- the first instruction, and those after it

-- where the copy of the next one begins
abbrev next_at : List Found → ℕ → Standing → ℕ
next_at es at i = at + length (bytes_of (insn_parts es at i)) + length (gap_bytes es i)

same_next : (es : List Found) (at : ℕ) (i : Standing)
    → at + length (bytes_of (insn_parts es at i))
    + length (bytes_of (filler es (at + length (bytes_of (insn_parts es at i))) i))
    ≡ next_at es at i
same_next es at i =
    ap (λ xs. at + length (bytes_of (insn_parts es at i)) + length xs)
    (gap_bytes_of es (at + length (bytes_of (insn_parts es at i))) i)

first_fits : (es : List Found) (back at : ℕ) (i : Standing) (is : List Standing)
    → all_fit (parts_from es back at (i ∷ is))
    ≡ (all_fit (insn_parts es at i) && all_fit (parts_from es back (next_at es at i) is))
unfolding parts_from
first_fits es back at i is =
    let own = insn_parts es at i in
    let gap = filler es (at + length (bytes_of own)) i in
    all_append own (gap ++ parts_from es back
    (at + length (bytes_of own) + length (bytes_of gap)) is)
    ∙ ap (λ b. all_fit own && b)
    (all_append gap (parts_from es back (at + length (bytes_of own) + length (bytes_of gap)) is)
    ∙ (ap (λ b. b && all_fit (parts_from es back
    (at + length (bytes_of own) + length (bytes_of gap)) is))
    (gap_fits es (at + length (bytes_of own)) i)
    ∙ ap (λ a. all_fit (parts_from es back a is)) (same_next es at i)))

first_bytes : (es : List Found) (back at : ℕ) (i : Standing) (is : List Standing)
    → bytes_of (parts_from es back at (i ∷ is))
    ≡ bytes_of (insn_parts es at i)
    ++ (gap_bytes es i ++ bytes_of (parts_from es back (next_at es at i) is))
unfolding parts_from
first_bytes es back at i is =
    let own = insn_parts es at i in
    let gap = filler es (at + length (bytes_of own)) i in
    bytes_append own (gap ++ parts_from es back
    (at + length (bytes_of own) + length (bytes_of gap)) is)
    ∙ ap (λ xs. bytes_of own ++ xs)
    (bytes_append gap (parts_from es back (at + length (bytes_of own) + length (bytes_of gap)) is)
    ∙ (ap (λ xs. xs ++ bytes_of (parts_from es back
    (at + length (bytes_of own) + length (bytes_of gap)) is))
    (gap_bytes_of es (at + length (bytes_of own)) i)
    ∙ ap (λ a. gap_bytes es i ++ bytes_of (parts_from es back a is)) (same_next es at i)))

next_fits : (es : List Found) (back at : ℕ) (is : List Standing) (k : ℕ) (d : Standing)
    → k < length is → all_fit (insn_parts es at (get_or is k d)) ≡ true
    → all_fit (parts_from es back at (drop k is))
    ≡ all_fit (parts_from es back (next_at es at (get_or is k d)) (drop (k + 1) is))
next_fits es back at is k d lt fits =
    let one : k + 1 ≡ suc k = omega arith in
    rw (one, drop-cons is k d lt) (first_fits es back at (get_or is k d) (drop (suc k) is)
    ∙ ap (λ b. b && all_fit (parts_from es back (next_at es at (get_or is k d))
    (drop (suc k) is))) fits)

next_told : (es : List Found) (back at : ℕ) (is : List Standing) (k : ℕ) (d : Standing)
    (b : List ℕ) → k < length is
    → b ++ bytes_of (parts_from es back at (drop k is))
    ≡ ((b ++ bytes_of (insn_parts es at (get_or is k d))) ++ gap_bytes es (get_or is k d))
    ++ bytes_of (parts_from es back (next_at es at (get_or is k d)) (drop (k + 1) is))
next_told es back at is k d b lt =
    let one : k + 1 ≡ suc k = omega arith in
    let own = bytes_of (insn_parts es at (get_or is k d)) in
    let gap = gap_bytes es (get_or is k d) in
    let rest = bytes_of (parts_from es back (next_at es at (get_or is k d)) (drop (suc k) is)) in
    rw (one, drop-cons is k d lt)
    (ap (λ xs. b ++ xs) (first_bytes es back at (get_or is k d) (drop (suc k) is))
    ∙ (sym (append_assoc b own (gap ++ rest)) ∙ sym (append_assoc (b ++ own) gap rest)))

-- ---- the loop

-- the copies of the first k instructions stand after the old bytes, and with the others they are
-- the whole
pub record Pushed (es : List Found) (back : ℕ) (is : List Standing) (whole : List Part) (first : ℕ)
    (old : List ℕ) (k : ℕ) (bytes : List ℕ) : Type 0 where
  pub fits : all_fit (parts_from es back (first + length bytes) (drop k is)) ≡ all_fit whole
  pub told : bytes ++ bytes_of (parts_from es back (first + length bytes) (drop k is))
      ≡ old ++ bytes_of whole

pub pushed_first : (r : Region) (first : ℕ) (old : List ℕ)
    → Pushed r.elements (region_end r) (region_insns r) (copy_parts r
    (first + length old)) first old 0
    old
unfolding copy_parts
pushed_first r first old = record { fits = refl; told = refl }

stuck_at : (es : List Found) (back : ℕ) (is : List Standing) (whole : List Part)
    (first : ℕ) (old : List ℕ) (k : ℕ) (bytes : List ℕ) (at : ℕ) (d : Standing)
    → Pushed es back is whole first old k bytes → at ≡ first + length bytes → k < length is
    → all_fit (insn_parts es at (get_or is k d)) ≡ false → all_fit whole ≡ false
stuck_at es back is whole first old k bytes at d so_far a lt stuck =
    sym so_far.fits ∙ rw (← a, drop-cons is k d lt)
    (first_fits es back at (get_or is k d) (drop (suc k) is) ∙ rw stuck refl)

next_from : (es : List Found) (back : ℕ) (is : List Standing) (whole : List Part)
    (first : ℕ) (old : List ℕ) (k : ℕ) (bytes b1 b2 : List ℕ) (at : ℕ) (d : Standing)
    → Pushed es back is whole first old k bytes → at ≡ first + length bytes → k < length is
    → all_fit (insn_parts es at (get_or is k d)) ≡ true
    → b1 ≡ bytes ++ bytes_of (insn_parts es at (get_or is k d))
    → b2 ≡ b1 ++ gap_bytes es (get_or is k d) → Pushed es back is whole first old (k + 1) b2
next_from es back is whole first old k bytes b1 b2 at d so_far a lt fits own gap =
    let i = get_or is k d in
    let both : b2 ≡ (bytes ++ bytes_of (insn_parts es at i)) ++ gap_bytes es i =
    gap ∙ ap (λ xs. xs ++ gap_bytes es i) own in
    let place : first + length b2 ≡ next_at es at i = omega (
      arith,
      a,
      ap length both,
      length-append (bytes ++ bytes_of (insn_parts es at i)) (gap_bytes es i),
      length-append bytes (bytes_of (insn_parts es at i)),
    ) in
    record {
      fits = ap (λ n. all_fit (parts_from es back n (drop (k + 1) is))) place
          ∙ (sym (next_fits es back at is k d lt fits)
          ∙ (ap (λ n. all_fit (parts_from es back n (drop k is))) a ∙ so_far.fits));
      told = ap (λ n. b2 ++ bytes_of (parts_from es back n (drop (k + 1) is))) place
          ∙ (ap (λ xs. xs ++ bytes_of (parts_from es back (next_at es at i) (drop (k + 1) is))) both
          ∙ (sym (next_told es back at is k d bytes lt)
          ∙ (ap (λ n. bytes ++ bytes_of (parts_from es back n (drop k is))) a ∙ so_far.told)));
    }

-- the same of an instruction, of elements and of a list that are known by equations
pub pushed_stuck : (es : List Found) (back : ℕ) (is : List Standing) (whole : List Part)
    (first : ℕ) (old : List ℕ) (k : ℕ) (bytes : List ℕ) (at : ℕ) (d i : Standing)
    (fs : List Found) (js : List Standing) → Pushed es back is whole first old k bytes → fs ≡ es
    → js ≡ is → i ≡ get_or js k d → at ≡ first + length bytes → k < length js
    → all_fit (insn_parts fs at i) ≡ false → all_fit whole ≡ false
pushed_stuck es back is whole first old k bytes at d i fs js so_far e f g a lt stuck =
    let here : i ≡ get_or is k d = g ∙ ap (λ xs. get_or xs k d) f in
    stuck_at es back is whole first old k bytes at d so_far a (rw f at lt)
    (rw (e, here) at stuck)

pub pushed_next : (es : List Found) (back : ℕ) (is : List Standing) (whole : List Part)
    (first : ℕ) (old : List ℕ) (k : ℕ) (bytes b1 b2 : List ℕ) (at : ℕ) (d i : Standing)
    (fs : List Found) (js : List Standing) → Pushed es back is whole first old k bytes → fs ≡ es
    → js ≡ is → i ≡ get_or js k d → at ≡ first + length bytes → k < length js
    → all_fit (insn_parts fs at i) ≡ true → b1 ≡ bytes ++ bytes_of (insn_parts fs at i)
    → b2 ≡ b1 ++ gap_bytes fs i → Pushed es back is whole first old (k + 1) b2
pushed_next es back is whole first old k bytes b1 b2 at d i fs js so_far e f g a lt fits own gap =
    let here : i ≡ get_or is k d = g ∙ ap (λ xs. get_or xs k d) f in
    next_from es back is whole first old k bytes b1 b2 at d so_far a (rw f at lt)
    (rw (e, here) at fits) (rw (e, here) at own) (rw (e, here) at gap)

pub all_fits : (es : List Found) (back : ℕ) (is : List Standing) (whole : List Part) (first : ℕ)
    (old : List ℕ) (k : ℕ) (bytes : List ℕ) (at end : ℕ) (js : List Standing)
    → Pushed es back is whole first old k bytes → js ≡ is → at ≡ first + length bytes → end ≡ back
    → length js ≤ k → all_fit (jump Back at end end ∷ []) ≡ all_fit whole
unfolding parts_from
all_fits es back is whole first old k bytes at end js so_far f a b le =
    rw (a, b) (ap (λ xs. all_fit (parts_from es back (first + length bytes) xs))
    (sym (drop_of_length-le is (rw f at le))) ∙ so_far.fits)

pub all_told : (es : List Found) (back : ℕ) (is : List Standing) (whole : List Part) (first : ℕ)
    (old : List ℕ) (k : ℕ) (bytes : List ℕ) (at end : ℕ) (js : List Standing)
    → Pushed es back is whole first old k bytes → js ≡ is → at ≡ first + length bytes → end ≡ back
    → length js ≤ k
    → bytes ++ bytes_of (jump Back at end end ∷ []) ≡ old ++ bytes_of whole
unfolding parts_from
all_told es back is whole first old k bytes at end js so_far f a b le =
    rw (a, b) (ap (λ xs. bytes ++ bytes_of (parts_from es back (first + length bytes) xs))
    (sym (drop_of_length-le is (rw f at le))) ∙ so_far.told)

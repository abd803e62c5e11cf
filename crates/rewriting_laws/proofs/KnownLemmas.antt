-- The code as far as it is known, before and after a region got its copy.
use Rattle.std.proofs.Common.{◌≡◌, ◌<◌, ◌≤◌, ◌+◌, ◌-◌, ◌⊎◌, ℕ, zero, suc, ◌&&◌, Bool, true, false}
use Rattle.std.proofs.Common.{List, [], ◌∷◌, ◌++◌, length, map, replicate, append_assoc, Option}
use Rattle.std.proofs.Common.{Some, None, leb, refl, sym, ap, ◌∙◌, arith, inl, inr}
use Rattle.std.specs.Prelude.{slice_get}
use Rattle.std.proofs.lemmas.Bool.{lt-ltb, le-leb, lt-leb, le-ltb, cases_lt}
use Rattle.std.proofs.lemmas.List.{append-nil, length-append, length-replicate, length-map}
use Rattle.std.proofs.lemmas.List.{map-append}
use Rattle.std.proofs.lemmas.Grind.{flat_map-append}
use Rattle.erim_defs.specs.Inspection.Code.{Code}
use Rattle.erim_defs.specs.Encoding.Canonical.{canonical_encoding, control_bytes, four_bytes}
use Rattle.erim_defs.specs.Encoding.Canonical.{opcode_alone, lock_bytes, rex_of, opcode_bytes}
use Rattle.erim_defs.specs.Encoding.Grammar.{In}
use Rattle.erim_defs.specs.Rewriting.Sites.{Region, region_start}
use Rattle.erim_defs.specs.Rewriting.Copies.{Kind, Same, jump}
use Rattle.erim_defs.specs.Rewriting.Layout.{Patch, covers, flatten, over, over_all, Copy, copy_at}
use Rattle.erim_defs.specs.Rewriting.Layout.{piece, jump_to, region_rest, region_bytes}
use Rattle.erim_defs.specs.Rewriting.Layout.{region_patch}
use Rattle.erim_defs.specs.Rewriting.Layout.{open_patch, segment_bytes, zeros_after, segment_patch}
use Rattle.erim_defs.specs.Rewriting.Layout.{Ground, known_code}

-- ---- lists

pub get_front : {X : Type 0} (xs ys zs : List X) (i : ℕ) → i < length xs → slice_get (xs ++ ys) i
    ≡ slice_get (xs ++ zs) i
get_front [] ys zs i lt = absurd (omega (arith, lt))
get_front (x ∷ xs) ys zs zero lt = refl
get_front (x ∷ xs) ys zs (suc i) lt = get_front xs ys zs i (omega (arith, lt))

pub get_behind : {X : Type 0} (xs ys : List X) (i k : ℕ) → i ≡ length xs + k
    → slice_get (xs ++ ys) i ≡ slice_get ys k
get_behind [] ys i k e = (let same : i ≡ k = omega (arith, e) in ap (slice_get ys) same)
get_behind (x ∷ xs) ys zero k e = absurd (omega (arith, e))
get_behind (x ∷ xs) ys (suc i) k e = get_behind xs ys i k (omega (arith, e))

pub map_replicate : {X Y : Type 0} (f : X → Y) (n : ℕ) (x : X) → map f (replicate n x)
    ≡ replicate n (f x)
map_replicate f zero x = refl
map_replicate f (suc n) x = ap (λ ys. f x ∷ ys) (map_replicate f n x)

pub get_replicate : {X : Type 0} (n i : ℕ) (x : X) → (slice_get (replicate n x) i
    ≡ Some x) ⊎ (slice_get (replicate n x) i ≡ None)
get_replicate zero i x = inr refl
get_replicate (suc n) zero x = inl refl
get_replicate (suc n) (suc i) x = get_replicate n i x

-- ---- one patch

pub over_outside : (p : Patch) (c : Code) (a : ℕ) → covers p a ≡ false → over p c a ≡ c a
over_outside p c a h = rw h refl

pub over_inside : (p : Patch) (c : Code) (a : ℕ) → covers p a ≡ true → over p c a
    ≡ flatten (slice_get p.bytes (a - p.at))
over_inside p c a h = rw h refl

pub covers_true : (p : Patch) (a : ℕ) → p.at ≤ a → a < p.at + length p.bytes → covers p a ≡ true
covers_true p a low high = rw (le-leb p.at a low, lt-ltb a (p.at + length p.bytes) high) refl

pub covers_before : (p : Patch) (a : ℕ) → a < p.at → covers p a ≡ false
covers_before p a before = rw (lt-leb p.at a before) refl

pub covers_behind : (p : Patch) (a : ℕ) → p.at + length p.bytes ≤ a → covers p a ≡ false
covers_behind p a behind = rw (le-ltb a (p.at + length p.bytes) behind) (by (leb p.at a))
  where
    by : (b : Bool) → (b && false) ≡ false
    by true = refl
    by false = refl

-- ---- many patches of which one changes

pub over_all_same : (ps qs : List Patch) (p q : Patch) (c : Code) (a : ℕ)
    → ((d : Code) → over p d a ≡ over q d a)
    → over_all (ps ++ p ∷ qs) c a ≡ over_all (ps ++ q ∷ qs) c a
over_all_same [] qs p q c a same = same (over_all qs c)
over_all_same (r ∷ ps) qs p q c a same = by (over_all_same ps qs p q c a same) (covers r a) refl
  where
    by : over_all (ps ++ p ∷ qs) c a ≡ over_all (ps ++ q ∷ qs) c a → (b : Bool) → covers r a ≡ b
        → over_all (r ∷ (ps ++ p ∷ qs)) c a ≡ over_all (r ∷ (ps ++ q ∷ qs)) c a
    by rest true e = over_inside r (over_all (ps ++ p ∷ qs) c) a e
        ∙ sym (over_inside r (over_all (ps ++ q ∷ qs) c) a e)
    by rest false e = over_outside r (over_all (ps ++ p ∷ qs) c) a e
        ∙ (rest ∙ sym (over_outside r (over_all (ps ++ q ∷ qs) c) a e))

pub over_all_outside : (ps : List Patch) (c : Code) (a : ℕ)
    → ((p : Patch) → In ps p → covers p a ≡ false) → over_all ps c a ≡ c a
over_all_outside [] c a h = refl
over_all_outside (p ∷ ps) c a h = over_outside p (over_all ps c) a (h p (inl refl))
    ∙ over_all_outside ps c a (λ q w. h q (inr w))

-- ---- the jump has five bytes

pub jump_five : (kind : Kind) (at home to : ℕ) → length (jump kind at home to).bytes ≡ 5
unfolding canonical_encoding control_bytes opcode_alone lock_bytes rex_of opcode_bytes four_bytes
jump_five kind at home to = refl

-- ---- a region with its copy and without

-- bytes and zeros
pub piece_bytes : List Copy → List Region → List ℕ
piece_bytes copies later = segment_bytes copies ++ replicate
    (zeros_after (length (segment_bytes copies)) later) 0

-- off the jump they have the same bytes
pub patch_same : (k : Copy) (c : Code) (a : ℕ)
    → (a < region_start k.region ⊎ region_start k.region + 5 ≤ a)
    → over (region_patch k) c a ≡ over (open_patch k.region) c a
patch_same k c a (inl before) = over_outside (region_patch k) c a
    (covers_before (region_patch k) a before) ∙ sym (over_outside (open_patch k.region) c a
    (covers_before (open_patch k.region) a before))
patch_same k c a (inr behind) = elim (cases_lt a (region_start k.region +
    (5 + region_rest k.region))) [
      | inl inside ↦
          let i = a - (region_start k.region + 5) in
          let p : a - region_start k.region ≡ length (map Some (jump_to k).bytes) + i =
          omega (arith, long_map, five, behind) in
          let q : a - region_start k.region ≡ 5 + i = omega (arith, behind) in
          over_inside (region_patch k) c a (covers_true (region_patch k) a (omega (arith, behind))
          (omega (arith, long_region, inside)))
          ∙ (ap flatten (ap (λ bs. slice_get bs (a - region_start k.region)) parts
          ∙ (get_behind (map Some (jump_to k).bytes) (replicate (region_rest k.region) (Some 0x90))
          (a - region_start k.region) i p
          ∙ sym (get_behind (Some 0xE9 ∷ None ∷ None ∷ None ∷ None ∷ [])
          (replicate (region_rest k.region) (Some 0x90)) (a - region_start k.region) i q)))
          ∙ sym (over_inside (open_patch k.region) c a (covers_true (open_patch k.region) a
          (omega (arith, behind)) (omega (arith, long_open, inside)))))
      | inr past ↦
          over_outside (region_patch k) c a (covers_behind (region_patch k) a (omega
          (arith, long_region, past)))
          ∙ sym (over_outside (open_patch k.region) c a (covers_behind (open_patch k.region) a
          (omega (arith, long_open, past))))
    ]
  where
    five : length (jump_to k).bytes ≡ 5
    five = jump_five Same (region_start k.region) (region_start k.region) (copy_at k)

    long_map : length (map Some (jump_to k).bytes) ≡ length (jump_to k).bytes
    long_map = length-map (jump_to k).bytes Some

    parts : map Some (region_bytes k) ≡ map Some (jump_to k).bytes
        ++ replicate (region_rest k.region) (Some 0x90)
    parts = map-append Some (jump_to k).bytes (replicate (region_rest k.region) 0x90)
        ∙ ap (λ xs. map Some (jump_to k).bytes ++ xs) (map_replicate Some
        (region_rest k.region) 0x90)

    long_region : length (region_patch k).bytes ≡ 5 + region_rest k.region
    long_region =
        let lm : length (map Some (region_bytes k)) ≡ length (region_bytes k) =
        length-map (region_bytes k) Some in
        omega (
          arith,
          lm,
          length-append (jump_to k).bytes (replicate (region_rest k.region) 0x90),
          length-replicate {A = ℕ} (region_rest k.region) 0x90,
          five,
        )

    long_open : length (open_patch k.region).bytes ≡ 5 + region_rest k.region
    long_open =
        let lr : length {A = Option ℕ} (replicate (region_rest k.region) (Some 0x90))
        ≡ region_rest k.region = length-replicate (region_rest k.region) (Some 0x90) in
        omega (arith, lr)

-- the segment of one copy more
pub segment_more : (copies : List Copy) (k : Copy) → segment_bytes (copies ++ k ∷ [])
    ≡ segment_bytes copies ++ piece k
segment_more copies k = flat_map-append piece copies (k ∷ [])
    ∙ ap (λ xs. segment_bytes copies ++ xs) (append-nil (piece k))

-- the jumps of one copy more
patches_more : (copies : List Copy) (later : List Region) (k : Copy)
    → map region_patch (copies ++ k ∷ []) ++ map open_patch later ≡ map region_patch copies
    ++ region_patch k ∷ map open_patch later
patches_more copies later k = ap (λ ps. ps ++ map open_patch later)
    (map-append region_patch copies (k ∷ []))
    ∙ append_assoc (map region_patch copies) (region_patch k ∷ [])
    (map open_patch later)

-- ---- the new segment

pub in_segment : (xs ys : List ℕ) (base a : ℕ) (c : Code) → base ≤ a → a < base + length xs
    → over (record { at = base; bytes = map Some (xs ++ ys) }) c a
    ≡ flatten (slice_get (map Some xs) (a - base))
in_segment xs ys base a c low high =
    let p : Patch = record { at = base; bytes = map Some (xs ++ ys) } in
    let long : length (map Some (xs ++ ys)) ≡ length (xs ++ ys) = length-map (xs ++ ys) Some in
    let short : length (map Some xs) ≡ length xs = length-map xs Some in
    let e : map Some (xs ++ ys) ≡ map Some xs ++ map Some ys = map-append Some xs ys in
    let n : map Some xs ++ [] ≡ map Some xs = append-nil (map Some xs) in
    over_inside p c a (covers_true p a low (omega (arith, high, long, length-append xs ys)))
    ∙ ap flatten (ap (λ zs. slice_get zs (a - base)) e ∙ (get_front (map Some xs) (map Some ys) []
    (a - base) (omega (arith, low, high, short)) ∙ ap (λ zs. slice_get zs (a - base)) n))

-- below the end of the copies, and off the jump of the region that gets one, nothing changes
pub known_same : (g : Ground) (copies : List Copy) (later : List Region) (k : Copy) (a : ℕ)
    → a < g.base + length (segment_bytes copies)
    → (a < region_start k.region ⊎ region_start k.region + 5 ≤ a)
    → known_code g (copies ++ k ∷ []) later a ≡ known_code g copies (k.region ∷ later) a
unfolding known_code
known_same g copies later k a high off = elim (cases_lt a g.base) [
  | inl before ↦
      over_outside (segment_patch g.base (copies ++ k ∷ []) later) done a
      (covers_before (segment_patch g.base (copies ++ k ∷ []) later) a before)
      ∙ (ap (λ ps. over_all ps g.code a) (patches_more copies later k)
      ∙ (over_all_same (map region_patch copies) (map open_patch later) (region_patch k)
      (open_patch k.region) g.code a (λ d. patch_same k d a off)
      ∙ sym (over_outside (segment_patch g.base copies (k.region ∷ later)) waiting a
      (covers_before (segment_patch g.base copies (k.region ∷ later)) a before))))
  | inr low ↦
      ap (λ xs. over (record { at = g.base; bytes = map Some xs }) done a) whole
      ∙ (in_segment (segment_bytes copies) (piece k ++ zeros) g.base a done low high
      ∙ sym (in_segment (segment_bytes copies) (replicate
      (zeros_after (length (segment_bytes copies)) (k.region ∷ later)) 0) g.base a waiting low
      high))
]
  where
    done : Code
    done = over_all (map region_patch (copies ++ k ∷ []) ++ map open_patch later) g.code

    waiting : Code
    waiting = over_all (map region_patch copies ++ map open_patch (k.region ∷ later)) g.code

    zeros : List ℕ
    zeros = replicate (zeros_after (length (segment_bytes (copies ++ k ∷ []))) later) 0

    whole : segment_bytes (copies ++ k ∷ []) ++ zeros ≡ segment_bytes copies ++ (piece k ++ zeros)
    whole = ap (λ xs. xs ++ zeros) (segment_more copies k)
        ∙ append_assoc (segment_bytes copies) (piece k) zeros

-- ---- after the copies

-- the code and the regions end before the new segment
pub record IsBelow (g : Ground) (copies : List Copy) (later : List Region) : Type 0 where
  pub above : (a : ℕ) → g.base ≤ a → g.code a ≡ None
  pub done : (k : Copy) → In copies k → region_start k.region + 5 + region_rest k.region ≤ g.base
  pub waiting : (r : Region) → In later r → region_start r + 5 + region_rest r ≤ g.base

pub long_region_patch : (k : Copy) → length (region_patch k).bytes ≡ 5 + region_rest k.region
long_region_patch k =
    let lm : length (map Some (region_bytes k)) ≡ length (region_bytes k) =
    length-map (region_bytes k) Some in
    omega (
      arith,
      lm,
      length-append (jump_to k).bytes (replicate (region_rest k.region) 0x90),
      length-replicate {A = ℕ} (region_rest k.region) 0x90,
      jump_five Same (region_start k.region)
          (region_start k.region) (copy_at k),
    )

pub long_open_patch : (r : Region) → length (open_patch r).bytes ≡ 5 + region_rest r
long_open_patch r = (let lr : length {A = Option ℕ} (replicate (region_rest r) (Some 0x90))
    ≡ region_rest r = length-replicate (region_rest r) (Some 0x90) in omega (arith, lr))

open_outside : (later : List Region) (c : Code) (a base : ℕ)
    → ((r : Region) → In later r → region_start r + 5 + region_rest r ≤ base) → base ≤ a
    → over_all (map open_patch later) c a ≡ c a
open_outside [] c a base h le = refl
open_outside (r ∷ rs) c a base h le =
    over_outside (open_patch r) (over_all (map open_patch rs) c) a
    (covers_behind (open_patch r) a (omega (arith, long_open_patch r, h r (inl refl), le)))
    ∙ open_outside rs c a base (λ q w. h q (inr w)) le

done_outside : (copies : List Copy) (later : List Region) (c : Code) (a base : ℕ)
    → ((k : Copy) → In copies k → region_start k.region + 5 + region_rest k.region ≤ base)
    → ((r : Region) → In later r → region_start r + 5 + region_rest r ≤ base) → base ≤ a
    → over_all (map region_patch copies ++ map open_patch later) c a ≡ c a
done_outside [] later c a base h o le = open_outside later c a base o le
done_outside (k ∷ ks) later c a base h o le =
    over_outside (region_patch k) (over_all (map region_patch ks ++ map open_patch later) c) a
    (covers_behind (region_patch k) a (omega (arith, long_region_patch k, h k (inl refl), le)))
    ∙ done_outside ks later c a base (λ q w. h q (inr w)) o le

zeros_get : (n i : ℕ) → (flatten {X = ℕ} (slice_get (map Some (replicate n 0)) i)
    ≡ None) ⊎ (flatten {X = ℕ} (slice_get (map Some (replicate n 0)) i) ≡ Some 0)
zeros_get zero i = inl refl
zeros_get (suc n) zero = inr refl
zeros_get (suc n) (suc i) = zeros_get n i

-- after the copies stand zeros or nothing
pub known_behind : (g : Ground) (copies : List Copy) (later : List Region) (a : ℕ)
    → IsBelow g copies later → g.base + length (segment_bytes copies) ≤ a
    → (known_code g copies later a ≡ None) ⊎ (known_code g copies later a ≡ Some 0)
unfolding known_code
known_behind g copies later a b past = by (covers p a) refl
  where
    p : Patch
    p = segment_patch g.base copies later

    zeros : List ℕ
    zeros = replicate (zeros_after (length (segment_bytes copies)) later) 0

    rest : Code
    rest = over_all (map region_patch copies ++ map open_patch later) g.code

    i : ℕ
    i = a - (g.base + length (segment_bytes copies))

    place : a - g.base ≡ length (map Some (segment_bytes copies)) + i
    place = (let lm : length (map Some (segment_bytes copies))
        ≡ length (segment_bytes copies) = length-map (segment_bytes copies) Some in
        omega (arith, lm, past))

    is_zero : over p rest a ≡ flatten (slice_get (map Some zeros) i)
        → (over p rest a ≡ None) ⊎ (over p rest a ≡ Some 0)
    is_zero e = elim (zeros_get (zeros_after (length (segment_bytes copies)) later) i) [
      | inl n ↦
          inl (e ∙ n)
      | inr z ↦ inr (e ∙ z)
    ]

    by : (x : Bool) → covers p a ≡ x → (over p rest a ≡ None) ⊎ (over p rest a ≡ Some 0)
    by false e = inl (over_outside p rest a e ∙ (done_outside copies later g.code a g.base b.done
        b.waiting (omega (arith, past)) ∙ b.above a (omega (arith, past))))
    by true e = is_zero (over_inside p rest a e
        ∙ ap flatten (ap (λ xs. slice_get xs (a - g.base))
        (map-append Some (segment_bytes copies) zeros)
        ∙ get_behind (map Some (segment_bytes copies)) (map Some zeros)
        (a - g.base) i place))

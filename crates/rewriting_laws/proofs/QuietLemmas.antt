-- No sequence touches the regions and the copies.
use Rattle.std.proofs.Common.{◌≡◌, ◌<◌, ◌≤◌, ◌+◌, ◌-◌, ◌⊎◌, ℕ, zero, suc, Bool, true, false, List}
use Rattle.std.proofs.Common.{[], ◌∷◌, ◌++◌, length, map, replicate, Option, Some, None, Ok, Err}
use Rattle.std.proofs.Common.{refl, sym, ap, ◌∙◌, arith, inl, inr, subst}
use Rattle.std.specs.Prelude.{slice_get}
use Rattle.std.proofs.lemmas.Bool.{and_parts, cases_lt}
use Rattle.std.proofs.lemmas.List.{append-nil, length-append}
use Rattle.std.proofs.lemmas.Grind.{flat_map-append}
use Rattle.erim_defs.specs.declared.found.Found.{Found}
use Rattle.erim_defs.specs.Inspection.Code.{Code}
use Rattle.erim_defs.specs.Encoding.Grammar.{In}
use Rattle.erim_defs.specs.Rewriting.Standing.{Standing}
use Rattle.erim_defs.specs.Rewriting.Sites.{Region, region_start, region_end, region_insns}
use Rattle.erim_defs.specs.Rewriting.Copies.{Back, Part, jump, bytes_of, insn_parts, filler}
use Rattle.erim_defs.specs.Rewriting.Copies.{parts_from, copy_parts}
use Rattle.erim_defs.specs.Rewriting.Layout.{covers, flatten, over, over_all, Copy, region_patch}
use Rattle.erim_defs.specs.Rewriting.Layout.{open_patch, segment_patch, candidate, piece}
use Rattle.erim_defs.specs.Rewriting.Layout.{region_rest}
use Rattle.erim_defs.specs.Rewriting.Layout.{segment_bytes, Ground, known_code, is_untouched}
use Rattle.erim_defs.specs.Rewriting.Layout.{is_clean}
use Rattle.erim_defs.specs.Rewriting.Layout.{is_spelled, ends_trying, least_pad, padded_copy}
use Rattle.erim_defs.specs.Rewriting.Layout.{if_spelled}
use Rattle.erim_defs.specs.Rewriting.Layout.{placed_copy, copy_of, or_region, copies_from}
use Rattle.rewriting_laws.specs.QuietLaws.{Overlaps, IsUntouched, QuietLaw}
use Rattle.erim_defs.proofs.OccurrenceLemmas.{occurrence_facts, occurrence_same}
use Rattle.erim_defs.proofs.LeastLemmas.{least_holds}
use Rattle.rewriting_laws.proofs.UntouchedLemmas.{untouched_means}
use Rattle.rewriting_laws.proofs.KnownLemmas.{IsBelow, known_same, segment_more, jump_five}
use Rattle.rewriting_laws.proofs.KnownLemmas.{get_behind, patch_same, over_outside, over_inside}
use Rattle.rewriting_laws.proofs.KnownLemmas.{covers_true, covers_before, covers_behind}
use Rattle.rewriting_laws.proofs.KnownLemmas.{long_open_patch, long_region_patch}

-- ---- a copy has a byte

some_parts : (elements : List Found) (back at : ℕ) (is : List Standing)
    → 0 < length (bytes_of (parts_from elements back at is))
unfolding parts_from
some_parts elements back at [] = omega (
  arith,
  jump_five Back at back back,
  length-append (jump Back at back back).bytes [],
)
some_parts elements back at (i ∷ is) =
    let own = insn_parts elements at i in
    let gap = filler elements (at + length (bytes_of own)) i in
    let rest = parts_from elements back (at + length (bytes_of own) + length (bytes_of gap)) is in
    let e : bytes_of (own ++ (gap ++ rest)) ≡ bytes_of own
    ++ (bytes_of gap ++ bytes_of rest) = flat_map-append (λ (p : Part). p.bytes) own (gap
    ++ rest) ∙ ap (λ xs. bytes_of own ++ xs) (flat_map-append
    (λ (p : Part). p.bytes) gap rest) in
    let n = some_parts elements back (at + length (bytes_of own) + length (bytes_of gap)) is in
    let l : length (bytes_of (own ++ (gap ++ rest))) ≡ length (bytes_of own
    ++ (bytes_of gap ++ bytes_of rest)) = ap length e in
    omega (
      arith,
      l,
      length-append (bytes_of own) (bytes_of gap ++ bytes_of rest),
      length-append (bytes_of gap) (bytes_of rest),
      n,
    )

-- ---- what is known of a copy that was placed

pub record IsPlacedCopy (g : Ground) (copies : List Copy) (later : List Region) (r : Region)
    (k : Copy) : Type 0 where
  pub pad : ℕ
  pub is : k ≡ candidate r (g.base + length (segment_bytes copies)) pad
  pub clean : is_clean (known_code g (copies ++ k ∷ []) later) k ≡ true

spelled_is : (c k : Copy) → if_spelled c ≡ Some k → (k ≡ c) × (is_spelled c ≡ true)
spelled_is c k h = by (is_spelled c) refl
  where
    by : (b : Bool) → is_spelled c ≡ b → (k ≡ c) × (is_spelled c ≡ true)
    by true e = (let same : Some c ≡ Some k = sym (rw e refl) ∙ h in let q : c ≡ k = (cc) in
        (sym q, e))
    by false e = (let no : None ≡ Some k = sym (rw e refl) ∙ h in absurd cc)

clean_is : (g : Ground) (copies : List Copy) (later : List Region) (c : Copy) → is_spelled c ≡ true
    → ends_trying g copies later c ≡ true
    → is_clean (known_code g (copies ++ c ∷ []) later) c ≡ true
clean_is g copies later c spelled h = rw spelled at h

placed_is : (g : Ground) (copies : List Copy) (later : List Region) (r : Region) (k : Copy)
    → placed_copy g copies later r ≡ Some k → IsPlacedCopy g copies later r k
unfolding placed_copy
placed_is g copies later r k h = by (least_pad g copies later r first) refl h
  where
    first : ℕ
    first = g.base + length (segment_bytes copies)

    by : (o : Option ℕ) → least_pad g copies later r first ≡ o → padded_copy r first o ≡ Some k
        → IsPlacedCopy g copies later r k
    by None e x = absurd cc
    by (Some pad) e x =
        let c : Copy = candidate r first pad in
        let p = spelled_is c k x in
        let ends : ends_trying g copies later c ≡ true =
        least_holds 16 pad (λ n. ends_trying g copies later (candidate r first n)) e in
        record {
          pad = pad;
          is = p.0;
          clean = subst (λ y. is_clean (known_code g (copies ++ y ∷ []) later) y ≡ true) (sym p.0)
              (clean_is g copies later c p.1 ends);
        }

-- ---- one copy more

-- no sequence touches the jumps to copies that were placed, and the copies
pub record IsSettled (g : Ground) (copies : List Copy) (later : List Region) : Type 0 where
  pub jumps : (k : Copy) → In copies k
      → IsUntouched (known_code g copies later) (region_start k.region)
      (region_start k.region + 5)
  pub segment : IsUntouched (known_code g copies later) g.base (g.base + length
      (segment_bytes copies))

-- what is known of the new code
pub record IsNext (g : Ground) (copies : List Copy) (later : List Region) (k : Copy) : Type 0 where
  pub some : 0 < length (piece k)
  pub jump : IsUntouched (known_code g (copies ++ k ∷ []) later) (region_start k.region)
      (region_start k.region + 5)
  pub copy : IsUntouched (known_code g (copies ++ k ∷ []) later) (g.base + length
      (segment_bytes copies))
      (g.base + length (segment_bytes copies) + length (piece k))

-- a sequence of the new code that has a byte before the copy stood in the code before
old_touch : (g : Ground) (copies : List Copy) (later : List Region) (k : Copy)
    → IsNext g copies later k → (y : ℕ) → y < g.base + length (segment_bytes copies)
    → Overlaps (known_code g (copies ++ k ∷ []) later) y
    → Overlaps (known_code g copies (k.region ∷ later)) y
old_touch g copies later k n y before t = elim (cases_lt first (o.at + o.len)) [
  | inl reaches ↦ absurd (n.copy first (omega arith) (omega (arith, n.some))
      (record { found = o; occurs = t.occurs; low = omega (arith, t.low, before); high = reaches }))
  | inr within ↦ elim (cases_lt o.at (region_start k.region + 5)) [
    | inl low ↦ elim (cases_lt (region_start k.region) (o.at + o.len)) [
      | inl high ↦ elim (cases_lt o.at (region_start k.region)) [
        | inl earlier ↦ absurd (n.jump (region_start k.region) (omega arith) (omega arith)
            (record { found = o; occurs = t.occurs; low = omega (arith, earlier); high = high }))
        | inr inside ↦ absurd (n.jump o.at inside low (record {
          found = o;
          occurs = t.occurs;
          low =
              omega arith;
          high = omega (arith, t.low, t.high);
        }))
      ]
      | inr off ↦ same (λ a l h. inl (omega (arith, off, h))) within
    ]
    | inr off ↦ same (λ a l h. inr (omega (arith, off, l))) within
  ]
]
  where
    first : ℕ
    first = g.base + length (segment_bytes copies)

    o : Found
    o = t.found

    same : ((a : ℕ) → o.at ≤ a → a < o.at + o.len
        → (a < region_start k.region ⊎ region_start k.region + 5 ≤ a))
        → o.at + o.len ≤ first → Overlaps (known_code g copies (k.region ∷ later)) y
    same off within = record {
      found = o;
      occurs = occurrence_same (known_code g copies (k.region ∷ later))
          (known_code g (copies ++ k ∷ []) later) o.at o t.occurs
          (λ a l h. sym (known_same g copies later k a (omega (arith, h, within)) (off a l h)));
      low = t.low;
      high = t.high;
    }

in_last : {A : Type 0} (xs : List A) (x y : A) → In (xs ++ x ∷ []) y → In xs y ⊎ (x ≡ y)
in_last [] x y (inl e) = inr e
in_last [] x y (inr n) = absurd n
in_last (z ∷ xs) x y (inl e) = inl (inl e)
in_last (z ∷ xs) x y (inr w) = elim (in_last xs x y w) [ inl i ↦ inl (inr i) | inr e ↦ inr e ]

settled_next : (g : Ground) (copies : List Copy) (later : List Region) (k : Copy)
    → IsBelow g copies (k.region ∷ later) → IsNext g copies later k
    → IsSettled g copies (k.region ∷ later) → IsSettled g (copies ++ k ∷ []) later
settled_next g copies later k b n s = record {
  jumps = λ j w. elim (in_last copies k j w) [
    | inl i ↦ λ y low high t. s.jumps j i y low high (old_touch g copies later k n y
        (omega (arith, high, b.done j i)) t)
    | inr e ↦ subst (λ (x : Copy). IsUntouched (known_code g (copies ++ k ∷ []) later)
        (region_start x.region)
        (region_start x.region + 5)) e n.jump
  ];
  segment = λ y low high t. elim (cases_lt y (g.base + length (segment_bytes copies))) [
    | inl before ↦ s.segment y low before (old_touch g copies later k n y before t)
    | inr behind ↦ n.copy y behind (omega (arith, high, long)) t
  ];
}
  where
    long : length (segment_bytes (copies ++ k ∷ [])) ≡ length (segment_bytes copies) + length
        (piece k)
    long = ap length (segment_more copies k) ∙ length-append (segment_bytes copies) (piece k)

some_copy : (r : Region) (at : ℕ) → 0 < length (bytes_of (copy_parts r at))
unfolding copy_parts
some_copy r at = some_parts r.elements (region_end r) at (region_insns r)

next_of : (g : Ground) (copies : List Copy) (later : List Region) (r : Region) (k : Copy)
    → IsPlacedCopy g copies later r k → (k.region ≡ r) × IsNext g copies later k
next_of g copies later r k p =
    let c = candidate r (g.base + length (segment_bytes copies)) p.pad in
    let first : k.first ≡ g.base + length (segment_bytes copies) =
    ap (λ (x : Copy). x.first) p.is in
    let parts : k.parts ≡ copy_parts r (g.base + length (segment_bytes copies) + p.pad) =
    ap (λ (x : Copy). x.parts) p.is in
    let both = and_parts (is_untouched (known_code g (copies ++ k ∷ []) later) k.first
    (k.first + length (piece k))) (is_untouched (known_code g (copies ++ k ∷ []) later)
    (region_start k.region) (region_start k.region + 5)) p.clean in
    let some : 0 < length (bytes_of k.parts) = rw parts (some_copy r
    (g.base + length (segment_bytes copies) + p.pad)) in (
      ap (λ (x : Copy). x.region) p.is,
      record {
        some = omega (arith, some, length-append (replicate k.pad 0x90) (bytes_of k.parts));
        jump = untouched_means (known_code g (copies ++ k ∷ []) later) (region_start k.region)
            (region_start k.region + 5) both.1;
        copy = subst (λ x. IsUntouched (known_code g (copies ++ k ∷ []) later) x (x + length
            (piece k)))
            first (untouched_means (known_code g (copies ++ k ∷ []) later) k.first
            (k.first + length (piece k)) both.0);
      },
    )

-- ---- all copies

below_next : (g : Ground) (copies : List Copy) (later : List Region) (r : Region) (k : Copy)
    → k.region ≡ r
    → IsBelow g copies (r ∷ later) → IsBelow g (copies ++ k ∷ []) later
below_next g copies later r k e b = record {
  above = b.above;
  done = λ j w. elim (in_last copies k j w) [
    | inl i ↦ b.done j i
    | inr same ↦ subst (λ
        (x : Copy). region_start x.region + 5 + region_rest x.region ≤ g.base) same
        (subst (λ (q : Region). region_start q + 5 + region_rest q ≤ g.base) (sym e)
        (b.waiting r (inl refl)))
  ];
  waiting = λ q w. b.waiting q (inr w);
}

copy_is : (elsewhere : Region
    → Bool) (g : Ground) (copies : List Copy) (later : List Region) (r : Region)
    (k : Copy) → copy_of elsewhere g copies later r ≡ Some k → placed_copy g copies later r ≡ Some k
copy_is elsewhere g copies later r k h = by (elsewhere r) refl
  where
    by : (b : Bool) → elsewhere r ≡ b → placed_copy g copies later r ≡ Some k
    by true e = (let no : None ≡ Some k = sym (rw e refl) ∙ h in absurd cc)
    by false e = sym (rw e refl) ∙ h

pub laid_settled : (elsewhere : Region → Bool) (g : Ground) (later : List Region)
    (copies result : List Copy) → IsBelow g copies later → IsSettled g copies later
    → copies_from elsewhere g copies later ≡ Ok result → IsSettled g result [] × IsBelow g result []
unfolding copies_from
laid_settled elsewhere g [] copies result b s h = (let e : copies ≡ result = (cc) in
    (subst (λ cs. IsSettled g cs []) e s, subst (λ cs. IsBelow g cs []) e b))
laid_settled elsewhere g (r ∷ later) copies result b s h =
    by (copy_of elsewhere g copies later r) refl (λ k. laid_settled elsewhere g later (copies
    ++ k ∷ []) result)
  where
    by : (o : Option Copy) → copy_of elsewhere g copies later r ≡ o
        → ((k : Copy) → IsBelow g (copies ++ k ∷ []) later → IsSettled g (copies ++ k ∷ []) later
        → copies_from elsewhere g (copies ++ k ∷ []) later ≡ Ok result → IsSettled g result []
        × IsBelow g result [])
        → IsSettled g result [] × IsBelow g result []
    by None e next = (let no : Err r ≡ Ok result = sym (ap
        (λ o. or_region o r (λ k. copies_from elsewhere g (copies ++ k ∷ []) later)) e)
        ∙ h in absurd cc)
    by (Some k) e next =
        let n = next_of g copies later r k (placed_is g copies later r k
        (copy_is elsewhere g copies later r k e)) in
        let b2 : IsBelow g copies (k.region ∷ later) = subst (λ q. IsBelow g copies (q ∷ later))
        (sym n.0) b in
        let s2 : IsSettled g copies (k.region ∷ later) = subst (λ q. IsSettled g copies (q ∷ later))
        (sym n.0) s in
        next k (below_next g copies later r k n.0 b) (settled_next g copies later k b2 n.1 s2)
        (sym (ap (λ o. or_region o r (λ k. copies_from elsewhere g (copies ++ k ∷ []) later)) e)
        ∙ h)

settled_first : (g : Ground) (later : List Region) → IsSettled g [] later
settled_first g later = record {
  jumps = λ k w. absurd w;
  segment =
      λ y low high t. absurd (omega (arith, low, high));
}

-- ---- the rest of a region

nop_get : (n i : ℕ) → i < n → slice_get {X = Option ℕ} (replicate n (Some 0x90)) i
    ≡ Some (Some 0x90)
nop_get zero i lt = absurd (omega (arith, lt))
nop_get (suc n) zero lt = refl
nop_get (suc n) (suc i) lt = nop_get n i (omega (arith, lt))

-- an address of a region has 90, or lies in the jump of one
pub data RegionByte (copies : List Copy) (c : Code) (a : ℕ) : Type 0 where
  IsNop : over_all (map region_patch copies) c a ≡ Some 0x90 → RegionByte copies c a
  InJump : (j : Copy) → In copies j → region_start j.region ≤ a → a < region_start j.region + 5
      → RegionByte copies c a

nop_behind : (k : Copy) (c : Code) (a : ℕ) → region_start k.region + 5 ≤ a
    → a < region_start k.region + 5 + region_rest k.region → over (region_patch k) c a ≡ Some 0x90
nop_behind k c a low high =
    let i = a - (region_start k.region + 5) in
    let q : a - region_start k.region ≡ 5 + i = omega (arith, low) in
    patch_same k c a (inr low)
    ∙ (over_inside (open_patch k.region) c a (covers_true (open_patch k.region) a (omega
    (arith, low))
    (omega (arith, long_open_patch k.region, high)))
    ∙ ap flatten (get_behind (Some 0xE9 ∷ None ∷ None ∷ None ∷ None ∷ [])
    (replicate (region_rest k.region) (Some 0x90)) (a - region_start k.region) i q
    ∙ nop_get (region_rest k.region) i (omega (arith, low, high))))

later_byte : (k : Copy) (ks : List Copy) (c : Code) (a : ℕ) → covers (region_patch k) a ≡ false
    → RegionByte ks c a → RegionByte (k ∷ ks) c a
later_byte k ks c a off (IsNop e) = IsNop (over_outside (region_patch k)
    (over_all (map region_patch ks) c) a off ∙ e)
later_byte k ks c a off (InJump j w low high) = InJump j (inr w) low high

region_byte : (copies : List Copy) (c : Code) (a : ℕ) (k : Copy) → In copies k
    → region_start k.region ≤ a
    → a < region_start k.region + 5 + region_rest k.region → RegionByte copies c a
region_byte [] c a k w low high = absurd w
region_byte (j ∷ js) c a k w low high = elim (cases_lt a (region_start j.region)) [
  | inl before ↦ later_byte j js c a (covers_before (region_patch j) a before)
      (region_byte js c a k (others w (inl before)) low high)
  | inr from ↦ elim (cases_lt a (region_start j.region + 5 + region_rest j.region)) [
    | inr past ↦ later_byte j js c a (covers_behind (region_patch j) a
        (omega (arith, long_region_patch j, past))) (region_byte js c a k (others w
        (inr past)) low high)
    | inl within ↦ elim (cases_lt a (region_start j.region + 5)) [
      | inl five ↦ InJump j (inl refl) from five
      | inr behind ↦ IsNop (nop_behind j (over_all (map region_patch js) c) a behind within)
    ]
  ]
]
  where
    others : In (j ∷ js) k
        → (a < region_start j.region ⊎ region_start j.region + 5 + region_rest j.region ≤ a)
        → In js k
    others (inr w) off = w
    others (inl e) off = absurd (apart off (subst (λ (x : Copy). region_start x.region ≤ a)
        (sym e) low)
        (subst (λ (x : Copy). a < region_start x.region + 5 + region_rest x.region) (sym e) high))
      where
        apart : (a < region_start j.region ⊎ region_start j.region + 5 + region_rest j.region ≤ a)
            → region_start j.region ≤ a → a < region_start j.region + 5 + region_rest j.region → ⊥
        apart (inl x) l h = omega (arith, x, l)
        apart (inr x) l h = omega (arith, x, h)

-- ---- the whole

-- below the new segment the code is the jumps over the old one
known_below : (g : Ground) (copies : List Copy) (a : ℕ) → a < g.base → known_code g copies [] a
    ≡ over_all (map region_patch copies) g.code a
unfolding known_code
known_below g copies a before =
    let none : map region_patch copies ++ [] ≡ map region_patch copies =
    append-nil (map region_patch copies) in
    over_outside (segment_patch g.base copies []) (over_all
    (map region_patch copies ++ []) g.code) a
    (covers_before (segment_patch g.base copies []) a before)
    ∙ ap (λ ps. over_all ps g.code a) none

apart : (o : Option ℕ) → o ≡ Some 0x90 → o ≡ Some 0x0F → ⊥
apart None p q = absurd cc
apart (Some x) p q = (let e : x ≡ 0x90 = (cc) in let f : x ≡ 0x0F = (cc) in omega (arith, e, f))

-- what touches a region touches a jump
region_untouched : (g : Ground) (copies : List Copy) → IsBelow g copies [] → IsSettled g copies []
    → (k : Copy) → In copies k
    → IsUntouched (known_code g copies []) (region_start k.region)
    (region_start k.region + 5 + region_rest k.region)
region_untouched g copies b s k w y low high t = elim (cases_lt y (region_start k.region + 5)) [
  | inl five ↦ s.jumps k w y low five t
  | inr rest ↦ elim (cases_lt o.at (region_start k.region)) [
    | inl before ↦ s.jumps k w (region_start k.region) (omega arith) (omega arith)
        (record {
          found = o;
          occurs = t.occurs;
          low = omega (arith, before);
          high =
              omega (arith, t.high, low);
        })
    | inr within ↦ by (region_byte copies g.code o.at k w within (omega (arith, t.low, high)))
  ]
]
  where
    o : Found
    o = t.found

    here : Overlaps (known_code g copies []) o.at
    here = record {
      found = o;
      occurs = t.occurs;
      low = omega arith;
      high =
          omega (arith, t.low, t.high);
    }

    by : RegionByte copies g.code o.at → ⊥
    by (InJump j v l h) = s.jumps j v o.at l h here
    by (IsNop e) =
        let f = occurrence_facts (known_code g copies []) o.at o t.occurs in
        apart (known_code g copies [] o.at) (known_below g copies o.at
        (omega (arith, t.low, high, b.done k w)) ∙ e) f.first

pub quiet : QuietLaw
quiet elsewhere g regions copies ground h =
    let start : IsBelow g [] regions = record {
      above = ground.above;
      done = λ k w. absurd w;
      waiting =
          ground.below;
    } in
    let p = laid_settled elsewhere g regions [] copies start (settled_first g regions) h in
    record { regions = region_untouched g copies p.1 p.0; segment = p.0.segment }

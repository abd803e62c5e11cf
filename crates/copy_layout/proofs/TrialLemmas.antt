-- A candidate among others: the zeros after it, and the patches near some addresses.
use Rattle.std.proofs.Common.{◌≡◌, ℕ, ◌+◌, ◌-◌, ◌<◌, ◌≤◌, ◌∙◌, List, [], ◌∷◌}
use Rattle.std.proofs.Common.{◌++◌, length, map, Option, Some, None, true, false, refl}
use Rattle.std.proofs.Common.{sym, ap, arith, inl, inr, ltb, leb, append_assoc}
use Rattle.std.proofs.lemmas.Bool.{cases_Bool, cases_lt, lt-ltb, le-leb, lt-leb, ltb-true}
use Rattle.std.proofs.lemmas.Bool.{and_parts, leb-true, le-ltb}
use Rattle.std.proofs.lemmas.List.{length-map}
use Rattle.std.proofs.lemmas.Option.{slice_get-map, slice_get-get_or, slice_get_past}
use Rattle.erim_defs.specs.Inspection.Code.{Code, laid_at, or_else}
use Rattle.erim_defs.specs.Output.LayImage.{multiple_from}
use Rattle.erim_defs.specs.Rewriting.Layout.{Copy, Patch, covers, over, over_all}
use Rattle.erim_defs.specs.Rewriting.Layout.{region_patch}
use Rattle.copy_layout.specs.declared.patch.RegionPatch.{RegionPatch}
use Rattle.copy_layout.specs.Patches.{cell, cell_or, first_cell, lies_near, nearby, patches_of}
use Rattle.copy_layout.specs.Trials.{Trial, near_patches, trial_zeros}

-- ---- zeros

pub zeros_last : (n : ℕ) (ps : List RegionPatch) → length ps ≡ 0
    → trial_zeros n (patches_of ps) ≡ multiple_from 4096 n - n
zeros_last n [] none = refl
zeros_last n (p ∷ ps) none = absurd (omega arith)

pub zeros_more : (n : ℕ) (ps : List RegionPatch) → 0 < length ps
    → trial_zeros n (patches_of ps) ≡ multiple_from 4096 n - n + 4096
zeros_more n [] some = absurd (omega arith)
zeros_more n (p ∷ ps) some = refl

-- ---- patches near addresses

nearby_append : (low high : ℕ) (ps qs : List Patch)
    → nearby low high (ps ++ qs) ≡ nearby low high ps ++ nearby low high qs
nearby_append low high [] qs = refl
nearby_append low high (p ∷ ps) qs = elim (cases_Bool (lies_near low high p)) [
  | inl is ↦ rw (is, nearby_append low high ps qs) refl
  | inr not_near ↦ rw (not_near, nearby_append low high ps qs) refl
]

-- they are those before, the candidate's and those after
pub near_parts : (t : Trial) (k : Copy) (low high : ℕ)
    → near_patches t k low high
    ≡ (nearby low high t.before ++ nearby low high (region_patch k ∷ []))
    ++ nearby low high t.after
near_parts t k low high = nearby_append low high t.before (region_patch k ∷ t.after)
    ∙ ap (λ (xs : List Patch). nearby low high t.before ++ xs)
    (nearby_append low high (region_patch k ∷ []) t.after)
    ∙ sym (append_assoc (nearby low high t.before) (nearby low high (region_patch k ∷ []))
    (nearby low high t.after))

-- a patch that isn't near covers no address there
far_cell : (low high a : ℕ) (p : Patch) → lies_near low high p ≡ false → low ≤ a → a < high
    → cell p a ≡ None
far_cell low high a p far above below = elim (cases_Bool (covers p a)) [
  | inr other ↦ rw other refl
  | inl is ↦ absurd (let both = and_parts (leb p.at a) (ltb a (p.at + length p.bytes)) is in
      let first : p.at ≤ a = leb-true p.at a both.0 in
      let last : a < p.at + length p.bytes = ltb-true a (p.at + length p.bytes) both.1 in
      let x = lt-ltb low (p.at + length p.bytes) (omega arith) in
      let y = lt-ltb p.at high (omega arith) in
      let near : lies_near low high p ≡ true = rw (x, y) refl in
      cc)
]

near_cells : (low high a : ℕ) (ps : List Patch) → low ≤ a → a < high
    → first_cell (nearby low high ps) a ≡ first_cell ps a
near_cells low high a [] above below = refl
near_cells low high a (p ∷ ps) above below = elim (cases_Bool (lies_near low high p)) [
  | inl is ↦ rw (is, near_cells low high a ps above below) refl
  | inr far ↦ rw (
    far,
    far_cell low high a p far above below,
    near_cells low high a ps above below,
  ) refl
]

-- ---- patches over a code

-- the first that covers an address says its byte
pub over_cells : (ps : List Patch) (c : Code) (a : ℕ)
    → over_all ps c a ≡ cell_or (first_cell ps a) (c a)
over_cells [] c a = refl
over_cells (p ∷ ps) c a = elim (cases_Bool (covers p a)) [
  | inl is ↦ rw is refl
  | inr other ↦ rw (other, over_cells ps c a) refl
]

-- only those near addresses count there
pub over_near : (low high a : ℕ) (ps : List Patch) (c : Code) → low ≤ a → a < high
    → over_all (nearby low high ps) c a ≡ over_all ps c a
over_near low high a ps c above below =
    over_cells (nearby low high ps) c a
    ∙ ap (λ (x : Option (Option ℕ)). cell_or x (c a)) (near_cells low high a ps above below)
    ∙ sym (over_cells ps c a)

-- known bytes over a code
pub over_laid : (base : ℕ) (bytes : List ℕ) (c : Code) (a : ℕ)
    → over (record { at = base; bytes = map Some bytes }) c a
    ≡ or_else (laid_at base bytes a) (c a)
over_laid base bytes c a = elim (cases_lt a base) [
  | inl before ↦ rw (lt-leb base a before) refl
  | inr above ↦ elim (cases_lt a (base + length bytes)) [
    | inl within ↦
        let long = length-map bytes (λ (x : ℕ). Some x) in
        rw (
          le-leb base a above,
          lt-ltb a (base + length (map Some bytes)) (omega (arith, long)),
          slice_get-map (λ (x : ℕ). Some x) bytes (a - base),
          slice_get-get_or bytes (a - base) 0 (omega arith),
        ) refl
    | inr past ↦
        let long = length-map bytes (λ (x : ℕ). Some x) in
        rw (
          le-leb base a above,
          le-ltb a (base + length (map Some bytes)) (omega (arith, long)),
          slice_get_past bytes (a - base) (omega arith),
        ) refl
  ]
]

pub ruleset zeros_steps = (zeros_last, zeros_more)

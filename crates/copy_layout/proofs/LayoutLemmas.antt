-- The layout region by region: what a candidate is tried among, and what is laid with its copy.
use Rattle.std.proofs.Common.{◌≡◌, ℕ, zero, suc, ◌+◌, ◌<◌, ◌≤◌, ◌∙◌, List, [], ◌∷◌, ◌++◌, length}
use Rattle.std.proofs.Common.{map, take, drop, set, get_or, replicate, not, ◌||◌, Option, Some}
use Rattle.std.proofs.Common.{None, Bool, refl, sym, ap}
use Rattle.std.proofs.Common.{arith, append_assoc, Ok, Err, cond}
use Rattle.std.proofs.lemmas.List.{append-nil, at_drop_all, at_drop_more, map-append, take-map}
use Rattle.std.proofs.lemmas.List.{drop_at, drop-drop, length-map, map-set, set_at, take_at}
use Rattle.erim_defs.specs.Machine.Least.{least_below}
use Rattle.erim_defs.specs.Inspection.Code.{Code}
use Rattle.erim_defs.specs.Rewriting.Sites.{Region}
use Rattle.erim_defs.specs.Rewriting.Layout.{Copy, Ground, Patch, candidate, ends_trying}
use Rattle.erim_defs.specs.Rewriting.Layout.{is_clean, is_spelled, known_code, copies_from}
use Rattle.erim_defs.specs.Rewriting.Layout.{open_patch, or_region}
use Rattle.erim_defs.specs.Rewriting.Layout.{over, over_all, padded_copy, piece, placed_copy}
use Rattle.erim_defs.specs.Rewriting.Layout.{region_patch}
use Rattle.erim_defs.specs.Rewriting.Layout.{segment_bytes, segment_patch, zeros_after}
use Rattle.erim_defs.specs.Inspection.Image.{image_code}
use Rattle.erim_defs.specs.Rewriting.NewFile.{lies_elsewhere, new_base}
use Rattle.erim_defs.specs.Rewriting.Rewriting.{laid_copies}
use Rattle.image_code.specs.Stretches.{code_in}
use Rattle.image_code.specs.declared.stretch.Stretch.{Stretch}
use Rattle.copy_layout.specs.declared.patch.RegionPatch.{RegionPatch}
use Rattle.copy_layout.specs.Patches.{patch_of, patches_of}
use Rattle.copy_layout.specs.Trials.{Trial, ends_trial, placed_in, tried_code}
use Rattle.copy_layout.specs.Trials.{tried_segment, trial_of, under_of, trial_zeros}

-- ---- regions without copies

pub open_next : (patches : List RegionPatch) (p : RegionPatch) (rs : List Region) (i : ℕ)
    (d : Region)
    → i < length rs → patch_of p ≡ open_patch (get_or rs i d)
    → patches_of (patches ++ p ∷ []) ++ map open_patch (drop (i + 1) rs)
    ≡ patches_of patches ++ map open_patch (drop i rs)
open_next patches p rs i d lt is =
    rw (
      at_drop_more (map open_patch) rs i d lt,
      map-append patch_of patches (p ∷ []),
      is,
      append_assoc (map patch_of patches) (open_patch (get_or rs i d) ∷ [])
          (map open_patch (drop (i + 1) rs)),
    ) refl

pub open_end : (patches : List RegionPatch) (rs : List Region) (i : ℕ) → length rs ≤ i
    → patches_of patches ++ map open_patch (drop i rs) ≡ patches_of patches
open_end patches rs i ends =
    rw (at_drop_all (map open_patch) rs i ends) (append-nil (patches_of patches))

-- ---- what is known with a candidate

pub segment_push : (ks : List Copy) (k : Copy)
    → segment_bytes (ks ++ k ∷ []) ≡ segment_bytes ks ++ piece k
segment_push [] k = append-nil (piece k)
segment_push (c ∷ ks) k =
    rw (segment_push ks k) (sym (append_assoc (piece c) (segment_bytes ks) (piece k)))

zeros_same : (n : ℕ) (later : List Region)
    → zeros_after n later ≡ trial_zeros n (map open_patch later)
zeros_same n [] = refl
zeros_same n (r ∷ rs) = refl

patches_same : (ks : List Copy) (k : Copy) (later : List Region)
    → map region_patch (ks ++ k ∷ []) ++ map open_patch later
    ≡ map region_patch ks ++ region_patch k ∷ map open_patch later
patches_same ks k later =
    ap (λ (ps : List Patch). ps ++ map open_patch later) (map-append region_patch ks (k ∷ []))
    ∙ append_assoc (map region_patch ks) (region_patch k ∷ []) (map open_patch later)

abbrev laid_patch : ℕ → List ℕ → ℕ → Patch
laid_patch base bytes zeros =
    record { at = base; bytes = map Some (bytes ++ replicate zeros 0) }

segment_same : (code : List Stretch) (base : ℕ) (ks : List Copy) (k : Copy) (later : List Region)
    → segment_patch base (ks ++ k ∷ []) later
    ≡ tried_segment (trial_of code base ks later) k
segment_same code base ks k later =
    ap (λ (bytes : List ℕ). laid_patch base bytes (zeros_after (length bytes) later))
    (segment_push ks k)
    ∙ ap (laid_patch base (segment_bytes ks ++ piece k))
    (zeros_same (length (segment_bytes ks ++ piece k)) later)

known_same : (code : List Stretch) (base : ℕ) (ks : List Copy) (k : Copy) (later : List Region)
    → known_code (under_of code base) (ks ++ k ∷ []) later
    ≡ tried_code (trial_of code base ks later) k
unfolding known_code
known_same code base ks k later =
    let c : Code = (under_of code base).code in
    ap (λ (p : Patch). over p
    (over_all (map region_patch (ks ++ k ∷ []) ++ map open_patch later) c))
    (segment_same code base ks k later)
    ∙ ap (λ (ps : List Patch). over (tried_segment (trial_of code base ks later) k)
    (over_all ps c)) (patches_same ks k later)

least_same : (n : ℕ) (f g : ℕ → Bool) → ((k : ℕ) → f k ≡ g k)
    → least_below n f ≡ least_below n g
unfolding least_below
least_same zero f g same = refl
least_same (suc n) f g same = rw (least_same n f g same, same n) refl

-- the copy of a region is that among the others
pub placed_same : (code : List Stretch) (base : ℕ) (ks : List Copy) (later : List Region)
    (r : Region)
    → placed_copy (under_of code base) ks later r ≡ placed_in (trial_of code base ks later) r
unfolding placed_copy
placed_same code base ks later r =
    let first : ℕ = base + length (segment_bytes ks) in
    ap (padded_copy r first) (least_same 16
    (λ pad. ends_trying (under_of code base) ks later (candidate r first pad))
    (λ pad. ends_trial (trial_of code base ks later) (candidate r first pad))
    (λ pad. ap (λ (c : Code). not (is_spelled (candidate r first pad))
    || is_clean c (candidate r first pad))
    (known_same code base ks (candidate r first pad) later)))

-- ---- region by region

-- a region has its copy
pub laid_next : (elsewhere : Region → Bool) (code : List Stretch) (base : ℕ) (ks : List Copy)
    (rs : List Region) (i : ℕ) (d : Region) (k : Copy) → i < length rs
    → cond (elsewhere (get_or rs i d)) None
    (placed_in (trial_of code base ks (drop (i + 1) rs)) (get_or rs i d)) ≡ Some k
    → copies_from elsewhere (under_of code base) ks (drop i rs)
    ≡ copies_from elsewhere (under_of code base) (ks ++ k ∷ []) (drop (i + 1) rs)
unfolding copies_from
laid_next elsewhere code base ks rs i d k lt made =
    let later = drop (i + 1) rs in
    let r = get_or rs i d in
    let g = under_of code base in
    at_drop_more (copies_from elsewhere g ks) rs i d lt
    ∙ ap (λ (o : Option Copy). or_region (cond (elsewhere r) None o) r
    (λ c. copies_from elsewhere g (ks ++ c ∷ []) later)) (placed_same code base ks later r)
    ∙ ap (λ (o : Option Copy). or_region o r (λ c. copies_from elsewhere g
    (ks ++ c ∷ []) later)) made

-- or has none
pub laid_stops : (elsewhere : Region → Bool) (code : List Stretch) (base : ℕ) (ks : List Copy)
    (rs : List Region) (i : ℕ) (d : Region) → i < length rs
    → cond (elsewhere (get_or rs i d)) None
    (placed_in (trial_of code base ks (drop (i + 1) rs)) (get_or rs i d)) ≡ None
    → copies_from elsewhere (under_of code base) ks (drop i rs) ≡ Err (get_or rs i d)
unfolding copies_from
laid_stops elsewhere code base ks rs i d lt made =
    let later = drop (i + 1) rs in
    let r = get_or rs i d in
    let g = under_of code base in
    at_drop_more (copies_from elsewhere g ks) rs i d lt
    ∙ ap (λ (o : Option Copy). or_region (cond (elsewhere r) None o) r
    (λ c. copies_from elsewhere g (ks ++ c ∷ []) later)) (placed_same code base ks later r)
    ∙ ap (λ (o : Option Copy). or_region o r (λ c. copies_from elsewhere g
    (ks ++ c ∷ []) later)) made

-- all have theirs
pub laid_ends : (elsewhere : Region → Bool) (g : Ground) (ks : List Copy) (rs : List Region) (i : ℕ)
    → length rs ≤ i → copies_from elsewhere g ks (drop i rs) ≡ Ok ks
unfolding copies_from
laid_ends elsewhere g ks rs i ends = at_drop_all (copies_from elsewhere g ks) rs i ends

-- ---- the patches of a layout

-- those of the copies stand first
pub patches_before : (patches : List RegionPatch) (ks : List Copy) (rs : List Region) (i : ℕ)
    → patches_of patches ≡ map region_patch ks ++ map open_patch rs → length ks ≡ i
    → patches_of (take i patches) ≡ map region_patch ks
patches_before patches ks rs i all count =
    sym (take-map patch_of i patches)
    ∙ ap (take i) all
    ∙ take_at (map region_patch ks) (map open_patch rs) i
    (omega (arith, count, length-map ks region_patch))

drop_map : (n : ℕ) (ps : List RegionPatch) → drop n (map patch_of ps) ≡ map patch_of (drop n ps)
drop_map zero ps = refl
drop_map (suc n) [] = refl
drop_map (suc n) (p ∷ ps) = drop_map n ps

-- then that of the next region
split : (patches : List RegionPatch) (ks : List Copy) (rs : List Region) (i : ℕ) (d : Region)
    → patches_of patches ≡ map region_patch ks ++ map open_patch (drop i rs) → i < length rs
    → patches_of patches
    ≡ map region_patch ks ++ open_patch (get_or rs i d) ∷ map open_patch (drop (i + 1) rs)
split patches ks rs i d all lt =
    all ∙ ap (λ (ps : List Patch). map region_patch ks ++ ps) (at_drop_more
    (map open_patch) rs i d lt)

-- and then those of the regions after
pub patches_behind : (patches : List RegionPatch) (ks : List Copy) (rs : List Region) (i : ℕ)
    (d : Region)
    → patches_of patches ≡ map region_patch ks ++ map open_patch (drop i rs) → length ks ≡ i
    → i < length rs → patches_of (drop (i + 1) patches) ≡ map open_patch (drop (i + 1) rs)
patches_behind patches ks rs i d all count lt =
    let later : List Patch = map open_patch (drop (i + 1) rs) in
    sym (drop_map (i + 1) patches)
    ∙ ap (drop (i + 1)) (split patches ks rs i d all lt)
    ∙ sym (drop-drop 1 i (map region_patch ks ++ open_patch (get_or rs i d) ∷ later))
    ∙ ap (drop 1) (drop_at (map region_patch ks) (open_patch (get_or rs i d) ∷ later) i
    (omega (arith, count, length-map ks region_patch)))

-- with the copy of the next region
pub patches_set : (patches : List RegionPatch) (p : RegionPatch) (ks : List Copy) (k : Copy)
    (rs : List Region) (i : ℕ) (d : Region)
    → patches_of patches ≡ map region_patch ks ++ map open_patch (drop i rs) → length ks ≡ i
    → i < length rs → patch_of p ≡ region_patch k
    → patches_of (set patches i p)
    ≡ map region_patch (ks ++ k ∷ []) ++ map open_patch (drop (i + 1) rs)
patches_set patches p ks k rs i d all count lt is =
    let later : List Patch = map open_patch (drop (i + 1) rs) in
    map-set patch_of patches i p
    ∙ ap (λ (q : Patch). set (patches_of patches) i q) is
    ∙ ap (λ (ps : List Patch). set ps i (region_patch k)) (split patches ks rs i d all lt)
    ∙ set_at (map region_patch ks) (open_patch (get_or rs i d)) later (region_patch k) i
    (omega (arith, count, length-map ks region_patch))
    ∙ sym (patches_same ks k (drop (i + 1) rs))

-- ---- the whole

pub laid_begins : (image : List ℕ) (code : List Stretch) (base : ℕ) (rs : List Region)
    → code_in code ≡ image_code image → base ≡ new_base image
    → copies_from (lies_elsewhere image) (under_of code base) [] rs ≡ laid_copies image rs
laid_begins image code base rs code_is base_is = rw (code_is, base_is) refl

pub trial_is : (t : Trial) (code : List Stretch) (base : ℕ) (ks : List Copy) (later : List Region)
    → t.code ≡ code → t.base ≡ base → t.segment ≡ segment_bytes ks
    → t.before ≡ map region_patch ks → t.after ≡ map open_patch later
    → t ≡ record {
      code = code;
      base = base;
      segment = segment_bytes ks;
      before = map region_patch ks;
      after = map open_patch later;
    }
trial_is t code base ks later p q r u v = rw (← p, ← q, ← r, ← u, ← v) refl

-- the trial of the next region
pub trial_here : (t : Trial) (code : List Stretch) (base : ℕ) (ks : List Copy) (rs : List Region)
    (i n : ℕ) (d : Region) (patches : List RegionPatch) → t.code ≡ code → t.base ≡ base
    → t.segment ≡ segment_bytes ks → t.before ≡ patches_of (take n patches)
    → t.after ≡ patches_of (drop (n + 1) patches)
    → patches_of patches ≡ map region_patch ks ++ map open_patch (drop i rs) → length ks ≡ i
    → n ≡ i → i < length rs → t ≡ trial_of code base ks (drop (i + 1) rs)
trial_here t code base ks rs i n d patches p q r before after all count at lt =
    trial_is t code base ks (drop (i + 1) rs) p q r
    (before ∙ ap (λ (m : ℕ). patches_of (take m patches)) at
    ∙ patches_before patches ks (drop i rs) i all count)
    (after ∙ ap (λ (m : ℕ). patches_of (drop (m + 1) patches)) at
    ∙ patches_behind patches ks rs i d all count lt)

-- what a trial makes of a region
pub made_at : (elsewhere : Region → Bool) (t u : Trial) (r q : Region) (o : Option Copy) → t ≡ u
    → r ≡ q
    → o ≡ cond (elsewhere r) None (placed_in t r)
    → cond (elsewhere q) None (placed_in u q) ≡ o
made_at elsewhere t u r q o trial region made = sym (
    made
    ∙ ap (λ (x : Trial). cond (elsewhere r) None (placed_in x r)) trial
    ∙ ap (λ (x : Region). cond (elsewhere x) None (placed_in u x)) region
    )

pub ruleset open_steps = (open_next, open_end)

-- Regions, element by element, and their sites, region by region.
use Rattle.std.proofs.Common.{◌≡◌, ◌<◌, ◌≤◌, ◌+◌, ◌++◌, ◌∙◌, ℕ, suc, List, [], ◌∷◌, length, drop}
use Rattle.std.proofs.Common.{get_or, append_assoc, Option, Some, None, Result, Ok, Err, refl, sym}
use Rattle.std.proofs.Common.{ap, arith}
use Rattle.std.specs.Prelude.{max}
use Rattle.std.proofs.Math.Seq.{drop-cons}
use Rattle.std.proofs.Math.ListN.{drop_of_length-le}
use Rattle.erim_defs.specs.declared.found.Found.{Found}
use Rattle.erim_defs.specs.declared.rewriting.Why.{Why}
use Rattle.erim_defs.specs.Inspection.Unsafe.{option_list}
use Rattle.erim_defs.specs.Rewriting.Sites.{Program, Obstacle, Region, region_at, goal, left_by}
use Rattle.erim_defs.specs.Rewriting.Sites.{or_refuse}
use Rattle.erim_defs.specs.Rewriting.Sites.{region_end, region_for, region_start, regions_by}
use Rattle.erim_defs.specs.Rewriting.Sites.{regions_from, why}
use Rattle.erim_defs.specs.Rewriting.Sites.{with_regions}
use Rattle.rewrite_sites.specs.declared.sites.Site.{Site}
use Rattle.rewrite_sites.specs.Shown.{site_at, sites_of}

-- ---- where a region has to go

pub goal_more : (start : ℕ) (es : List Found) (e : Found)
    → goal start (es ++ e ∷ []) ≡ max (e.at + e.len) (goal start es)
goal_more start [] e = refl
goal_more start (x ∷ xs) e =
    (let h : goal start (xs ++ e ∷ []) ≡ max (e.at + e.len) (goal start xs) =
    goal_more start xs e in omega (arith, h))

-- ---- regions

pub with_none : (r : Result (List Region) Obstacle) → with_regions [] r ≡ r
with_none (Ok regions) = refl
with_none (Err refused) = refl

with_both : (xs ys : List Region) (r : Result (List Region) Obstacle)
    → with_regions (xs ++ ys) r ≡ with_regions xs (with_regions ys r)
with_both xs ys (Ok regions) = ap Ok (append_assoc xs ys regions)
with_both xs ys (Err refused) = refl

-- one element
regions_one : (p : Program) (before : Option Region) (es : List Found) (i : ℕ) (d : Found)
    (region : Region) (w : Option Why) → i < length es
    → region ≡ region_for (region_at p) before (get_or es i d) → w ≡ why p region (get_or es i d)
    → regions_from p before (drop i es) ≡ or_refuse w (get_or es i d)
    (with_regions (left_by before (get_or es i d)) (regions_from p (Some region) (drop (suc i) es)))
unfolding regions_by
regions_one p before es i d region w lt e h = rw (drop-cons es i d lt, h, e) refl

-- one element more
pub regions_more : (p : Program) (before : Option Region) (regions : List Region)
    (es : List Found) (i : ℕ)
    (d : Found) (region : Region) → i < length es
    → region ≡ region_for (region_at p) before (get_or es i d)
    → None ≡ why p region (get_or es i d)
    → with_regions (regions ++ left_by before (get_or es i d))
    (regions_from p (Some region) (drop (i + 1) es))
    ≡ with_regions regions (regions_from p before (drop i es))
regions_more p before regions es i d region lt e h =
    let one : i + 1 ≡ suc i = omega arith in
    rw one (with_both regions (left_by before (get_or es i d)) (regions_from p (Some region)
    (drop (suc i) es)) ∙ ap (with_regions regions) (sym
    (regions_one p before es i d region None lt e h)))

-- one that can't be rewritten
pub regions_stop : (p : Program) (before : Option Region) (regions : List Region)
    (es : List Found) (i : ℕ)
    (d : Found) (region : Region) (w : Why) → i < length es
    → region ≡ region_for (region_at p) before (get_or es i d)
    → Some w ≡ why p region (get_or es i d)
    → with_regions regions (regions_from p before (drop i es))
    ≡ Err (record { at = (get_or es i d).at; why = w })
regions_stop p before regions es i d region w lt e h =
    ap (with_regions regions) (regions_one p before es i d region (Some w) lt e h)

-- and the last
pub regions_done : (p : Program) (before : Option Region) (regions : List Region)
    (es : List Found) (i : ℕ)
    → length es ≤ i
    → with_regions regions (regions_from p before (drop i es)) ≡ Ok (regions ++ option_list before)
unfolding regions_by
regions_done p before regions es i le = rw (drop_of_length-le es le) refl

-- ---- sites

-- one region more
pub sites_more : (sites : List Site) (rs : List Region) (i : ℕ) (d : Region) → i < length rs
    → (sites ++ site_at (get_or rs i d).elements (region_start (get_or rs i d))
    (region_end (get_or rs i d))) ++ sites_of (drop (suc i) rs) ≡ sites ++ sites_of (drop i rs)
sites_more sites rs i d lt =
    let r = get_or rs i d in
    append_assoc sites (site_at r.elements (region_start r) (region_end r)) (sites_of (drop
    (suc i) rs))
    ∙ ap (λ xs. sites ++ sites_of xs) (sym (drop-cons rs i d lt))

-- no region more
pub sites_done : (rs : List Region) (i : ℕ) → length rs ≤ i → sites_of (drop i rs) ≡ []
sites_done rs i le = ap sites_of (drop_of_length-le rs le)

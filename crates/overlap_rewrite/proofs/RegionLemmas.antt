-- The copies of a layout are those of its regions.
use Rattle.std.proofs.Common.{◌≡◌, ◌∙◌, ℕ, ◌+◌, ◌<◌, Bool, true, false, List, [], ◌∷◌, ◌++◌, length}
use Rattle.std.proofs.Common.{map, Option, Some, None, Ok, Err, refl, sym, ap, subst, append_assoc}
use Rattle.std.proofs.lemmas.List.{append-nil, get_or-map, length-map, map-append}
use Rattle.std.specs.List.{All}
use Rattle.erim_defs.specs.Rewriting.Sites.{Region}
use Rattle.erim_defs.specs.Rewriting.Layout.{Copy, Ground, candidate, copy_of, if_spelled}
use Rattle.erim_defs.specs.Rewriting.Layout.{is_spelled, copies_from, least_pad, or_region}
use Rattle.erim_defs.specs.Rewriting.Layout.{padded_copy, placed_copy}
use Rattle.erim_defs.specs.Rewriting.Layout.{segment_bytes}
use Rattle.erim_defs.specs.Rewriting.NewFile.{lies_elsewhere}
use Rattle.erim_defs.specs.Rewriting.Rewriting.{laid_copies, under}
use Rattle.erim_defs.specs.Rewriting.NewFile.{HasPlace}

spelled_region : (c k : Copy) → if_spelled c ≡ Some k → k.region ≡ c.region
spelled_region c k h = by (is_spelled c) refl
  where
    by : (b : Bool) → is_spelled c ≡ b → k.region ≡ c.region
    by true e = (let same : Some c ≡ Some k = sym (rw e refl) ∙ h in let q : c ≡ k = cc in
        ap (λ (x : Copy). x.region) (sym q))
    by false e = (let no : None ≡ Some k = sym (rw e refl) ∙ h in absurd cc)

padded_region : (r : Region) (first : ℕ) (o : Option ℕ) (k : Copy) → padded_copy r first o ≡ Some k
    → k.region ≡ r
padded_region r first None k h = absurd cc
padded_region r first (Some pad) k h = spelled_region (candidate r first pad) k h

placed_region : (g : Ground) (copies : List Copy) (later : List Region) (r : Region) (k : Copy)
    → placed_copy g copies later r ≡ Some k → k.region ≡ r
unfolding placed_copy
placed_region g copies later r k h =
    let first : ℕ = g.base + length (segment_bytes copies) in
    padded_region r first (least_pad g copies later r first) k h

copy_region : (elsewhere : Region
    → Bool) (g : Ground) (copies : List Copy) (later : List Region) (r : Region)
    (k : Copy) → copy_of elsewhere g copies later r ≡ Some k → k.region ≡ r
copy_region elsewhere g copies later r k h = by (elsewhere r) refl
  where
    by : (b : Bool) → elsewhere r ≡ b → k.region ≡ r
    by true e = (let no : None ≡ Some k = sym (rw e refl) ∙ h in absurd cc)
    by false e = placed_region g copies later r k (sym (rw e refl) ∙ h)

regions_of : List Copy → List Region
regions_of copies = map (λ k. k.region) copies

laid_regions : (elsewhere : Region → Bool) (g : Ground) (copies : List Copy) (later : List Region)
    (result : List Copy) → copies_from elsewhere g copies later ≡ Ok result
    → regions_of result ≡ regions_of copies ++ later
unfolding copies_from regions_of
laid_regions elsewhere g copies [] result h =
    let e : copies ≡ result = cc in
    subst (λ ks. regions_of ks ≡ regions_of copies ++ []) e (sym (append-nil (regions_of copies)))
laid_regions elsewhere g copies (r ∷ later) result h =
    by (copy_of elsewhere g copies later r) refl
    (λ k. laid_regions elsewhere g (copies ++ k ∷ []) later result)
  where
    by : (o : Option Copy) → copy_of elsewhere g copies later r ≡ o
        → ((k : Copy) → copies_from elsewhere g (copies ++ k ∷ []) later ≡ Ok result
        → regions_of result ≡ regions_of (copies ++ k ∷ []) ++ later)
        → regions_of result ≡ regions_of copies ++ r ∷ later
    by None e next = (let no : Err r ≡ Ok result = sym (ap
        (λ o. or_region o r (λ k. copies_from elsewhere g (copies ++ k ∷ []) later)) e)
        ∙ h in absurd cc)
    by (Some k) e next =
        let more = next k (sym
        (ap (λ o. or_region o r (λ k. copies_from elsewhere g (copies ++ k ∷ []) later)) e) ∙ h) in
        let one : regions_of (copies ++ k ∷ []) ≡ regions_of copies ++ k.region ∷ [] =
        map-append (λ (x : Copy). x.region) copies (k ∷ []) in
        more ∙ (ap (λ rs. rs ++ later) one ∙ (append_assoc (regions_of copies) (k.region ∷ []) later
        ∙ ap (λ s. regions_of copies ++ s ∷ later) (copy_region elsewhere g copies later r k e)))

-- so what holds of the regions holds of the copies' regions
pub copies_placed : (bytes : List ℕ) (regions : List Region) (copies : List Copy)
    → laid_copies bytes regions ≡ Ok copies → All (HasPlace bytes) regions
    → All (λ k. HasPlace bytes k.region) copies
unfolding regions_of
copies_placed bytes regions copies h all i d lt =
    let same : regions_of copies ≡ regions =
    laid_regions (lies_elsewhere bytes) (under bytes) [] regions copies h in
    let every : All (HasPlace bytes) (regions_of copies) = rw (← same) at all in
    let here : i < length (regions_of copies) = rw (length-map copies (λ
    (k : Copy). k.region)) lt in
    subst (HasPlace bytes) (get_or-map (λ (k : Copy). k.region) copies i d d.region lt)
    (every i d.region here)

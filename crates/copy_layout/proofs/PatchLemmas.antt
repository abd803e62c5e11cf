-- Patches: how long they are, which lie near addresses, and what the first of a list says.
use Rattle.std.proofs.Common.{◌≡◌, ℕ, zero, suc, ◌+◌, ◌<◌, ◌≤◌, ◌∙◌, List, [], ◌∷◌, ◌++◌}
use Rattle.std.proofs.Common.{length, drop, get_or, map, Option, Some, None, true, false, refl}
use Rattle.std.proofs.Common.{ap, arith, replicate, append_assoc}
use Rattle.std.proofs.lemmas.List.{at_drop_more, at_drop_all, length-append, length-replicate}
use Rattle.std.proofs.lemmas.List.{map-append, append-nil}
use Rattle.erim_defs.specs.Inspection.Code.{or_else}
use Rattle.erim_defs.specs.Rewriting.Layout.{Copy, jump_to, region_patch, region_rest}
use Rattle.copy_layout.specs.declared.patch.RegionPatch.{RegionPatch}
use Rattle.copy_layout.specs.Patches.{cell, first_cell, lies_near, nearby, patch_of}
use Rattle.copy_layout.specs.Patches.{patches_of}

-- ---- one patch

-- five bytes, one by one
pub five : (xs : List ℕ) (d : ℕ) → length xs ≡ 5
    → Some (get_or xs 0 d) ∷ Some (get_or xs 1 d) ∷ Some (get_or xs 2 d) ∷ Some (get_or xs 3 d)
    ∷ Some (get_or xs 4 d) ∷ [] ≡ map Some xs
five (a ∷ b ∷ c ∷ e ∷ f ∷ []) d long = refl
five [] d long = absurd (omega arith)
five (a ∷ []) d long = absurd (omega arith)
five (a ∷ b ∷ []) d long = absurd (omega arith)
five (a ∷ b ∷ c ∷ []) d long = absurd (omega arith)
five (a ∷ b ∷ c ∷ e ∷ []) d long = absurd (omega arith)
five (a ∷ b ∷ c ∷ e ∷ f ∷ g ∷ xs) d long = absurd (omega arith)

map_replicate : (n x : ℕ) → map Some (replicate n x) ≡ replicate n (Some x)
map_replicate zero x = refl
map_replicate (suc n) x = ap (λ (t : List (Option ℕ)). Some x ∷ t) (map_replicate n x)

-- the bytes of the patch of a copy
pub region_patch_is : (k : Copy)
    → (region_patch k).bytes
    ≡ map Some (jump_to k).bytes ++ replicate (region_rest k.region) (Some 0x90)
region_patch_is k = map-append Some (jump_to k).bytes (replicate (region_rest k.region) 0x90)
    ∙ ap (λ (t : List (Option ℕ)). map Some (jump_to k).bytes ++ t)
    (map_replicate (region_rest k.region) 0x90)

-- how many it has
pub patch_length : (p : RegionPatch) → length (patch_of p).bytes ≡ length p.jump + p.rest
patch_length p = length-append p.jump (replicate p.rest (Some 0x90))
    ∙ ap (λ (n : ℕ). length p.jump + n) (length-replicate p.rest (Some 0x90))

-- ---- those near some addresses

pub near_next : (low high i : ℕ) (d : RegionPatch) (near ps : List RegionPatch) → i < length ps
    → lies_near low high (patch_of (get_or ps i d)) ≡ true
    → patches_of (near ++ get_or ps i d ∷ []) ++ nearby low high (patches_of (drop (i + 1) ps))
    ≡ patches_of near ++ nearby low high (patches_of (drop i ps))
near_next low high i d near ps lt is =
    let e = at_drop_more (λ (xs : List RegionPatch). nearby low high (patches_of xs)) ps i d lt in
    rw (
      e,
      is,
      map-append patch_of near (get_or ps i d ∷ []),
      append_assoc (map patch_of near) (patch_of (get_or ps i d) ∷ [])
          (nearby low high (patches_of (drop (i + 1) ps))),
    ) refl

pub far_next : (low high i : ℕ) (d : RegionPatch) (near ps : List RegionPatch) → i < length ps
    → lies_near low high (patch_of (get_or ps i d)) ≡ false
    → patches_of near ++ nearby low high (patches_of (drop (i + 1) ps))
    ≡ patches_of near ++ nearby low high (patches_of (drop i ps))
far_next low high i d near ps lt is =
    let e = at_drop_more (λ (xs : List RegionPatch). nearby low high (patches_of xs)) ps i d lt in
    rw (e, is) refl

pub near_end : (low high i : ℕ) (near ps : List RegionPatch) → length ps ≤ i
    → patches_of near ++ nearby low high (patches_of (drop i ps)) ≡ patches_of near
near_end low high i near ps ends =
    rw (at_drop_all (λ (xs : List RegionPatch). nearby low high (patches_of xs)) ps i ends)
    (append-nil (patches_of near))

-- ---- the first that covers an address

pub cell_next : (a i : ℕ) (d : RegionPatch) (ps : List RegionPatch) → i < length ps
    → cell (patch_of (get_or ps i d)) a ≡ None
    → first_cell (patches_of (drop i ps)) a ≡ first_cell (patches_of (drop (i + 1) ps)) a
cell_next a i d ps lt none =
    at_drop_more (λ (xs : List RegionPatch). first_cell (patches_of xs) a) ps i d lt
    ∙ ap (λ (x : Option (Option ℕ)). or_else x (first_cell (patches_of (drop (i + 1) ps)) a)) none

pub cell_here : (a i : ℕ) (d : RegionPatch) (ps : List RegionPatch) (byte : Option ℕ)
    → i < length ps
    → cell (patch_of (get_or ps i d)) a ≡ Some byte
    → first_cell (patches_of (drop i ps)) a ≡ Some byte
cell_here a i d ps byte lt some =
    at_drop_more (λ (xs : List RegionPatch). first_cell (patches_of xs) a) ps i d lt
    ∙ ap (λ (x : Option (Option ℕ)). or_else x (first_cell (patches_of (drop (i + 1) ps)) a)) some

pub cell_end : (a i : ℕ) (ps : List RegionPatch) → length ps ≤ i
    → first_cell (patches_of (drop i ps)) a ≡ None
cell_end a i ps ends =
    at_drop_all (λ (xs : List RegionPatch). first_cell (patches_of xs) a) ps i ends

pub ruleset near_steps = (near_next, far_next, near_end)

pub ruleset cell_steps = (cell_next, cell_here, cell_end)

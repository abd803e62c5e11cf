-- How far the unsafe list of an image is said.
use Rattle.std.proofs.Common.{◌≡◌, ℕ, ◌+◌, ◌≤◌, ◌^◌, ◌∙◌, ◌++◌, List, [], ◌∷◌, length, Some, None}
use Rattle.std.proofs.Common.{refl, sym, arith}
use Rattle.std.specs.List.{flat_map}
use Rattle.std.proofs.lemmas.Grind.{flat_map-append}
use Rattle.std.proofs.lemmas.List.{append-nil, length-append}
use Rattle.erim_defs.specs.declared.found.Found.{Found}
use Rattle.erim_defs.specs.Inspection.Code.{Code}
use Rattle.erim_defs.specs.Inspection.Safe.{unsafe_at}
use Rattle.erim_defs.specs.Output.Texts.{unsafe_line}
use Rattle.erim_defs.specs.Inspection.Trust.{TrustValue}
use Rattle.erim_defs.specs.Inspection.Unsafe.{list_below, unsafe_list, IsFirstUnsafe}
use Rattle.erim_defs.proofs.UnsafeLemmas.{list_below_none, walk_next, walk_ends}

-- a line for each sequence, and how many there are
pub record Tells (os : List Found) (text : List ℕ) (n : ℕ) : Type 0 where
  pub lines : text ≡ flat_map unsafe_line os
  pub count : n ≡ length os

-- those below an address of a code were said
pub record TellsBelow (trust : TrustValue) (c : Code) (from : ℕ) (text : List ℕ) (count : ℕ) :
    Type 0 where
  pub tells : Tells (list_below from (unsafe_at trust c)) text count
  pub few : count ≤ from
  pub user : from ≤ 2 ^ 47

-- nothing is below the first address
pub tells_nothing : (trust : TrustValue) (c : Code) → TellsBelow trust c 0 [] 0
tells_nothing trust c = record {
  tells = rw (list_below_none 0 (unsafe_at trust c) (λ a low. absurd (omega arith)))
      (record { lines = refl; count = refl });
  few = omega arith;
  user = omega arith;
}

-- the next one was said
pub tells_next : (trust : TrustValue) (c : Code) (from : ℕ) (text : List ℕ) (count : ℕ) (o : Found)
    → TellsBelow trust c from text count → IsFirstUnsafe trust c from (2 ^ 47) (Some o)
    → TellsBelow trust c (o.at + 1) (text ++ unsafe_line o) (count + 1)
tells_next trust c from text count o so_far is =
    let os = list_below from (unsafe_at trust c) in
    let one : flat_map unsafe_line (o ∷ []) ≡ unsafe_line o = append-nil (unsafe_line o) in
    let all : list_below (o.at + 1) (unsafe_at trust c) ≡ os ++ o ∷ [] =
    walk_next trust c from o is in
    record {
      tells = rw all (record {
        lines = sym (flat_map-append unsafe_line os (o ∷ []) ∙ rw (one, ← so_far.tells.lines) refl);
        count = omega (arith, so_far.tells.count, length-append os (o ∷ []));
      });
      few = omega (arith, so_far.few, is.0);
      user = omega (arith, is.1);
    }

-- where none is left all were said
pub tells_all : (trust : TrustValue) (c : Code) (from : ℕ) (text : List ℕ) (count : ℕ)
    → TellsBelow trust c from text count → IsFirstUnsafe trust c from (2 ^ 47) None
    → Tells (unsafe_list trust c) text count
tells_all trust c from text count so_far none =
    rw (← walk_ends trust c from so_far.user none) so_far.tells

-- How far the unsafe list of an image is taken.
use Rattle.std.proofs.Common.{◌≡◌, ℕ, ◌+◌, ◌<◌, ◌≤◌, ◌^◌, ◌∙◌, ◌++◌, List, [], ◌∷◌, Some, None, All}
use Rattle.std.proofs.Common.{ap, sym, arith}
use Rattle.std.proofs.lemmas.List.Elements.{All-nil, All-push}
use Rattle.erim_defs.specs.declared.found.Found.{Found}
use Rattle.erim_defs.specs.Inspection.Code.{Code}
use Rattle.erim_defs.specs.Inspection.Safe.{unsafe_at}
use Rattle.erim_defs.specs.Inspection.Trust.{TrustValue}
use Rattle.erim_defs.specs.Inspection.Unsafe.{list_below, unsafe_list, IsFirstUnsafe}
use Rattle.erim_defs.proofs.UnsafeLemmas.{list_below_none, walk_next, walk_ends}

-- those below an address of a code were taken
pub record TakenBelow (trust : TrustValue) (c : Code) (from : ℕ) (taken : List Found) : Type 0 where
  pub list : taken ≡ list_below from (unsafe_at trust c)
  pub low : All (λ e. e.at < 2 ^ 47) taken
  pub user : from ≤ 2 ^ 47

pub taken_nothing : (trust : TrustValue) (c : Code) → TakenBelow trust c 0 []
taken_nothing trust c = record {
  list = sym (list_below_none 0 (unsafe_at trust c) (λ a low. absurd (omega (arith, low))));
  low = All-nil (λ e. e.at < 2 ^ 47);
  user = omega arith;
}

pub taken_next : (trust : TrustValue) (c : Code) (from : ℕ) (taken : List Found) (o : Found)
    → TakenBelow trust c from taken → IsFirstUnsafe trust c from (2 ^ 47) (Some o)
    → TakenBelow trust c (o.at + 1) (taken ++ o ∷ [])
taken_next trust c from taken o so_far is = record {
  list = ap (λ xs. xs ++ o ∷ []) so_far.list ∙ sym (walk_next trust c from o is);
  low = All-push (λ e. e.at < 2 ^ 47) taken o so_far.low is.1;
  user = omega (arith, is.1);
}

pub taken_all : (trust : TrustValue) (c : Code) (from : ℕ) (taken : List Found)
    → TakenBelow trust c from taken → IsFirstUnsafe trust c from (2 ^ 47) None
    → taken ≡ unsafe_list trust c
taken_all trust c from taken so_far none =
    so_far.list ∙ walk_ends trust c from so_far.user none

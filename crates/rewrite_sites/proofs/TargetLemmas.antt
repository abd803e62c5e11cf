-- Lists made piece by piece, and a search between two numbers.
use Rattle.std.proofs.Common.{◌≡◌, ℕ, suc, ◌+◌, ◌<◌, ◌≤◌, ◌&&◌, ◌++◌, ◌∙◌, Bool, true, false, List}
use Rattle.std.proofs.Common.{[], ◌∷◌, length, drop, get_or, append_assoc, refl, sym, ap, arith}
use Rattle.std.proofs.Common.{ltb}
use Rattle.std.specs.List.{flat_map, list_any}
use Rattle.std.specs.List.Sorted.{IsNonDecreasing, IsPartitionPoint, IsPermutation, IsSorted}
use Rattle.std.specs.Ordering.{nat_cmp}
use Rattle.std.proofs.Math.Seq.{drop-cons}
use Rattle.std.proofs.Math.ListN.{drop_of_length-le}
use Rattle.std.proofs.lemmas.Bool.{and_right, le-ltb, lt-ltb, ltb-false, ltb-true}
use Rattle.std.proofs.lemmas.List.Elements.{All-from_get_or}
use Rattle.std.proofs.lemmas.List.Folds.{list_any_at, list_any_none}
use Rattle.std.proofs.lemmas.List.Sorted.{IsNonDecreasingBy-from_sort, list_any-IsPermutation}
use Rattle.erim_defs.specs.Inspection.Trust.{TrustValue}
use Rattle.erim_defs.specs.Rewriting.Sites.{Function, branch_targets}
use Rattle.rewrite_sites.specs.Targets.{HasTargets}

-- ---- lists made piece by piece

pub flat_next : {X Y : Type 0} (f : X → List Y) (done : List Y) (xs : List X) (i : ℕ) (d : X)
    → i < length xs
    → (done ++ f (get_or xs i d)) ++ flat_map f (drop (i + 1) xs)
    ≡ done ++ flat_map f (drop i xs)
flat_next f done xs i d lt =
    let one : i + 1 ≡ suc i = omega arith in
    rw one (append_assoc done (f (get_or xs i d)) (flat_map f (drop (suc i) xs))
    ∙ ap (λ ys. done ++ flat_map f ys) (sym (drop-cons xs i d lt)))

pub flat_end : {X Y : Type 0} (f : X → List Y) (xs : List X) (i : ℕ) → length xs ≤ i
    → flat_map f (drop i xs) ≡ []
flat_end f xs i le = ap (flat_map f) (drop_of_length-le xs le)

-- ---- the targets of a program, sorted

pub has_targets : (fs : List Function) (trust : TrustValue) (entry : ℕ)
    (list entries pushed sorted : List ℕ)
    → list ≡ flat_map branch_targets fs → entries ≡ trust.entries
    → pushed ≡ (list ++ entries) ++ entry ∷ [] → IsPermutation pushed sorted
    → IsSorted nat_cmp sorted
    → HasTargets (record { functions = fs; trust = trust; entry = entry }) sorted
has_targets fs trust entry list entries pushed sorted branches from_trust is moved rises =
    let same : pushed ≡ flat_map branch_targets fs ++ (trust.entries ++ entry ∷ []) =
    is ∙ (append_assoc list entries (entry ∷ [])
    ∙ (ap (λ xs. xs ++ (entries ++ entry ∷ [])) branches
    ∙ ap (λ xs. flat_map branch_targets fs ++ (xs ++ entry ∷ [])) from_trust)) in (
      IsNonDecreasingBy-from_sort (λ x. x) sorted rises,
      λ test. ap (list_any test) (sym same) ∙ list_any-IsPermutation test pushed sorted moved,
    )

-- ---- between two numbers

abbrev is_between : ℕ → ℕ → ℕ → Bool
is_between start end t = ltb start t && ltb t end

none_low : (start end t : ℕ) → t ≤ start → is_between start end t ≡ false
none_low start end t le = rw (le-ltb start t le) refl

none_high : (start end t : ℕ) → end ≤ t → is_between start end t ≡ false
none_high start end t le = and_right (ltb start t) (ltb t end) (le-ltb t end le)

-- the first that is above start decides
pub between_at : (xs : List ℕ) (start end i d : ℕ) → IsNonDecreasing xs
    → IsPartitionPoint (λ t. t ≤ start) (λ t. start < t) xs i → i < length xs
    → ltb (get_or xs i d) end ≡ list_any (λ t. ltb start t && ltb t end) xs
between_at xs start end i d rises point lt = by (ltb (get_or xs i d) end) refl
  where
    none : end ≤ get_or xs i d → (k : ℕ) → k < length xs
        → is_between start end (get_or xs k d) ≡ false
    none le k below = by-case (ltb k i) refl
      where
        by-case : (b : Bool) → ltb k i ≡ b → is_between start end (get_or xs k d) ≡ false
        by-case true e = none_low start end (get_or xs k d)
            (point.0 k d (omega arith) (ltb-true k i e))
        by-case false e = none_high start end (get_or xs k d)
            (omega (arith, le, rises i k d (ltb-false k i e) below))

    by : (b : Bool) → ltb (get_or xs i d) end ≡ b
        → b ≡ list_any (is_between start end) xs
    by true e = sym (list_any_at (is_between start end) xs i d lt
        (rw (lt-ltb start (get_or xs i d) (point.1 i d (omega arith) lt), e) refl))
    by false e = sym (list_any_none (is_between start end) xs
        (All-from_get_or (λ t. is_between start end t ≡ false) xs d
        (none (ltb-false (get_or xs i d) end e))))

-- there is none
pub between_none : (xs : List ℕ) (start end i : ℕ)
    → IsPartitionPoint (λ t. t ≤ start) (λ t. start < t) xs i → length xs ≤ i
    → false ≡ list_any (λ t. ltb start t && ltb t end) xs
between_none xs start end i point le =
    sym (list_any_none (is_between start end) xs
    (All-from_get_or (λ t. is_between start end t ≡ false) xs 0
    (λ k below. none_low start end (get_or xs k 0)
    (point.0 k 0 (omega arith) (omega (arith, below, le))))))

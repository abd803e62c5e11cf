-- Stretches of instructions, from the front.
use Rattle.std.proofs.Common.{◌≡◌, ◌<◌, ◌≤◌, ◌++◌, ◌∙◌, ℕ, zero, suc, true, false, List, [], ◌∷◌}
use Rattle.std.proofs.Common.{length, drop, take, get_or, append_assoc, refl, sym, ap, arith, leb}
use Rattle.std.proofs.Math.Seq.{drop-cons}
use Rattle.std.proofs.Math.ListN.{drop_of_length-le}
use Rattle.std.proofs.lemmas.Bool.{le-leb, lt-leb}
use Rattle.std.specs.List.Sorted.{IsPartitionPoint}
use Rattle.erim_defs.specs.Rewriting.Standing.{Standing, insn_end}
use Rattle.erim_defs.specs.Rewriting.Sites.{insns_from, end_of, reaching}

-- ---- from an address on

pub from_point : (a i : ℕ) (is : List Standing)
    → IsPartitionPoint (λ j. leb (insn_end j) a ≡ true) (λ j. leb (insn_end j) a ≡ false) is i
    → drop i is ≡ insns_from a is
from_point a zero [] point = refl
from_point a zero (x ∷ xs) point =
    let ends_behind : leb (insn_end x) a ≡ false = point.1 0 x (omega arith) (omega arith) in
    rw ends_behind refl
from_point a (suc i) [] point = refl
from_point a (suc i) (x ∷ xs) point =
    let ends_before : leb (insn_end x) a ≡ true = point.0 0 x (omega arith) (omega arith) in
    rw ends_before (from_point a i xs (
      λ k d low high. point.0 (suc k) d (omega arith) (omega (arith, high)),
      λ k d low high. point.1 (suc k) d (omega (arith, low)) (omega (arith, high)),
    ))

-- ---- up to an address

take_next : (k : ℕ) (is : List Standing) (d : Standing) → k < length is
    → take (suc k) is ≡ take k is ++ get_or is k d ∷ []
take_next k [] d lt = absurd (omega (arith, lt))
take_next zero (i ∷ is) d lt = refl
take_next (suc k) (i ∷ is) d lt =
    ap (λ xs. i ∷ xs) (take_next k is d (omega (arith, lt)))

reaching_on : (a : ℕ) (i : Standing) (is : List Standing) → insn_end i < a
    → reaching a (i ∷ is) ≡ i ∷ reaching a is
reaching_on a i is lt = (let e : leb a (insn_end i) ≡ false = lt-leb a (insn_end i) lt in rw e refl)

reaching_end : (a : ℕ) (i : Standing) (is : List Standing) → a ≤ insn_end i
    → reaching a (i ∷ is) ≡ i ∷ []
reaching_end a i is le = (let e : leb a (insn_end i) ≡ true = le-leb a (insn_end i) le in rw e refl)

pub reached_next : (a k : ℕ) (is : List Standing) (d : Standing) → k < length is
    → insn_end (get_or is k d) < a
    → take (suc k) is ++ reaching a (drop (suc k) is) ≡ take k is ++ reaching a (drop k is)
reached_next a k is d lt before =
    ap (λ xs. xs ++ reaching a (drop (suc k) is)) (take_next k is d lt)
    ∙ (append_assoc (take k is) (get_or is k d ∷ []) (reaching a (drop (suc k) is))
    ∙ ap (λ xs. take k is ++ xs) (sym (ap (reaching a) (drop-cons is k d lt)
    ∙ reaching_on a (get_or is k d) (drop (suc k) is) before)))

pub reached_here : (a k : ℕ) (is : List Standing) (d : Standing) → k < length is
    → a ≤ insn_end (get_or is k d) → take (suc k) is ≡ take k is ++ reaching a (drop k is)
reached_here a k is d lt le =
    take_next k is d lt ∙ ap (λ xs. take k is ++ xs) (sym (ap (reaching a) (drop-cons is k d lt)
    ∙ reaching_end a (get_or is k d) (drop (suc k) is) le))

-- ---- the end

-- the end of instructions, or a number where there are none
abbrev pub end_or : ℕ → List Standing → ℕ
end_or n [] = n
end_or n (i ∷ is) = end_of (i ∷ is)

end_of_more : (i : Standing) (is : List Standing) → end_of (i ∷ is) ≡ end_or (insn_end i) is
end_of_more i [] = refl
end_of_more i (j ∷ is) = refl

pub end_first : (is : List Standing) → end_or 0 is ≡ end_of is
end_first [] = refl
end_first (i ∷ is) = refl

pub end_next : (n k : ℕ) (is : List Standing) (d : Standing) → k < length is
    → end_or (insn_end (get_or is k d)) (drop (suc k) is) ≡ end_or n (drop k is)
end_next n k is d lt =
    sym (ap (end_or n) (drop-cons is k d lt) ∙ end_of_more (get_or is k d) (drop (suc k) is))

pub end_done : (n k : ℕ) (is : List Standing) → length is ≤ k → end_or n (drop k is) ≡ n
end_done n k is le = ap (end_or n) (drop_of_length-le is le)

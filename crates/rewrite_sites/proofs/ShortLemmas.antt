-- The instructions of a function stand one after the other, and so its regions are short.
use Rattle.std.proofs.Common.{◌≡◌, ℕ, zero, suc, ◌+◌, ◌-◌, ◌<◌, ◌≤◌, ◌^◌, List, [], ◌∷◌, length}
use Rattle.std.proofs.Common.{drop, take, Option, Some, None, Result, Ok, Err, Bool, true, false}
use Rattle.std.proofs.Common.{refl, arith, leb, IfSome, if◌then◌else◌}
use Rattle.std.specs.List.{All}
use Rattle.std.specs.List.Sorted.{IsNonDecreasingBy}
use Rattle.std.proofs.lemmas.List.{length-drop, length-take}
use Rattle.std.proofs.lemmas.List.Elements.{All-nil, All-cons, All-head, All-tail, All-weaker}
use Rattle.erim_defs.specs.declared.grammar.Stop.{Stop}
use Rattle.erim_defs.specs.Encoding.Decoding.{front_at}
use Rattle.erim_defs.specs.Encoding.Grammar.{InsnAndSizes}
use Rattle.erim_defs.specs.Rewriting.Standing.{Standing, insn_end, standing, standing_as, sweep}
use Rattle.erim_defs.specs.Rewriting.Standing.{then_more}
use Rattle.erim_defs.specs.Rewriting.Sites.{end_of, insns_from, reaching, start_of}
use Rattle.rewrite_sites.specs.Short.{IsShort}

-- ---- an instruction lies in the bytes that begin with it

abbrev LiesIn : ℕ → List ℕ → Standing → Type 0
LiesIn at bytes i = (i.at ≡ at) × (length i.bytes ≤ length bytes)

lies_in : (at : ℕ) (bytes : List ℕ) → IfSome (standing at bytes) (LiesIn at bytes)
unfolding standing
lies_in at bytes = by (front_at 0 false false (take 15 bytes))
  where
    by : (r : Result (InsnAndSizes × List ℕ) Stop)
        → IfSome (standing_as at (take 15 bytes) r) (LiesIn at bytes)
    by (Err stop) = _
    by (Ok x) =
        let window = take 15 bytes in (
          refl,
          omega (
            arith,
            length-take (length window - length x.1) window,
            length-take 15 bytes,
          ),
        )

-- ---- all of a sweep lie in its bytes

abbrev Within : ℕ → ℕ → Standing → Type 0
Within low high i = (low ≤ insn_end i) × (insn_end i ≤ high)

abbrev rest_of : ℕ → List ℕ → Standing → List Standing
rest_of n bytes i = sweep n (insn_end i) (drop (length i.bytes) bytes)

all_within : (n at : ℕ) (bytes : List ℕ) → All (Within at (at + length bytes)) (sweep n at bytes)
unfolding sweep
all_within zero at bytes = All-nil (Within at (at + length bytes))
all_within (suc n) at bytes = by (standing at bytes) (lies_in at bytes) (all_within n)
  where
    by : (o : Option Standing) → IfSome o (LiesIn at bytes)
        → ((a : ℕ) (bs : List ℕ) → All (Within a (a + length bs)) (sweep n a bs))
        → All (Within at (at + length bytes)) (then_more o (rest_of n bytes))
    by None h later = All-nil (Within at (at + length bytes))
    by (Some i) h later =
        let size = length-drop (length i.bytes) bytes in
        All-cons (Within at (at + length bytes)) i (rest_of n bytes i)
        (omega (arith, h.0), omega (arith, h.0, h.1))
        (All-weaker (Within (insn_end i) (insn_end i + length (drop (length i.bytes) bytes)))
        (Within at (at + length bytes))
        (λ j w. (omega (arith, h.0, w.0), omega (arith, h.0, h.1, size, w.1))) (rest_of n bytes i)
        (later (insn_end i) (drop (length i.bytes) bytes)))

-- their ends rise
rises_from : (x : Standing) (xs : List Standing) → All (λ i. insn_end x ≤ insn_end i) xs
    → IsNonDecreasingBy insn_end xs → IsNonDecreasingBy insn_end (x ∷ xs)
rises_from x xs low rest zero zero d le lt = omega arith
rises_from x xs low rest zero (suc j) d le lt = low j d (omega (arith, lt))
rises_from x xs low rest (suc i) zero d le lt = absurd (omega (arith, le))
rises_from x xs low rest (suc i) (suc j) d le lt =
    rest i j d (omega (arith, le)) (omega (arith, lt))

pub swept_rises : (n at : ℕ) (bytes : List ℕ) → IsNonDecreasingBy insn_end (sweep n at bytes)
unfolding sweep
swept_rises zero at bytes = λ i j d le lt. absurd (omega (arith, lt))
swept_rises (suc n) at bytes = by (standing at bytes) (swept_rises n)
  where
    by : (o : Option Standing)
        → ((a : ℕ) (bs : List ℕ) → IsNonDecreasingBy insn_end (sweep n a bs))
        → IsNonDecreasingBy insn_end (then_more o (rest_of n bytes))
    by None later = λ i j d le lt. absurd (omega (arith, lt))
    by (Some x) later =
        let rest = drop (length x.bytes) bytes in
        rises_from x (rest_of n bytes x)
        (λ k d lt. (all_within n (insn_end x) rest k d lt).0) (later (insn_end x) rest)

-- ---- instructions of a function are short, from each on

short_either : (b : Bool) (xs ys : List Standing) → IsShort xs → IsShort ys
    → IsShort (if b then xs else ys)
short_either true xs ys x y = x
short_either false xs ys x y = y

pub from_short : (a n at : ℕ) (bytes : List ℕ) → length bytes ≤ 2 ^ 24
    → IsShort (insns_from a (sweep n at bytes))
unfolding sweep
from_short a zero at bytes few = λ k d lt. absurd (omega (arith, lt))
from_short a (suc n) at bytes few = by (standing at bytes) (lies_in at bytes) (from_short a n)
  where
    by : (o : Option Standing) → IfSome o (LiesIn at bytes)
        → ((a' : ℕ) (bs : List ℕ) → length bs ≤ 2 ^ 24 → IsShort (insns_from a (sweep n a' bs)))
        → IsShort (insns_from a (then_more o (rest_of n bytes)))
    by None h later = λ k d lt. absurd (omega (arith, lt))
    by (Some i) h later =
        let rest = drop (length i.bytes) bytes in
        let size = length-drop (length i.bytes) bytes in
        let near : All (λ j. (i.at ≤ insn_end j) × (insn_end j ≤ i.at + 2 ^ 24))
        (i ∷ rest_of n bytes i) =
        All-cons (λ j. (i.at ≤ insn_end j) × (insn_end j ≤ i.at + 2 ^ 24)) i (rest_of n bytes i)
        (omega arith, omega (arith, h.1, few))
        (All-weaker (Within (insn_end i) (insn_end i + length rest))
        (λ j. (i.at ≤ insn_end j) × (insn_end j ≤ i.at + 2 ^ 24))
        (λ j w. (omega (arith, w.0), omega (arith, h.1, few, size, w.1))) (rest_of n bytes i)
        (all_within n (insn_end i) rest)) in
        short_either (leb (insn_end i) a) (insns_from a (rest_of n bytes i)) (i ∷ rest_of n bytes i)
        (later (insn_end i) rest (omega (arith, size, few))) near

-- ---- so is each front of them

end_within : (low high a : ℕ) (is : List Standing) → 0 < length is → All (Within low high) is
    → (low ≤ end_of (reaching a is)) × (end_of (reaching a is) ≤ high)
end_within low high a [] some all = absurd (omega (arith, some))
end_within low high a (i ∷ []) some all = by (leb a (insn_end i))
  where
    by : (b : Bool) → (low ≤ end_of (i ∷ (if b then [] else [])))
        × (end_of (i ∷ (if b then [] else [])) ≤ high)
    by true = All-head (Within low high) i [] all
    by false = All-head (Within low high) i [] all
end_within low high a (i ∷ j ∷ js) some all =
    by (leb a (insn_end i)) (end_within low high a (j ∷ js) (omega arith)
    (All-tail (Within low high) i (j ∷ js) all))
  where
    by : (b : Bool)
        → (low ≤ end_of (reaching a (j ∷ js))) × (end_of (reaching a (j ∷ js)) ≤ high)
        → (low ≤ end_of (i ∷ (if b then [] else reaching a (j ∷ js))))
        × (end_of (i ∷ (if b then [] else reaching a (j ∷ js))) ≤ high)
    by true later = All-head (Within low high) i (j ∷ js) all
    by false later = later

pub front_short : (a : ℕ) (is : List Standing) → IsShort is
    → (start_of is ≤ end_of (reaching a is)) × (end_of (reaching a is) ≤ start_of is + 2 ^ 24)
front_short a [] short = (omega arith, omega arith)
front_short a (i ∷ is) short =
    end_within i.at (i.at + 2 ^ 24) a (i ∷ is) (omega arith) short

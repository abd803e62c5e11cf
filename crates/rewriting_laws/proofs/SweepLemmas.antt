-- The instructions of a function lie in it, and so do those of a region.
use Rattle.std.proofs.Common.{◌≡◌, ℕ, zero, suc, ◌+◌, ◌-◌, ◌≤◌, Bool, true, false, List, [], ◌∷◌}
use Rattle.std.proofs.Common.{length, take, drop, Option, Some, None, Result, Ok, Err, refl}
use Rattle.std.proofs.Common.{arith, subst}
use Rattle.std.specs.Prelude.{nat_le, if◌then◌else◌}
use Rattle.std.proofs.lemmas.List.{length-take, length-drop}
use Rattle.erim_defs.specs.declared.grammar.Stop.{Stop}
use Rattle.erim_defs.specs.Encoding.Decoding.{front_at}
use Rattle.erim_defs.specs.Encoding.Grammar.{InsnAndSizes}
use Rattle.erim_defs.specs.Rewriting.Standing.{Standing, insn_end, standing, standing_as, sweep}
use Rattle.erim_defs.specs.Rewriting.Standing.{then_more}
use Rattle.erim_defs.specs.Rewriting.Sites.{end_of, insns_from, reaching, start_of}

-- instructions lie from an address up to another
abbrev pub Within : ℕ → ℕ → List Standing → Type 0
Within low high [] = Unit {0}
Within low high (i ∷ is) = (low ≤ i.at) × (insn_end i ≤ high) × Within low high is

-- ---- a sweep

pub take_low : (k : ℕ) (xs : List ℕ) → length (take k xs) ≤ length xs
take_low k xs = rw (length-take k xs) (omega arith)

-- an instruction has no more bytes than there are
stands : (at : ℕ) (bytes : List ℕ) (i : Standing) → standing at bytes ≡ Some i
    → (i.at ≡ at) × (length i.bytes ≤ length bytes)
unfolding standing
stands at bytes i h = by (front_at 0 false false window) h
  where
    window : List ℕ
    window = take 15 bytes

    by : (r : Result (InsnAndSizes × List ℕ) Stop) → standing_as at window r ≡ Some i
        → (i.at ≡ at) × (length i.bytes ≤ length bytes)
    by (Err stop) e = absurd cc
    by (Ok x) e =
        let k : ℕ = length window - length x.1 in
        let is : record {
          at = at;
          bytes = take k window;
          insn = x.0.0;
          skip = x.0.1;
          disp = x.0.2;
          imm = x.0.3;
        } ≡ i = cc in
        subst (λ (j : Standing). (j.at ≡ at) × (length j.bytes ≤ length bytes)) is
        (refl, (let a = take_low k window in let b = take_low 15 bytes in omega (arith, a, b)))

pub swept_within : (n at low high : ℕ) (bytes : List ℕ) → low ≤ at → at + length bytes ≤ high
    → Within low high (sweep n at bytes)
unfolding sweep
swept_within zero at low high bytes above below = tt
swept_within (suc n) at low high bytes above below =
    by (standing at bytes) refl
    (λ i. swept_within n (insn_end i) low high (drop (length i.bytes) bytes))
  where
    by : (o : Option Standing) → standing at bytes ≡ o
        → ((i : Standing) → low ≤ insn_end i
        → insn_end i + length (drop (length i.bytes) bytes) ≤ high
        → Within low high (sweep n (insn_end i) (drop (length i.bytes) bytes)))
        → Within low high
        (then_more o (λ i. sweep n (insn_end i) (drop (length i.bytes) bytes)))
    by None e more = tt
    by (Some i) e more =
        let s = stands at bytes i e in
        let rest = length-drop (length i.bytes) bytes in (
          omega (arith, s.0, above),
          omega (arith, s.0, s.1, below),
          more i (omega (arith, s.0, above)) (rw rest (omega (arith, s.0, s.1, below))),
        )

-- ---- parts of it

cut : (low high : ℕ) (b : Bool) (is : List Standing) → Within low high is
    → Within low high (if b then [] else is)
cut low high true is w = tt
cut low high false is w = w

pub from_within : (low high a : ℕ) (is : List Standing) → Within low high is
    → Within low high (insns_from a is)
from_within low high a [] w = tt
from_within low high a (i ∷ is) w = by (nat_le (insn_end i) a) (from_within low high a is w.2)
  where
    by : (b : Bool) → Within low high (insns_from a is)
        → Within low high (if b then insns_from a is else i ∷ is)
    by true rest = rest
    by false rest = w

reaching_within : (low high g : ℕ) (is : List Standing) → Within low high is
    → Within low high (reaching g is)
reaching_within low high g [] w = tt
reaching_within low high g (i ∷ is) w = (
  w.0,
  w.1,
  cut low high (nat_le g (insn_end i)) (reaching g is)
      (reaching_within low high g is w.2),
)

end_low : (low high : ℕ) (i : Standing) (is : List Standing) → Within low high (i ∷ is)
    → end_of (i ∷ is) ≤ high
end_low low high i [] w = w.1
end_low low high i (j ∷ js) w = end_low low high j js w.2

-- where they begin, and where their front that reaches an address ends
pub bounds : (low high g : ℕ) (is : List Standing) → Within low high is
    → start_of is + 5 ≤ end_of (reaching g is)
    → (low ≤ start_of is) × (end_of (reaching g is) ≤ high)
bounds low high g [] w wide = absurd (omega (arith, wide))
bounds low high g (i ∷ is) w wide = (
  w.0,
  end_low low high i (if nat_le g (insn_end i) then [] else reaching g is)
      (reaching_within low high g (i ∷ is) w),
)

-- What stands at an address, by what was read of the window.
use Rattle.std.proofs.Common.{◌≡◌, ℕ, ◌-◌, ◌≤◌, ◌<◌, ◌∙◌, ◌++◌, List, [], ◌∷◌, zero, suc, length}
use Rattle.std.proofs.Common.{take, Some, None}
use Rattle.std.proofs.Common.{Ok, Err, false, refl, ap, arith, inl, inr}
use Rattle.std.proofs.lemmas.Bool.{cases_lt}
use Rattle.std.proofs.lemmas.List.{append-nil, take-append-le}
use Rattle.erim_defs.specs.declared.grammar.Stop.{Stop}
use Rattle.erim_defs.specs.Encoding.Decoding.{IsWindow, front_at}
use Rattle.erim_defs.specs.Encoding.Grammar.{InsnAndSizes}
use Rattle.erim_defs.specs.Rewriting.Standing.{standing}

take_few : (n : ℕ) (xs : List ℕ) → length xs ≤ n → take n xs ≡ xs
take_few zero [] le = refl
take_few zero (x ∷ xs) le = absurd (omega (arith, le))
take_few (suc n) [] le = refl
take_few (suc n) (x ∷ xs) le = ap (λ ys. x ∷ ys) (take_few n xs (omega (arith, le)))

-- the window is the front
window_is : (bytes window : List ℕ) → IsWindow bytes window → take 15 bytes ≡ window
window_is bytes window w = elim (cases_lt (length window) 15) [
  | inl short ↦ rw (all short) (take_few 15 window w.long)
  | inr long ↦ rw w.parts (take-append-le 15 window w.more long ∙ take_few 15 window w.long)
]
  where
    all : length window < 15 → bytes ≡ window
    all short = w.parts ∙ (ap (λ xs. window ++ xs) (w.all short) ∙ append-nil window)

pub nothing_stands : (bytes window : List ℕ) (stop : Stop) → IsWindow bytes window
    → front_at 0 false false window ≡ Err stop → (at : ℕ) → standing at bytes ≡ None
unfolding standing
nothing_stands bytes window stop w e at = rw (window_is bytes window w, e) refl

pub stands : (bytes window rest : List ℕ) (a : InsnAndSizes) → IsWindow bytes window
    → length rest ≤ length window → front_at 0 false false window ≡ Ok (a, rest) → (at : ℕ)
    → standing at bytes ≡ Some (record {
      at = at;
      bytes = take (length window - length rest) bytes;
      insn = a.0;
      skip = a.1;
      disp = a.2;
      imm = a.3;
    })
unfolding standing
stands bytes window rest a w le e at =
    let n = length window - length rest in
    let same : take n bytes ≡ take n window =
    ap (take n) w.parts ∙ take-append-le n window w.more (omega (arith, le)) in
    rw (window_is bytes window w, e, same) refl

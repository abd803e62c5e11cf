-- A sweep, instruction by instruction.
use Rattle.std.proofs.Common.{◌≡◌, ℕ, zero, suc, ◌+◌, ◌<◌, ◌≤◌, ◌==◌, ◌++◌, ◌∙◌, List, [], ◌∷◌}
use Rattle.std.proofs.Common.{length, drop, append_assoc, Some, None, refl, sym, ap, arith}
use Rattle.std.specs.Prelude.{sum_by}
use Rattle.std.proofs.lemmas.List.{append-nil, length-drop}
use Rattle.std.proofs.lemmas.List.Sums.{sum_by-append}
use Rattle.erim_defs.specs.Rewriting.Standing.{Standing, insn_end, standing, then_more, sweep}

-- how many bytes instructions have
abbrev pub size_of : List Standing → ℕ
size_of is = sum_by (λ i. length i.bytes) is

-- what a sweep of a given number of bytes has when some were swept, with a fuel that is enough
pub record Told (all : List Standing) (size : ℕ) (swept : List Standing) (at : ℕ) (rest : List ℕ)
    : Type 0 where
  pub fuel : ℕ
  pub enough : length rest ≤ fuel
  pub told : swept ++ sweep fuel at rest ≡ all
  pub sizes : size_of swept + length rest ≡ size

pub told_first : (start : ℕ) (bytes : List ℕ)
    → Told (sweep (length bytes) start bytes) (length bytes) [] start bytes
told_first start bytes =
    record { fuel = length bytes; enough = omega arith; told = refl; sizes = omega arith }

size_more : (xs : List Standing) (i : Standing) → size_of (xs ++ i ∷ [])
    ≡ size_of xs + length i.bytes
size_more xs i =
    sum_by-append (λ (s : Standing). length s.bytes) xs (i ∷ [])
    ∙ (let one : size_of (i ∷ []) ≡ length i.bytes = omega arith in ap (λ n. size_of xs + n) one)

pub told_next : (all : List Standing) (size : ℕ) (swept : List Standing) (at : ℕ) (rest : List ℕ)
    (i : Standing) → Told all size swept at rest → Some i ≡ standing at rest → i.at ≡ at
    → 0 < length i.bytes → length i.bytes ≤ length rest
    → Told all size (swept ++ i ∷ []) (at + length i.bytes) (drop (length i.bytes) rest)
unfolding sweep
told_next all size swept at rest i t stands place some room = by t.fuel t.enough t.told
  where
    by : (n : ℕ) → length rest ≤ n → swept ++ sweep n at rest ≡ all
        → Told all size (swept ++ i ∷ []) (at + length i.bytes) (drop (length i.bytes) rest)
    by zero le told = absurd (omega (arith, le, some, room))
    by (suc n) le told = record {
      fuel = n;
      enough = omega (arith, le, some, length-drop (length i.bytes) rest);
      told = append_assoc swept (i ∷ [])
          (sweep n (at + length i.bytes) (drop (length i.bytes) rest))
          ∙ (ap (λ a. swept ++ i ∷ sweep n (a + length i.bytes) (drop (length i.bytes) rest))
          (sym place)
          ∙ (ap (λ o. swept ++ then_more o (λ j. sweep n (insn_end j) (drop (length j.bytes) rest)))
          stands ∙ told));
      sizes = omega (arith, t.sizes, room, size_more swept i, length-drop (length i.bytes) rest);
    }

pub told_end : (all : List Standing) (size : ℕ) (swept : List Standing) (at : ℕ) (rest : List ℕ)
    → Told all size swept at rest → None ≡ standing at rest → swept ≡ all
unfolding sweep
told_end all size swept at rest t none = by t.fuel t.told
  where
    by : (n : ℕ) → swept ++ sweep n at rest ≡ all → swept ≡ all
    by zero told = sym (append-nil swept) ∙ told
    by (suc n) told = sym (append-nil swept)
        ∙ (ap (λ o. swept ++ then_more o (λ j. sweep n (insn_end j) (drop (length j.bytes) rest)))
        none
        ∙ told)

whole : (size rest total : ℕ) → size + rest ≡ total → (rest == 0) ≡ (size == total)
whole size rest total e = grind (arith, e)

pub told_whole : (all : List Standing) (size : ℕ) (swept : List Standing) (at : ℕ) (rest : List ℕ)
    → Told all size swept at rest → None ≡ standing at rest
    → (length rest == 0) ≡ (size_of all == size)
told_whole all size swept at rest t none =
    whole (size_of swept) (length rest) size t.sizes
    ∙ ap (λ is. size_of is == size) (told_end all size swept at rest t none)

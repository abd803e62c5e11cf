-- From the bytes that are fetched to the code: a WRPKRU or XRSTOR that is decoded occurs.
use Rattle.std.proofs.Common.{◌≡◌, ◌≤◌, ◌+◌, ◌-◌, ℕ, zero, suc, List, [], ◌∷◌, ◌++◌, length, Option}
use Rattle.std.proofs.Common.{Some, None, refl, ap, subst, ◌∙◌, arith}
use Rattle.std.proofs.lemmas.List.{length-append}
use Rattle.erim_defs.specs.declared.found.SeqKind.{SeqKind}
use Rattle.erim_defs.specs.declared.found.Found.{Found}
use Rattle.erim_defs.specs.declared.insn.Insn.{Insn}
use Rattle.erim_defs.specs.declared.insn.Decoded.TheVariants as answers
use Rattle.erim_defs.specs.Inspection.Code.{Code}
use Rattle.erim_defs.specs.Machine.Pages.{code_bytes, code_bytes_on}
use Rattle.erim_defs.specs.Inspection.Occurrence.{occurrence_at}
use Rattle.erim_defs.specs.Encoding.Decoding.{decode}
use Rattle.encoding_laws.proofs.SequenceEncodings.{LiesAt, insn_kind}
use Rattle.isolation.proofs.DecoderFacts.{AllOf, Decoder}

-- each byte of a code is of the kind
abbrev pub OfCode : (ℕ → Type 0) → Code → Type 0
OfCode N c = (a x : ℕ) → c a ≡ Some x → N x

-- and so is each that is present
pub present_all : (N : ℕ → Type 0) (c : Code) (a n : ℕ) → OfCode N c → AllOf N (code_bytes c a n)
unfolding code_bytes
present_all N c a zero h = tt
present_all N c a (suc n) h = by_byte (c a) refl (present_all N c (suc a) n h)
  where
    by_byte : (o : Option ℕ) → c a ≡ o → AllOf N (code_bytes c (suc a) n)
        → AllOf N (code_bytes_on o (code_bytes c (suc a) n))
    by_byte None e rest = tt
    by_byte (Some x) e rest = (h a x e, rest)

present_few : (c : Code) (a n : ℕ) → length (code_bytes c a n) ≤ n
unfolding code_bytes
present_few c a zero = omega arith
present_few c a (suc n) = by_byte (c a) (present_few c (suc a) n)
  where
    by_byte : (o : Option ℕ) → length (code_bytes c (suc a) n) ≤ n
        → length (code_bytes_on o (code_bytes c (suc a) n)) ≤ suc n
    by_byte None k = omega arith
    by_byte (Some x) k = omega (arith, k)

-- the byte that a present list has at a place
pub present_get : (c : Code) (a n : ℕ) (xs : List ℕ) (y : ℕ) (ys : List ℕ)
    → code_bytes c a n ≡ xs ++ y ∷ ys → c (a + length xs) ≡ Some y
unfolding code_bytes
present_get c a zero [] y ys h = absurd cc
present_get c a zero (x ∷ xs) y ys h = absurd cc
present_get c a (suc n) xs y ys h =
    by_byte (c a) refl xs h (λ zs e. present_get c (suc a) n zs y ys e)
  where
    by_byte : (o : Option ℕ) → c a ≡ o → (zs : List ℕ)
        → code_bytes_on o (code_bytes c (suc a) n) ≡ zs ++ y ∷ ys
        → ((us : List ℕ) → code_bytes c (suc a) n ≡ us ++ y ∷ ys → c (suc a + length us) ≡ Some y)
        → c (a + length zs) ≡ Some y
    by_byte None e [] k rest = absurd cc
    by_byte None e (z ∷ zs) k rest = absurd cc
    by_byte (Some x) e [] k rest = let z : x ≡ y = cc in let m : a + 0 ≡ a = omega arith in
        ap c m ∙ e ∙ ap Some z
    by_byte (Some x) e (z ∷ zs) k rest =
        let t : code_bytes c (suc a) n ≡ zs ++ y ∷ ys = cc in
        let m : a + length (z ∷ zs) ≡ suc a + length zs = omega arith in
        ap c m ∙ rest zs t

-- what is present from a place on
present_drop : (c : Code) (a n : ℕ) (xs ys : List ℕ) → code_bytes c a n ≡ xs ++ ys
    → (m : ℕ) × (code_bytes c (a + length xs) m ≡ ys)
unfolding code_bytes
present_drop c a n [] ys h = let m : a ≡ a + 0 = omega arith in
    (n, subst (λ (b : ℕ). code_bytes c b n ≡ ys) m h)
present_drop c a zero (x ∷ xs) ys h = absurd cc
present_drop c a (suc n) (x ∷ xs) ys h = by_byte (c a) h (λ e. present_drop c (suc a) n xs ys e)
  where
    by_byte : (o : Option ℕ) → code_bytes_on o (code_bytes c (suc a) n) ≡ x ∷ (xs ++ ys)
        → (code_bytes c (suc a) n ≡ xs ++ ys → (m : ℕ) × (code_bytes c (suc a + length xs) m ≡ ys))
        → (m : ℕ) × (code_bytes c (a + length (x ∷ xs)) m ≡ ys)
    by_byte None k rest = absurd cc
    by_byte (Some z) k rest =
        let t : code_bytes c (suc a) n ≡ xs ++ ys = cc in
        let r = rest t in
        let e : suc a + length xs ≡ a + length (x ∷ xs) = omega arith in
        (r.0, subst (λ (b : ℕ). code_bytes c b r.0 ≡ ys) e r.1)

-- bytes that are present lie there
present_lies : (c : Code) (a n : ℕ) (xs ys : List ℕ) → code_bytes c a n ≡ xs ++ ys → LiesAt c a xs
unfolding code_bytes
present_lies c a n [] ys h = tt
present_lies c a zero (x ∷ xs) ys h = absurd cc
present_lies c a (suc n) (x ∷ xs) ys h =
    by_byte (c a) refl h (λ e. present_lies c (suc a) n xs ys e)
  where
    by_byte : (o : Option ℕ) → c a ≡ o
        → code_bytes_on o (code_bytes c (suc a) n) ≡ x ∷ (xs ++ ys)
        → (code_bytes c (suc a) n ≡ xs ++ ys → LiesAt c (suc a) xs) → LiesAt c a (x ∷ xs)
    by_byte None e k rest = absurd cc
    by_byte (Some z) e k rest =
        let same : z ≡ x = cc in
        let t : code_bytes c (suc a) n ≡ xs ++ ys = cc in
        (e ∙ ap Some same, rest t)

-- an occurrence that ends the instruction
pub record IsSequence (kind : SeqKind) (c : Code) (rip len skip : ℕ) : Type 0 where
  pub within : skip ≤ len
  pub short : len ≤ 15
  pub occurs : occurrence_at c (rip + skip)
      ≡ Some (record { at = rip + skip; len = len - skip; kind = kind })

pub sequence_fact : {N : ℕ → Type 0} → Decoder N → (kind : SeqKind) (c : Code) (rip : ℕ)
    (insn : Insn) (len skip : ℕ) → insn_kind insn ≡ Some kind → OfCode N c
    → decode (code_bytes c rip 15) ≡ answers.Insn insn len skip → IsSequence kind c rip len skip
sequence_fact {N} d kind c rip insn len skip is of h =
    let w = d.sequence kind (code_bytes c rip 15) insn len skip is (present_all N c rip 15 of) h in
    let few = present_few c rip 15 in
    let count : length (code_bytes c rip 15) ≡ length w.front + (length w.text + length w.back) =
    ap length w.parts ∙ length-append w.front (w.text ++ w.back)
    ∙ ap (λ n. length w.front + n) (length-append w.text w.back) in
    let r = present_drop c rip 15 w.front (w.text ++ w.back) w.parts in
    let at : rip + length w.front ≡ rip + skip = omega (arith, w.skipped) in
    let there : code_bytes c (rip + skip) r.0 ≡ w.text ++ w.back =
    subst (λ (b : ℕ). code_bytes c b r.0 ≡ w.text ++ w.back) at r.1 in
    let long : length w.text ≡ len - skip = omega (arith, w.long) in
    record {
      within = omega (arith, w.long);
      short = omega (arith, w.long, w.skipped, few, count);
      occurs = w.spells c (rip + skip) (present_lies c (rip + skip) r.0 w.text w.back there)
          ∙ ap (λ n. Some (let o : Found = record { at = rip + skip; len = n; kind = kind } in o))
          long;
    }

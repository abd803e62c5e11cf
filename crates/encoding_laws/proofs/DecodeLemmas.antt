-- The function on lists is what the relation says.
use Rattle.std.proofs.Common.{◌≡◌, ℕ, zero, suc, ◌+◌, nat_le, Bool, true, false, if◌then◌else◌}
use Rattle.std.proofs.Common.{List, [], ◌∷◌, ◌++◌, length, take, drop, Result, Ok, Err, refl, sym}
use Rattle.std.proofs.Common.{ap, subst, ◌∙◌, arith, inl, inr}
use Rattle.std.proofs.lemmas.Bool.{leb-true, leb-false, cases_lt}
use Rattle.std.proofs.lemmas.List.{append-nil, length-take-le, take_all, take-append-drop}
use Rattle.erim_defs.specs.Encoding.Grammar.{InsnAndSizes}
use Rattle.erim_defs.specs.declared.insn.Decoded.{Decoded}
use Rattle.erim_defs.specs.declared.insn.Decoded.TheVariants as outcomes
use Rattle.erim_defs.specs.declared.insn.Insn.{Insn}
use Rattle.erim_defs.specs.declared.grammar.Stop.{Stop}
use Rattle.erim_defs.specs.declared.grammar.Stop.TheVariants.{Undefined, Short}
use Rattle.erim_defs.specs.Encoding.Parts.{AreBytes}
use Rattle.erim_defs.specs.Encoding.Decodes.{Decodes, DecodesEncodings}
use Rattle.erim_defs.specs.Encoding.Decoding.{decode, front_at, decode_outcome}
use Rattle.erim_defs.specs.Encoding.Decoding.{IsWindow}
use Rattle.encoding_laws.proofs.EncodingLemmas.{decodes_again, found_ok, found_short, found_long}
use Rattle.encoding_laws.proofs.EncodingLemmas.{found_none, window_take, window_all}

-- ---- what bytes decode to is one

pub decodes_one : (bytes : List ℕ) (r s : Decoded) → Decodes bytes r → Decodes bytes s → r ≡ s
decodes_one bytes r (outcomes.Insn i len k) h g = is_read bytes r i len k h g
  where
    is_read : (bytes : List ℕ) (r : Decoded) (i : Insn) (len k : ℕ) → Decodes bytes r
        → Decodes bytes (outcomes.Insn i len k) → r ≡ outcomes.Insn i len k
    is_read bytes r i len k h g =
        let f : ℕ → Decoded = λ n. outcomes.Insn i n k in
        decodes_again bytes r h (take len bytes) (drop len bytes) i k g.1
        (sym (take-append-drop len bytes)) ∙ ap f (length-take-le len bytes g.0)
decodes_one bytes (outcomes.Insn i len k) outcomes.Short h g =
    sym (decodes_again bytes outcomes.Short g (take len bytes) (drop len bytes) i k h.1
    (sym (take-append-drop len bytes))
    ∙ ap (λ n. outcomes.Insn i n k) (length-take-le len bytes h.0))
decodes_one bytes outcomes.Undefined outcomes.Short h g =
    absurd (h (bytes ++ g.tail) g.insn g.skip g.tail [] g.encodes
    (sym (append-nil (bytes ++ g.tail))))
decodes_one bytes outcomes.Short outcomes.Short h g = refl
decodes_one bytes (outcomes.Insn i len k) outcomes.Undefined h g =
    absurd (g (take len bytes) i k [] (drop len bytes) h.1 (append-nil bytes
    ∙ sym (take-append-drop len bytes)))
decodes_one bytes outcomes.Short outcomes.Undefined h g =
    absurd (g (bytes ++ h.tail) h.insn h.skip h.tail [] h.encodes
    (sym (append-nil (bytes ++ h.tail))))
decodes_one bytes outcomes.Undefined outcomes.Undefined h g = refl

-- ---- the front that the function looks at

pub window_is : (bytes : List ℕ) → IsWindow bytes (take 15 bytes)
window_is bytes = elim (cases_lt 15 (length bytes)) [
  | inl lt ↦ window_take bytes lt
  | inr le ↦ let P : List ℕ
      → Type 0 = IsWindow bytes in subst P (sym (take_all 15 bytes le)) (window_all bytes le)
]

front_bytes : (n : ℕ) (s : List ℕ) → AreBytes s → AreBytes (take n s)
front_bytes zero s h = tt
front_bytes (suc n) [] h = tt
front_bytes (suc n) (b ∷ s) h = (h.0, front_bytes n s h.1)

pub decode_is_exact : (bytes : List ℕ) → AreBytes bytes → Decodes bytes (decode bytes)
unfolding decode
decode_is_exact bytes are = by_read (front_at 0 false false (take 15 bytes)) refl
  where
    by_limit : (n : ℕ) → front_at 0 false false (take 15 bytes) ≡ Err (Short n) → (b : Bool)
        → nat_le (length (take 15 bytes) + n) 15 ≡ b
        → Decodes bytes (if b then outcomes.Short else outcomes.Undefined)
    by_limit n e true h = found_short bytes (take 15 bytes) n (window_is bytes)
        (front_bytes 15 bytes are) e (leb-true (length (take 15 bytes) + n) 15 h)
    by_limit n e false h = let lt = leb-false (length (take 15 bytes) + n) 15 h in
        found_long bytes (take 15 bytes) n (window_is bytes) (front_bytes 15 bytes are) e
        (omega arith)

    by_read : (r : Result (InsnAndSizes × List ℕ) Stop) → front_at 0 false false (take 15 bytes) ≡ r
        → Decodes bytes (decode_outcome (length (take 15 bytes)) r)
    by_read (Ok x) e = let k =
        found_ok bytes (take 15 bytes) x.1 x.0 (window_is bytes) (front_bytes 15 bytes are) e in
        (k.1, k.2)
    by_read (Err (Short n)) e = by_limit n e (nat_le (length (take 15 bytes) + n) 15) refl
    by_read (Err Undefined) e =
        found_none bytes (take 15 bytes) (window_is bytes) (front_bytes 15 bytes are) e

-- the function, too, reads what is encoded, whatever follows
pub decode_again : (bytes : List ℕ) → AreBytes bytes → DecodesEncodings bytes (decode bytes)
decode_again bytes are = decodes_again bytes (decode bytes) (decode_is_exact bytes are)

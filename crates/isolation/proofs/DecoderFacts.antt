-- What the machine's proofs use of decoding, over lists whose elements are known to be of some
-- kind, and how the laws of the grammar give it over bytes.
use Rattle.std.proofs.Common.{◌≡◌, ◌<◌, ◌≤◌, ◌+◌, ℕ, List, [], ◌∷◌, ◌++◌, length, take, drop, refl}
use Rattle.std.proofs.Common.{sym, ap, subst, ◌∙◌, arith, append_assoc, Some}
use Rattle.std.proofs.lemmas.List.{take-append-drop, length-take-le, append-nil, length-append}
use Rattle.erim_defs.specs.declared.found.SeqKind.{SeqKind}
use Rattle.erim_defs.specs.declared.insn.Insn.{Insn}
use Rattle.erim_defs.specs.declared.insn.Decoded.{Decoded}
use Rattle.erim_defs.specs.declared.insn.Decoded.TheVariants as answers
use Rattle.erim_defs.specs.Encoding.Parts.{AreBytes}
use Rattle.erim_defs.specs.Encoding.Grammar.{Encodes}
use Rattle.erim_defs.specs.Encoding.Decodes.{Decodes, PrefixFree}
use Rattle.erim_defs.specs.Encoding.Decoding.{decode}
use Rattle.erim_defs.proofs.ByteLemmas.{bytes_append}
use Rattle.isolation.specs.GrammarLaws.{GrammarLaws}
use Rattle.encoding_laws.proofs.SequenceEncodings.{Spells, insn_kind}
use Rattle.erim_defs.specs.Inspection.Trust.{TrustValue}
use Rattle.erim_defs.specs.Inspection.Check.{Position, check_insn, check_bytes}

-- each element is of the kind
abbrev pub AllOf : (ℕ → Type 0) → List ℕ → Type 0
AllOf N [] = Unit {0}
AllOf N (x ∷ xs) = N x × AllOf N xs

pub all_behind : (N : ℕ → Type 0) (xs ys : List ℕ) → AllOf N (xs ++ ys) → AllOf N ys
all_behind N [] ys h = h
all_behind N (x ∷ xs) ys h = all_behind N xs ys h.1

-- a text that spells an instruction is read, whatever follows, and what it begins with is short
pub record Reads (N : ℕ → Type 0) (text : List ℕ) (insn : Insn) : Type 0 where
  pub whole : (rest : List ℕ) → AllOf N rest
      → decode (text ++ rest) ≡ answers.Insn insn (length text) 0
  pub part : (front back : List ℕ) → text ≡ front ++ back → 0 < length back
      → decode front ≡ answers.Short

-- the bytes of an instruction that writes PKRU end with its sequence, after skip bytes
pub record HoldsSequence (kind : SeqKind) (bytes : List ℕ) (len skip : ℕ) : Type 0 where
  pub front : List ℕ
  pub text : List ℕ
  pub back : List ℕ
  pub parts : bytes ≡ front ++ (text ++ back)
  pub spells : Spells kind text
  pub skipped : skip ≡ length front
  pub long : len ≡ skip + length text

pub record Decoder (N : ℕ → Type 0) : Type 0 where
  pub bytes : (x : ℕ) → x < 256 → N x
  pub reads : (trust : TrustValue) (kind : SeqKind) (next : ℕ) (position : Position)
      → Reads N (check_bytes trust kind next position) (check_insn trust kind next position)
  pub sequence : (kind : SeqKind) (bytes : List ℕ) (insn : Insn) (len skip : ℕ)
      → insn_kind insn ≡ Some kind → AllOf N bytes → decode bytes ≡ answers.Insn insn len skip
      → HoldsSequence kind bytes len skip

-- ---- over bytes, by the laws

abbrev pub IsByte : ℕ → Type 0
IsByte x = x < 256

are_bytes : (xs : List ℕ) → AllOf IsByte xs → AreBytes xs
are_bytes [] h = tt
are_bytes (x ∷ xs) h = (h.0, are_bytes xs h.1)

bytes_front : (xs ys : List ℕ) → AreBytes (xs ++ ys) → AreBytes xs
bytes_front [] ys h = tt
bytes_front (x ∷ xs) ys h = (h.0, bytes_front xs ys h.1)

-- what is spelled is read
again : PrefixFree → (bytes text rest : List ℕ) (insn : Insn) (skip : ℕ) (r : Decoded)
    → Encodes text insn skip → bytes ≡ text ++ rest → Decodes bytes r
    → r ≡ answers.Insn insn (length text) skip
again one bytes text rest insn skip answers.Undefined s e d =
    absurd (d text insn skip [] rest s (append-nil bytes ∙ e))
again one bytes text rest insn skip answers.Short s e d =
    let parts : text ++ (rest ++ d.tail) ≡ (bytes ++ d.tail) ++ [] =
    sym (append_assoc text rest d.tail) ∙ ap (λ (x : List ℕ). x ++ d.tail) (sym e)
    ∙ sym (append-nil (bytes ++ d.tail)) in
    let same : text ≡ bytes ++ d.tail =
    (one text (bytes ++ d.tail) insn d.insn skip d.skip (rest
    ++ d.tail) [] s d.encodes parts).0 in
    let a : length text ≡ length bytes + length d.tail =
    ap length same ∙ length-append bytes d.tail in
    let b : length bytes ≡ length text + length rest = ap length e ∙ length-append text rest in
    let more = d.more in
    absurd (omega (arith, a, b, more))
again one bytes text rest insn skip (answers.Insn i n k) s e d =
    let w = one (take n bytes) text i insn k skip (drop n bytes) rest d.1 s
    (take-append-drop n bytes ∙ e) in
    let long : n ≡ length text = sym (length-take-le n bytes d.0) ∙ ap length w.0 in
    rw (w.1, long, w.2) refl

-- what a spelled text begins with is short
part_short : PrefixFree → (text front back : List ℕ) (insn : Insn) (skip : ℕ) (r : Decoded)
    → Encodes text insn skip → text ≡ front ++ back → 0 < length back → Decodes front r
    → r ≡ answers.Short
part_short one text front back insn skip answers.Short s e l d = refl
part_short one text front back insn skip answers.Undefined s e l d =
    absurd (d text insn skip back [] s (sym e ∙ sym (append-nil text)))
part_short one text front back insn skip (answers.Insn i n k) s e l d =
    let cut : take n front ++ (drop n front ++ back) ≡ text ++ [] =
    sym (append_assoc (take n front) (drop n front) back)
    ∙ ap (λ (x : List ℕ). x ++ back) (take-append-drop n front) ∙ sym e
    ∙ sym (append-nil text) in
    let same : take n front ≡ text =
    (one (take n front) text i insn k skip (drop n front ++ back) [] d.1 s cut).0 in
    let a : length (take n front) ≡ n = length-take-le n front d.0 in
    let b : length (take n front) ≡ length text = ap length same in
    let c : length text ≡ length front + length back = ap length e ∙ length-append front back in
    let m : n ≤ length front = d.0 in
    absurd (omega (arith, a, b, c, m, l))

reads_by : GrammarLaws → (text : List ℕ) (insn : Insn) → Encodes text insn 0
    → Reads IsByte text insn
reads_by g text insn s = record {
  whole = λ rest all. again g.one (text ++ rest) text rest insn 0 (decode (text ++ rest)) s refl
      (g.decodes (text ++ rest) (bytes_append text rest s.format.fits (are_bytes rest all)));
  part = λ front back e l. part_short g.one text front back insn 0 (decode front) s e l
      (g.decodes front (bytes_front front back (subst AreBytes e s.format.fits)));
}

holds_by : GrammarLaws → (kind : SeqKind) (bytes : List ℕ) (insn : Insn) (len skip : ℕ)
    → insn_kind insn ≡ Some kind → (len ≤ length bytes) × Encodes (take len bytes) insn skip
    → HoldsSequence kind bytes len skip
holds_by g kind bytes insn len skip is d =
    let w = g.sequence kind (take len bytes) skip insn is d.1 in
    let long : len ≡ length w.front + length w.text =
    sym (length-take-le len bytes d.0) ∙ ap length w.parts ∙ length-append w.front w.text in
    record {
      front = w.front;
      text = w.text;
      back = drop len bytes;
      parts = sym (take-append-drop len bytes) ∙ ap (λ (x : List ℕ). x ++ drop len bytes) w.parts
          ∙ append_assoc w.front w.text (drop len bytes);
      spells = w.spells;
      skipped = w.skipped;
      long = omega (arith, long, w.skipped);
    }

-- the laws of the grammar give what is used, over bytes
pub decoder_of_bytes : GrammarLaws → Decoder IsByte
decoder_of_bytes g = record {
  bytes = λ x h. h;
  reads = λ trust kind next position. reads_by g (check_bytes trust kind next position)
      (check_insn trust kind next position)
      (g.check trust kind next position);
  sequence = λ kind bytes insn len skip is all e. holds_by g kind bytes insn len skip is
      (let P : Decoded → Type 0 = Decodes bytes in
      subst P e (g.decodes bytes (are_bytes bytes all)));
}

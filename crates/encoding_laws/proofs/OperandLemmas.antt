-- The operand is read exactly.
use Rattle.std.proofs.Common.{ℕ, ◌+◌, ◌≤◌, ◌/◌, ◌%◌, ◌==◌, ◌&&◌, ◌||◌, Bool, true, false, cond}
use Rattle.std.proofs.Common.{List, Result, Ok, sym, subst, arith, if◌then◌else◌}
use Rattle.erim_defs.specs.declared.grammar.Rex.{Rex}
use Rattle.erim_defs.specs.declared.insn.Place.{Place}
use Rattle.erim_defs.specs.declared.grammar.Stop.{Stop}
use Rattle.erim_defs.specs.declared.grammar.Stop.TheVariants.{Short}
use Rattle.erim_defs.specs.Encoding.Cursor.{byte_at, chunk_at, ◌>>=◌, sib_at, operand_at}
use Rattle.erim_defs.specs.Encoding.Parts.{signed_value, AreBytes, Byte, Chunk, Choose}
use Rattle.encoding_laws.proofs.Exact.{Exact, IsFree}
use Rattle.erim_defs.specs.Encoding.Operand.{has_sib, disp_size, place_of, Operand}
use Rattle.encoding_laws.proofs.PartLemmas.{Sized, byte_exact, byte_free, byte_sized, chunk_exact}
use Rattle.encoding_laws.proofs.PartLemmas.{chunk_free, chunk_sized, then_then}

-- the least displacement after m, and its SIB byte
abbrev pub operand_size : ℕ → ℕ
operand_size m = (if has_sib m then 1 else 0) + disp_size m 0

-- no SIB byte asks for a shorter displacement than 0 does
pub disp_low : (m sib : ℕ) → disp_size m 0 ≤ disp_size m sib
unfolding disp_size
disp_low m sib = by_bools (m / 64 == 0) (m % 8 == 5) (m % 8 == 4) (sib % 8 == 5) (if m / 64 == 1
    then 1 else if m / 64 == 2 then 4 else 0)
  where
    by_bools : (a b c d : Bool) (x : ℕ)
        → cond a (cond (b || (c && false)) 4 0) x ≤ cond a (cond (b || (c && d)) 4 0) x
    by_bools true true c d x = omega arith
    by_bools true false true true x = omega arith
    by_bools true false true false x = omega arith
    by_bools true false false d x = omega arith
    by_bools false b c d x = omega arith

Behind : {A : Type 0} → Rex → ℕ → (Place × ℕ → List ℕ → A → Type 0) → ℕ → List ℕ → A → Type 0
Behind rex m S sib = Chunk (disp_size m sib)
    (λ disp. S (place_of rex m sib (signed_value disp), disp_size m sib))

behind_sized : {A : Type 0} (rex : Rex) (m : ℕ) (S : Place × ℕ → List ℕ → A → Type 0) (least : ℕ)
    → ((p : Place × ℕ) → Sized (S p) least) → (sib : ℕ)
    → Sized (Behind rex m S sib) (disp_size m sib + least)
unfolding Behind
behind_sized rex m S least tails sib =
    chunk_sized (disp_size m sib)
    (λ disp. S (place_of rex m sib (signed_value disp), disp_size m sib)) least
    (λ front _ _. tails (place_of rex m sib (signed_value front), disp_size m sib))

sib_sized : {A : Type 0} (rex : Rex) (m : ℕ) (S : Place × ℕ → List ℕ → A → Type 0) (least : ℕ)
    → ((p : Place × ℕ) → Sized (S p) least)
    → Sized (Byte (Behind rex m S)) (1 + (disp_size m 0 + least))
sib_sized rex m S least tails =
    byte_sized (Behind rex m S) (disp_size m 0 + least) 0 (omega arith)
    (behind_sized rex m S least tails 0)
    (λ c u a lt h. let low = (behind_sized rex m S least tails c).low u a h in
    omega (arith, disp_low m c))

pub operand_sized : {A : Type 0} (rex : Rex) (m : ℕ) (S : Place × ℕ → List ℕ → A
    → Type 0) (least : ℕ) → ((p : Place × ℕ)
    → Sized (S p) least) → Sized (Operand rex m S) (operand_size m + least)
unfolding Behind
operand_sized {A} rex m S least tails = by_sib (has_sib m)
  where
    by_sib : (b : Bool) → Sized (Choose b (Byte (Behind rex m S)) (Behind rex m S 0)) ((if b then 1
        else 0) + disp_size m 0 + least)
    by_sib true = let h : Sized (Byte (Behind rex m S)) (1 + (disp_size m 0 + least)) =
        sib_sized rex m S least tails in
        record {
          encoding = h.encoding;
          value = h.value;
          is_encoding = h.is_encoding;
          long = omega
              (arith, h.long);
          low = λ u a p. omega (arith, h.low u a p);
        }
    by_sib false = let h : Sized (Behind rex m S 0) (disp_size m 0 + least) =
        behind_sized rex m S least tails 0 in
        record {
          encoding = h.encoding;
          value = h.value;
          is_encoding = h.is_encoding;
          long = omega
              (arith, h.long);
          low = λ u a p. omega (arith, h.low u a p);
        }

-- reading after the SIB byte
behind_exact : {A : Type 0} (rex : Rex) (m : ℕ) (S : Place × ℕ → List ℕ → A
    → Type 0) (s : (Place × ℕ) × List ℕ → Result (A × List ℕ) Stop) (least : ℕ) → ((p : Place × ℕ)
    → Sized (S p) least) → ((p : Place × ℕ) (rest : List ℕ) → AreBytes rest
    → Exact (S p) rest (s (p, rest))) → (sib : ℕ) (bytes : List ℕ) → AreBytes bytes → Exact (Behind
    rex m S sib) bytes (chunk_at (disp_size m sib) least bytes >>= λ d. s
    ((place_of rex m sib (signed_value d.0), disp_size m sib), d.1))
unfolding Behind
behind_exact rex m S s least tails each sib bytes h =
    chunk_exact (disp_size m sib)
    (λ disp. S (place_of rex m sib (signed_value disp), disp_size m sib))
    (λ d. s ((place_of rex m sib (signed_value d.0), disp_size m sib), d.1)) least
    (λ front _ _. tails (place_of rex m sib (signed_value front), disp_size m sib))
    (λ front rest _ _ are. each (place_of rex m sib (signed_value front), disp_size m sib) rest
    are) bytes h

pub operand_exact : {A : Type 0} (rex : Rex) (m : ℕ) (S : Place × ℕ → List ℕ → A
    → Type 0) (s : (Place × ℕ) × List ℕ → Result (A × List ℕ) Stop) (least : ℕ) → ((p : Place × ℕ)
    → Sized (S p) least) → ((p : Place × ℕ) (rest : List ℕ) → AreBytes rest
    → Exact (S p) rest (s (p, rest))) → (bytes : List ℕ) → AreBytes bytes → Exact (Operand rex m
    S) bytes (operand_at rex m least bytes >>= s)
unfolding operand_at sib_at Behind
operand_exact {A} rex m S s least tails each bytes h =
    let next : ℕ × List ℕ → Result ((Place × ℕ) × List ℕ) Stop =
    λ s. chunk_at (disp_size m s.0) least s.1 >>= λ d. Ok
    ((place_of rex m s.0 (signed_value d.0), disp_size m s.0), d.1) in
    let P : Result (A × List ℕ) Stop → Type 0 = Exact (Operand rex m S) bytes in
    subst P (sym (then_then (sib_at m least bytes) next s)) (by_sib (has_sib m))
  where
    tail : (sib : ℕ) (rest : List ℕ) → AreBytes rest
        → Exact (Behind rex m S sib) rest
        ((chunk_at (disp_size m sib) least rest >>= λ d. Ok
        ((place_of rex m sib (signed_value d.0), disp_size m sib), d.1)) >>= s)
    tail sib rest are = let P : Result (A × List ℕ) Stop
        → Type 0 = Exact (Behind rex m S sib) rest in
        subst P (sym (then_then (chunk_at (disp_size m sib) least rest)
        (λ d. Ok ((place_of rex m sib (signed_value d.0), disp_size m sib), d.1))
        s)) (behind_exact rex m S s least tails each sib rest are)

    by_sib : (b : Bool) → Exact (Choose b (Byte (Behind rex m S)) (Behind rex m S 0)) bytes ((if b
        then byte_at (Short (1 + (disp_size m 0 + least))) bytes
        else Ok (0, bytes)) >>= λ x. (chunk_at (disp_size m x.0) least x.1 >>= λ d. Ok
        ((place_of rex m x.0 (signed_value d.0), disp_size m x.0), d.1)) >>= s)
    by_sib true = byte_exact (Behind rex m S)
        (λ x. (chunk_at (disp_size m x.0) least x.1 >>= λ d. Ok (
          (place_of rex m x.0 (signed_value d.0), disp_size m x.0),
          d.1,
        )) >>= s) (Short (1 + (disp_size m
        0 + least))) (omega arith, sib_sized rex m S least tails)
        (λ b rest _ are. tail b rest are) bytes h
    by_sib false = tail 0 bytes h

pub operand_free : {A : Type 0} (rex : Rex) (m : ℕ) (S : Place × ℕ → List ℕ → A → Type 0)
    → ((p : Place × ℕ) → IsFree (S p)) → IsFree (Operand rex m S)
unfolding Behind
operand_free {A} rex m S each = by_sib (has_sib m)
  where
    behind : (sib : ℕ) → IsFree (Behind rex m S sib)
    behind sib = chunk_free (disp_size m sib)
        (λ disp. S (place_of rex m sib (signed_value disp), disp_size m sib))
        (λ front _ _. each (place_of rex m sib (signed_value front), disp_size m sib))

    by_sib : (b : Bool) → IsFree (Choose b (Byte (Behind rex m S)) (Behind rex m S 0))
    by_sib true = byte_free (Behind rex m S) (λ b _. behind b)
    by_sib false = behind 0

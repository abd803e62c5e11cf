-- What stands after an opcode is read exactly.
use Rattle.std.proofs.Common.{◌⊎◌, ◌≡◌, ℕ, zero, suc, ◌+◌, ◌<◌, ◌≤◌, Bool, true, false, cond, List}
use Rattle.std.proofs.Common.{[], ◌∷◌, length, Option, Some, None, Ok, refl, sym, ap, subst, ◌∙◌}
use Rattle.std.proofs.Common.{arith, inl, inr, if◌then◌else◌}
use Rattle.std.proofs.lemmas.Bool.{cases_lt}
use Rattle.erim_defs.specs.declared.grammar.Lead.{Lead}
use Rattle.erim_defs.specs.declared.grammar.Row.{Row}
use Rattle.erim_defs.specs.declared.insn.Place.{Place}
use Rattle.erim_defs.specs.declared.insn.Place.TheVariants.{Reg}
use Rattle.erim_defs.specs.Encoding.Cursor.{byte_at, chunk_at, ◌>>=◌}
use Rattle.erim_defs.specs.Encoding.Parts.{AreBytes, Byte, Choose, Nothing, Never}
use Rattle.encoding_laws.proofs.Exact.{Exact, IsFree}
use Rattle.erim_defs.specs.Encoding.Operand.{has_sib, disp_size, Operand}
use Rattle.erim_defs.specs.Encoding.Grammar.{InsnAndSizes, insn_and_sizes, Rest}
use Rattle.erim_defs.specs.Encoding.Decoding.{operand_len, stop_of, least_modrm, modrm_stop}
use Rattle.erim_defs.specs.Encoding.Decoding.{without_modrm_at, after_modrm_at, row_at}
use Rattle.erim_defs.specs.Encoding.Decoding.{modrm_follows, modrm_at, tail_at}
use Rattle.encoding_laws.proofs.PartLemmas.{Sized, Ends, IsUnion, union_ends, ends_as, sized_is}
use Rattle.encoding_laws.proofs.PartLemmas.{nothing_exact, nothing_free, nothing_sized, never_exact}
use Rattle.encoding_laws.proofs.PartLemmas.{never_free, byte_exact, byte_free, chunk_exact}
use Rattle.encoding_laws.proofs.PartLemmas.{chunk_free}
use Rattle.encoding_laws.proofs.PartLemmas.{chunk_sized}
use Rattle.encoding_laws.proofs.OperandLemmas.{operand_size, operand_exact, operand_free}
use Rattle.encoding_laws.proofs.OperandLemmas.{operand_sized}

pub rest_sized : (lead : Lead) (op m : ℕ) (row : Row) (place : Place × ℕ)
    → Sized (Rest lead op m row place) row.imm
rest_sized lead op m row place =
    sized_is (Rest lead op m row place) (row.imm + 0) row.imm (omega arith)
    (chunk_sized row.imm (λ imm. Nothing (insn_and_sizes lead op m row place imm)) 0
    (λ front _ _. nothing_sized (insn_and_sizes lead op m row place front)))

pub rest_exact : (lead : Lead) (op m : ℕ) (row : Row) (place : Place × ℕ) (bytes : List ℕ)
    → AreBytes bytes → Exact (Rest lead op m row place) bytes
    (chunk_at row.imm 0 bytes >>= λ i. Ok (insn_and_sizes lead op m row place i.0, i.1))
rest_exact lead op m row place bytes h =
    chunk_exact row.imm (λ imm. Nothing (insn_and_sizes lead op m row place imm))
    (λ i. Ok (insn_and_sizes lead op m row place i.0, i.1)) 0
    (λ front _ _. nothing_sized (insn_and_sizes lead op m row place front))
    (λ front rest _ _ _. nothing_exact (insn_and_sizes lead op m row place front) rest) bytes h

pub rest_free : (lead : Lead) (op m : ℕ) (row : Row) (place : Place × ℕ)
    → IsFree (Rest lead op m row place)
rest_free lead op m row place =
    chunk_free row.imm (λ imm. Nothing (insn_and_sizes lead op m row place imm))
    (λ front _ _. nothing_free (insn_and_sizes lead op m row place front))

-- after the row that was found
abbrev pub Found : (Row → List ℕ → InsnAndSizes → Type 0) → Option Row → List ℕ → InsnAndSizes
    → Type 0
Found F None = Never
Found F (Some row) = F row

abbrev pub OfPlain : Lead → ℕ → Row → List ℕ → InsnAndSizes → Type 0
OfPlain lead op row = Rest lead op 0 row (Reg 0, 0)

abbrev pub OfModrm : Lead → ℕ → ℕ → Row → List ℕ → InsnAndSizes → Type 0
OfModrm lead op m row = Operand lead.rex m (λ place. Rest lead op m row place)

pub plain_exact : (lead : Lead) (op : ℕ) (row : Option Row) (bytes : List ℕ) → AreBytes bytes
    → Exact (Found (OfPlain lead op) row) bytes (without_modrm_at lead op row bytes)
unfolding without_modrm_at
plain_exact lead op None bytes h = never_exact bytes
plain_exact lead op (Some row) bytes h = rest_exact lead op 0 row (Reg 0, 0) bytes h

pub plain_free : (lead : Lead) (op : ℕ) (row : Option Row) → IsFree (Found (OfPlain lead op) row)
plain_free lead op None = never_free
plain_free lead op (Some row) = rest_free lead op 0 row (Reg 0, 0)

found_exact : (lead : Lead) (op m : ℕ) (row : Option Row) (bytes : List ℕ) → AreBytes bytes
    → Exact (Found (OfModrm lead op m) row) bytes (after_modrm_at lead op m row bytes)
unfolding after_modrm_at
found_exact lead op m None bytes h = never_exact bytes
found_exact lead op m (Some row) bytes h =
    operand_exact lead.rex m (λ place. Rest lead op m row place)
    (λ p. chunk_at row.imm 0 p.1 >>= λ i. Ok (insn_and_sizes lead op m row p.0 i.0, i.1))
    row.imm
    (λ place. rest_sized lead op m row place) (λ place rest are. rest_exact lead op m row place rest
    are) bytes h

found_free : (lead : Lead) (op m : ℕ) (row : Option Row) → IsFree (Found (OfModrm lead op m) row)
found_free lead op m None = never_free
found_free lead op m (Some row) =
    operand_free lead.rex m (λ place. Rest lead op m row place)
    (λ place. rest_free lead op m row place)

-- ---- where the bytes end before ModRM

pub len_is : (m : ℕ) → operand_size m ≡ operand_len m
unfolding operand_len
len_is m = by_sib (has_sib m)
  where
    by_sib : (b : Bool) → cond b 1 0 + disp_size m 0 ≡ cond b (1 + disp_size m 0) (disp_size m 0)
    by_sib true = refl
    by_sib false = omega arith

-- a byte below n, and then what it asks for
Below : {A : Type 0} → ℕ → (ℕ → List ℕ → A → Type 0) → List ℕ → A → Type 0
Below n S [] a = ⊥
Below n S (b ∷ u) a = (b < n) × S b u a

Only : {A : Type 0} → ℕ → (ℕ → List ℕ → A → Type 0) → List ℕ → A → Type 0
Only n S [] a = ⊥
Only n S (b ∷ u) a = (b ≡ n) × S b u a

one_more : {A : Type 0} (n : ℕ) (S : ℕ → List ℕ → A → Type 0)
    → IsUnion (Below (suc n) S) (Only n S) (Below n S)
unfolding Below Only
one_more {A} n S = record { left = left; right = right; either = either }
  where
    left : (t : List ℕ) (a : A) → Only n S t a → Below (suc n) S t a
    left [] a h = absurd h
    left (b ∷ u) a h = let e : b ≡ n = h.0 in (omega arith, h.1)

    right : (t : List ℕ) (a : A) → Below n S t a → Below (suc n) S t a
    right [] a h = absurd h
    right (b ∷ u) a h = let e : b < n = h.0 in (omega arith, h.1)

    either : (t : List ℕ) (a : A) → Below (suc n) S t a → (Only n S t a) ⊎ (Below n S t a)
    either [] a h = absurd h
    either (b ∷ u) a h = let e : b < suc n = h.0 in
        elim (cases_lt b n) [ inl lt ↦ inr (lt, h.1) | inr le ↦ inl (omega arith, h.1) ]

only_ends : (lead : Lead) (op n : ℕ) (row : Option Row) (rows : ℕ → Option Row) → rows n ≡ row
    → Ends (Only n (λ m. Found (OfModrm lead op m) (rows m))) (stop_of row n)
unfolding Only stop_of
only_ends lead op n None rows e = no
  where
    no : (t : List ℕ) (a : InsnAndSizes) → Only n (λ m. Found (OfModrm lead op m) (rows m)) t a → ⊥
    no [] a h = absurd h
    no (b ∷ u) a h = let P : Option Row
        → Type 0 = λ r. Found (OfModrm lead op b) r u a in subst P (ap rows h.0 ∙ e) h.1
only_ends lead op n (Some row) rows e =
    let s : Sized (OfModrm lead op n row) (operand_size n + row.imm) =
    operand_sized lead.rex n (λ place. Rest lead op n row place) row.imm
    (λ place. rest_sized lead op n row place) in
    let P : Option Row → Type 0 = λ r. Found (OfModrm lead op n) r s.encoding s.value in (
      omega arith,
      record {
        encoding = n
            ∷ s.encoding;
        value = s.value;
        is_encoding = (refl, subst P (sym e) s.is_encoding);
        long =
            omega (arith, s.long, len_is n);
        low = low s;
      },
    )
  where
    low : Sized (OfModrm lead op n row) (operand_size n + row.imm) → (t : List ℕ) (a : InsnAndSizes)
        → Only n (λ m. Found (OfModrm lead op m) (rows m)) t a
        → 1 + (operand_len n + row.imm) ≤ length t
    low s [] a h = absurd h
    low s (b ∷ u) a h =
        let P : ℕ → Type 0 = λ m. Found (OfModrm lead op m) (rows m) u a in
        let here : Found (OfModrm lead op n) (rows n) u a = subst P h.0 h.1 in
        let Q : Option Row → Type 0 = λ r. Found (OfModrm lead op n) r u a in
        let k : operand_size n + row.imm ≤ length u = s.low u a (subst Q e here) in
        omega (arith, len_is n)

below_ends : (lead : Lead) (op : ℕ) (rows : ℕ → Option Row) (n : ℕ)
    → Ends (Below n (λ m. Found (OfModrm lead op m) (rows m))) (least_modrm rows n)
unfolding Below least_modrm
below_ends lead op rows zero = no
  where
    no : (t : List ℕ) (a : InsnAndSizes) → Below 0 (λ m. Found (OfModrm lead op m) (rows m)) t a → ⊥
    no [] a h = h
    no (b ∷ u) a h = let e : b < 0 = h.0 in absurd (omega arith)
below_ends lead op rows (suc n) =
    union_ends (Below (suc n) (λ m. Found (OfModrm lead op m) (rows m)))
    (Only n (λ m. Found (OfModrm lead op m) (rows m)))
    (Below n (λ m. Found (OfModrm lead op m) (rows m))) (stop_of (rows n) n)
    (least_modrm rows n)
    (one_more n (λ m. Found (OfModrm lead op m) (rows m))) (only_ends lead op n (rows n) rows refl)
    (below_ends lead op rows n)

unfoldable pub Tail : Lead → Bool → ℕ → List ℕ → InsnAndSizes → Type 0
Tail lead escape op = Choose (modrm_follows escape op)
    (Byte (λ m. Found (OfModrm lead op m) (row_at lead escape op m)))
    (Found (OfPlain lead op) (row_at lead escape op 0))

modrm_ends : (lead : Lead) (escape : Bool) (op : ℕ)
    → Ends (Byte (λ m. Found (OfModrm lead op m) (row_at lead escape op m)))
    (modrm_stop lead escape op)
unfolding Below modrm_stop
modrm_ends lead escape op =
    ends_as (Below 256 S) (Byte S) (least_modrm (row_at lead escape op) 256) to back
    (below_ends lead op (row_at lead escape op) 256)
  where
    S : ℕ → List ℕ → InsnAndSizes → Type 0
    S m = Found (OfModrm lead op m) (row_at lead escape op m)

    to : (t : List ℕ) (a : InsnAndSizes) → Below 256 S t a → Byte S t a
    to [] a h = h
    to (b ∷ u) a h = h

    back : (t : List ℕ) (a : InsnAndSizes) → Byte S t a → Below 256 S t a
    back [] a h = h
    back (b ∷ u) a h = h

pub tail_exact : (lead : Lead) (escape : Bool) (op : ℕ) (bytes : List ℕ) → AreBytes bytes
    → Exact (Tail lead escape op) bytes (tail_at lead escape op bytes)
unfolding Tail tail_at modrm_at
tail_exact lead escape op bytes h = by_asks (modrm_follows escape op)
  where
    by_asks : (b : Bool) → Exact
        (Choose b (Byte (λ m. Found (OfModrm lead op m) (row_at lead escape op m)))
        (Found (OfPlain lead op) (row_at lead escape op 0))) bytes (if b
        then (byte_at (modrm_stop lead escape op) bytes >>= λ m. after_modrm_at lead op m.0
        (row_at lead escape op m.0) m.1) else without_modrm_at lead op (row_at lead escape op
        0) bytes)
    by_asks true = byte_exact (λ m. Found (OfModrm lead op m) (row_at lead escape op m))
        (λ m. after_modrm_at lead op m.0 (row_at lead escape op m.0) m.1)
        (modrm_stop lead escape op) (modrm_ends lead escape op)
        (λ m rest _ are. found_exact lead op m (row_at lead escape op m) rest are) bytes h
    by_asks false = plain_exact lead op (row_at lead escape op 0) bytes h

pub tail_free : (lead : Lead) (escape : Bool) (op : ℕ) → IsFree (Tail lead escape op)
unfolding Tail
tail_free lead escape op = by_asks (modrm_follows escape op)
  where
    by_asks : (b : Bool) → IsFree
        (Choose b (Byte (λ m. Found (OfModrm lead op m) (row_at lead escape op m)))
        (Found (OfPlain lead op) (row_at lead escape op 0)))
    by_asks true = byte_free (λ m. Found (OfModrm lead op m) (row_at lead escape op m))
        (λ m _. found_free lead op m (row_at lead escape op m))
    by_asks false = plain_free lead op (row_at lead escape op 0)

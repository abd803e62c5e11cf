-- Whole encodings, by their parts and by their bytes.
use Rattle.std.proofs.Common.{get_or, ◌≡◌, ℕ, ◌+◌, ◌-◌, ◌<◌, ◌≤◌, ◌==◌, ◌&&◌, ◌||◌, Bool, true}
use Rattle.std.proofs.Common.{false, List, [], ◌∷◌, ◌++◌, length, take, drop, Option, Some, None}
use Rattle.std.proofs.Common.{Result, Ok, Err, refl, sym, ap, subst, ◌∙◌, arith, inl, inr}
use Rattle.std.proofs.Common.{append_assoc, ◌⊎◌}
use Rattle.std.specs.Prelude.{IfSome}
use Rattle.std.proofs.lemmas.Bool.{eqb-true}
use Rattle.std.proofs.lemmas.List.{length-append, append-nil, take_at, take-append-drop}
use Rattle.std.proofs.lemmas.List.{length-take-le}
use Rattle.erim_defs.proofs.ByteLemmas.{bytes_of}
use Rattle.erim_defs.specs.declared.grammar.Lead.{Lead}
use Rattle.erim_defs.specs.declared.insn.Decoded.{Decoded}
use Rattle.erim_defs.specs.declared.insn.Decoded.TheVariants as outcomes
use Rattle.erim_defs.specs.declared.insn.Insn.{Insn}
use Rattle.erim_defs.specs.declared.grammar.Stop.{Stop}
use Rattle.erim_defs.specs.declared.grammar.Stop.TheVariants.{Undefined, Short}
use Rattle.erim_defs.specs.declared.grammar.Rex.{Rex}
use Rattle.erim_defs.specs.declared.grammar.Row.{Row}
use Rattle.erim_defs.specs.declared.insn.Place.{Place}
use Rattle.erim_defs.specs.declared.insn.Place.TheVariants.{Reg}
use Rattle.erim_defs.specs.Encoding.Parts.{AreBytes, Byte, Chunk, Choose, When, Nothing, Never}
use Rattle.erim_defs.specs.Encoding.Parts.{signed_value}
use Rattle.encoding_laws.proofs.Exact.{Exact, IsFree, Meets}
use Rattle.erim_defs.specs.Encoding.Operand.{Operand, has_sib, disp_size, place_of}
use Rattle.erim_defs.specs.Encoding.OpcodeTable.{Line, has_modrm, ask_fits}
use Rattle.erim_defs.specs.Encoding.Grammar.{at_line, InsnAndSizes, insn_and_sizes, every, has_byte}
use Rattle.erim_defs.specs.Encoding.Grammar.{f3_bytes, rex_bytes, if_f3, if_rex, HasFormat, Encodes}
use Rattle.erim_defs.specs.Encoding.Grammar.{Body, Rest, After, Opcode, Escaped, admits, is_prefix}
use Rattle.erim_defs.specs.Encoding.Grammar.{is_rex, prefix_lead, with_f3, with_rex}
use Rattle.erim_defs.specs.Encoding.Decoding.{front_at}
use Rattle.erim_defs.specs.Encoding.Decoding.{IsWindow}
use Rattle.erim_defs.specs.Encoding.Decodes.{PrefixFree, BeginsEncoding, MeetsNone, Decodes}
use Rattle.erim_defs.specs.Encoding.Decodes.{DecodesEncodings}
use Rattle.erim_defs.proofs.ByteLemmas.{bytes_append}
use Rattle.encoding_laws.proofs.PartLemmas.{exact_as, free_as}
use Rattle.encoding_laws.proofs.LineLemmas.{and_true, both_true}
use Rattle.encoding_laws.proofs.FrontLemmas.{RexPart, F3Part, Front, front_exact, front_free}
use Rattle.encoding_laws.proofs.FrontLemmas.{choose_case, maybe_left, maybe_right, body_leads}
use Rattle.encoding_laws.proofs.FrontLemmas.{body_empty, or_false, rex_first, f3_first, rex_empty}
use Rattle.encoding_laws.proofs.FrontLemmas.{f3_empty}

-- ---- REX and F3

rex_to : (lead : Lead) (rex : Option ℕ) (body : List ℕ) (a : InsnAndSizes)
    → AreBytes (rex_bytes rex ++ body) → IfSome rex (λ b. is_rex b ≡ true)
    → Body (if_rex rex lead) body a → RexPart lead (rex_bytes rex ++ body) a
unfolding RexPart
rex_to lead None [] a f r h = absurd (body_empty lead a h)
rex_to lead None (b ∷ u) a f r h = let k = body_leads lead b u a h in
    maybe_right is_rex (λ b. Body (with_rex lead b)) (Body lead) b u a k.0
    (or_false (b == 0xF3) (is_rex b) (or_false (is_prefix b) (b == 0xF3 || is_rex b) k.1).1).1 h
rex_to lead (Some b) body a f r h =
    maybe_left is_rex (λ b. Body (with_rex lead b)) (Body lead) b body a f.0 r h

record RexParts (lead : Lead) (t : List ℕ) (a : InsnAndSizes) : Type 0 where
  rex : Option ℕ
  body : List ℕ
  parts : t ≡ rex_bytes rex ++ body
  is : IfSome rex (λ b. is_rex b ≡ true)
  row : Body (if_rex rex lead) body a

rex_back : (lead : Lead) (t : List ℕ) (a : InsnAndSizes) → RexPart lead t a → RexParts lead t a
unfolding RexPart
rex_back lead [] a h = absurd h
rex_back lead (b ∷ u) a h =
    elim (choose_case (is_rex b) (Body (with_rex lead b)) (λ v x. Body lead (b ∷ v) x) u a h.1) [
      | inl k ↦ record { rex = Some b; body = u; parts = refl; is = k.0; row = k.1 }
      | inr k ↦ record { rex = None; body = b ∷ u; parts = refl; is = tt; row = k.1 }
    ]

f3_to : (lead : Lead) (f3 : Bool) (t : List ℕ) (a : InsnAndSizes) → RexPart (if_f3 f3 lead) t a
    → F3Part lead (f3_bytes f3 ++ t) a
unfolding F3Part
f3_to lead false [] a h = absurd (rex_empty lead a h)
f3_to lead false (b ∷ u) a h = let k = rex_first lead b u a h in
    maybe_right (λ b. b == 0xF3) (λ b. RexPart (with_f3 lead)) (RexPart lead) b u a k.0 k.2 h
f3_to lead true t a h = maybe_left (λ b. b == 0xF3) (λ b. RexPart (with_f3 lead)) (RexPart lead)
    0xF3 t a (omega arith) refl h

record F3Parts (lead : Lead) (t : List ℕ) (a : InsnAndSizes) : Type 0 where
  f3 : Bool
  rest : List ℕ
  parts : t ≡ f3_bytes f3 ++ rest
  row : RexPart (if_f3 f3 lead) rest a

f3_back : (lead : Lead) (t : List ℕ) (a : InsnAndSizes) → F3Part lead t a → F3Parts lead t a
unfolding F3Part
f3_back lead [] a h = absurd h
f3_back lead (b ∷ u) a h =
    elim (choose_case (b == 0xF3) (RexPart (with_f3 lead)) (λ v x. RexPart lead
    (b ∷ v) x) u a h.1) [
      | inl k ↦ record {
        f3 = true;
        rest = u;
        parts = ap (λ n. n ∷ u) (eqb-true b 0xF3 k.0);
        row = k.1;
      }
      | inr k ↦ record { f3 = false; rest = b ∷ u; parts = refl; row = k.1 }
    ]

-- ---- prefixes

or_assoc : (a b c : Bool) → (a || b || c) ≡ (a || (b || c))
or_assoc true b c = refl
or_assoc false b c = refl

front_from : (ps : List ℕ) (n : ℕ) (l s : Bool) (t : List ℕ) (a : InsnAndSizes) → AreBytes (ps ++ t)
    → every is_prefix ps ≡ true
    → F3Part (prefix_lead (n + length ps) (l || has_byte 0xF0 ps) (s || has_byte 0x66 ps)) t a
    → Front n l s (ps ++ t) a
unfolding Front
front_from [] n l s [] a f e h =
    absurd (f3_empty (prefix_lead (n + 0) (l || false) (s || false)) a h)
front_from [] n l s (b ∷ u) a f e h =
    let P : ℕ → Type 0 = λ k. F3Part (prefix_lead k l s) (b ∷ u) a in
    let h' : F3Part (prefix_lead (n + 0) l s) (b ∷ u) a = or_none l s h in
    let k = f3_first (prefix_lead (n + 0) (l || false) (s || false)) b u a h in
    let q : n + 0 ≡ n = omega arith in
    (k.0, inr (k.1, subst P q h'))
  where
    or_none : (l s : Bool) → F3Part (prefix_lead (n + 0) (l || false) (s || false)) (b ∷ u) a
        → F3Part (prefix_lead (n + 0) l s) (b ∷ u) a
    or_none true true h = h
    or_none true false h = h
    or_none false true h = h
    or_none false false h = h
front_from (b ∷ ps) n l s t a f e h =
    let k = and_true (is_prefix b) (every is_prefix ps) e in
    let P : ℕ → Type 0 = λ m. F3Part (prefix_lead m ((l || b == 0xF0)
    || has_byte 0xF0 ps) ((s || b == 0x66) || has_byte 0x66 ps)) t a in
    let Q : Bool → Type 0 = λ x. F3Part (prefix_lead (n + length (b ∷ ps)) x (s
    || (b == 0x66 || has_byte 0x66 ps))) t a in
    let R : Bool → Type 0 = λ x. F3Part (prefix_lead (n + length (b ∷ ps)) ((l || b == 0xF0)
    || has_byte 0xF0 ps) x) t a in
    let one = subst Q (sym (or_assoc l (b == 0xF0) (has_byte 0xF0 ps))) h in
    let two = subst R (sym (or_assoc s (b == 0x66) (has_byte 0x66 ps))) one in
    let q : n + length (b ∷ ps) ≡ n + 1 + length ps = omega arith in (
      f.0,
      inl (
        k.0,
        front_from ps (n + 1) (l || b == 0xF0) (s
            || b == 0x66) t a f.1 k.1 (subst P q two),
      ),
    )

record FrontParts (n : ℕ) (l s : Bool) (t : List ℕ) (a : InsnAndSizes) : Type 0 where
  prefixes : List ℕ
  rest : List ℕ
  parts : t ≡ prefixes ++ rest
  are : every is_prefix prefixes ≡ true
  row : F3Part (prefix_lead (n + length prefixes) (l || has_byte 0xF0 prefixes) (s
      || has_byte 0x66 prefixes)) rest a

front_parts : (n : ℕ) (l s : Bool) (t : List ℕ) (a : InsnAndSizes) → Front n l s t a
    → FrontParts n l s t a
unfolding Front
front_parts n l s [] a h = absurd h
front_parts n l s (b ∷ u) a h =
    by_prefix h.1 (front_parts (n + 1) (l || b == 0xF0) (s || b == 0x66) u a)
  where
    or_none : (l s : Bool) → F3Part (prefix_lead (n + 0) l s) (b ∷ u) a
        → F3Part (prefix_lead (n + 0) (l || false) (s || false)) (b ∷ u) a
    or_none true true h = h
    or_none true false h = h
    or_none false true h = h
    or_none false false h = h

    by_prefix : ((is_prefix b ≡ true) × Front (n + 1) (l || b == 0xF0) (s || b == 0x66) u a)
        ⊎ ((is_prefix b ≡ false) × F3Part (prefix_lead n l s) (b ∷ u) a)
        → (Front (n + 1) (l || b == 0xF0) (s || b == 0x66) u a
        → FrontParts (n + 1) (l || b == 0xF0) (s || b == 0x66) u a) → FrontParts n l s (b ∷ u) a
    by_prefix (inl k) rec =
        let r = rec k.1 in
        let P : ℕ → Type 0 = λ m. F3Part (prefix_lead m ((l || b == 0xF0)
        || has_byte 0xF0 r.prefixes) ((s || b == 0x66) || has_byte 0x66 r.prefixes)) r.rest a in
        let Q : Bool → Type 0 = λ x. F3Part
        (prefix_lead (n + length (b ∷ r.prefixes)) x ((s || b == 0x66)
        || has_byte 0x66 r.prefixes)) r.rest a in
        let R : Bool → Type 0 = λ x. F3Part (prefix_lead (n + length (b ∷ r.prefixes)) (l
        || (b == 0xF0 || has_byte 0xF0 r.prefixes)) x) r.rest a in
        let q : n + 1 + length r.prefixes ≡ n + length (b ∷ r.prefixes) = omega arith in
        let one = subst P q r.row in
        let two = subst Q (or_assoc l (b == 0xF0) (has_byte 0xF0 r.prefixes)) one in
        let three = subst R (or_assoc s (b == 0x66) (has_byte 0x66 r.prefixes)) two in
        record {
          prefixes = b ∷ r.prefixes;
          rest = r.rest;
          parts = ap (λ (x : List ℕ). b
              ∷ x) r.parts;
          are = both_true (is_prefix b) (every is_prefix
              r.prefixes) k.0 r.are;
          row = three;
        }
    by_prefix (inr k) rec =
        let P : ℕ → Type 0 = λ m. F3Part (prefix_lead m l s) (b ∷ u) a in
        let q : n ≡ n + 0 = omega arith in
        record {
          prefixes = [];
          rest = b
              ∷ u;
          parts = refl;
          are = refl;
          row = or_none l s (subst P q k.1);
        }

-- ---- the whole

-- all encodings of a part are bytes
record OfBytes {A : Type 0} (R : List ℕ → A → Type 0) : Type 0 where
  are : (t : List ℕ) (a : A) → R t a → AreBytes t

byte_bytes : {A : Type 0} (S : ℕ → List ℕ → A → Type 0) → ((b : ℕ) → OfBytes (S b))
    → OfBytes (Byte S)
byte_bytes {A} S each = record { are = are }
  where
    are : (t : List ℕ) (a : A) → Byte S t a → AreBytes t
    are [] a h = tt
    are (b ∷ u) a h = (h.0, (each b).are u a h.1)

chunk_bytes : {A : Type 0} (n : ℕ) (S : List ℕ → List ℕ → A → Type 0)
    → ((front : List ℕ) → OfBytes (S front)) → OfBytes (Chunk n S)
chunk_bytes n S each = record {
  are = λ t a h. let P : List ℕ
      → Type 0 = AreBytes in subst P (sym h.parts)
      (bytes_append h.front h.back h.bytes ((each h.front).are h.back a h.then));
}

choose_bytes : {A : Type 0} (b : Bool) (R S : List ℕ → A → Type 0) → OfBytes R → OfBytes S
    → OfBytes (Choose b R S)
choose_bytes true R S h k = h
choose_bytes false R S h k = k

nothing_bytes : {A : Type 0} (v : A) → OfBytes (Nothing v)
nothing_bytes v = record {
  are = λ t a h. let P : List ℕ
      → Type 0 = AreBytes in subst P (sym h.0) tt;
}

never_bytes : {A : Type 0} → OfBytes {A = A} Never
never_bytes = record { are = λ t a h. absurd h }

rest_bytes : (lead : Lead) (op m : ℕ) (row : Row) (place : Place × ℕ)
    → OfBytes (Rest lead op m row place)
rest_bytes lead op m row place =
    chunk_bytes row.imm (λ imm. Nothing (insn_and_sizes lead op m row place imm))
    (λ imm. nothing_bytes (insn_and_sizes lead op m row place imm))

operand_bytes : (rex : Rex) (m : ℕ) (S : Place × ℕ → List ℕ → InsnAndSizes → Type 0)
    → ((p : Place × ℕ) → OfBytes (S p)) → OfBytes (Operand rex m S)
operand_bytes rex m S each =
    choose_bytes (has_sib m) (Byte behind) (behind 0) (byte_bytes behind behind_bytes)
    (behind_bytes 0)
  where
    behind : ℕ → List ℕ → InsnAndSizes → Type 0
    behind sib = Chunk (disp_size m sib)
        (λ disp. S (place_of rex m sib (signed_value disp), disp_size m sib))

    behind_bytes : (sib : ℕ) → OfBytes (behind sib)
    behind_bytes sib = chunk_bytes (disp_size m sib)
        (λ disp. S (place_of rex m sib (signed_value disp), disp_size m sib))
        (λ disp. each (place_of rex m sib (signed_value disp), disp_size m sib))

after_bytes : (line : Line) (lead : Lead) (op : ℕ) → OfBytes (After line lead op)
after_bytes line lead op =
    choose_bytes (has_modrm line.ask)
    (Byte (λ m. When (ask_fits line.ask m
    && admits lead line.row m) (Operand lead.rex m
    (λ place. Rest lead op m line.row
    place)))) (When (admits lead line.row 0) (Rest lead op 0 line.row (Reg 0, 0)))
    (byte_bytes (λ m. When (ask_fits line.ask m
    && admits lead line.row m) (Operand lead.rex m (λ place. Rest lead op m line.row place)))
    (λ m. choose_bytes (ask_fits line.ask m
    && admits lead line.row m) (Operand lead.rex m
    (λ place. Rest lead op m line.row place)) Never (operand_bytes lead.rex m
    (λ place. Rest lead op m line.row place)
    (λ place. rest_bytes lead op m line.row place)) never_bytes))
    (choose_bytes (admits lead line.row 0) (Rest lead op 0 line.row (Reg 0, 0)) Never
    (rest_bytes lead op 0 line.row (Reg 0, 0)) never_bytes)

opcode_bytes : (line : Line) (lead : Lead) → OfBytes (Opcode line lead)
opcode_bytes line lead =
    byte_bytes (λ op. When (at_line line lead op) (After line lead op))
    (λ op. choose_bytes (at_line line lead op) (After line lead op) Never (after_bytes line lead op)
    never_bytes)

body_bytes : (lead : Lead) (t : List ℕ) (a : InsnAndSizes) → Body lead t a → AreBytes t
body_bytes lead t a h = (escaped h.0.escape h.0).are t a h.2
  where
    escaped : (e : Bool) (line : Line) → OfBytes (Escaped e (Opcode line lead))
    escaped true line = byte_bytes (λ b. When (b == 0x0F) (Opcode line lead))
        (λ b. choose_bytes (b == 0x0F) (Opcode line lead) Never (opcode_bytes line lead)
        never_bytes)
    escaped false line = opcode_bytes line lead

rex_part_bytes : (lead : Lead) (t : List ℕ) (a : InsnAndSizes) → RexPart lead t a → AreBytes t
unfolding RexPart
rex_part_bytes lead [] a h = tt
rex_part_bytes lead (b ∷ u) a h =
    elim (choose_case (is_rex b) (Body (with_rex lead b)) (λ v x. Body lead (b ∷ v) x) u a h.1) [
      | inl k ↦ (h.0, body_bytes (with_rex lead b) u a k.1)
      | inr k ↦ body_bytes lead (b ∷ u) a k.1
    ]

f3_part_bytes : (lead : Lead) (t : List ℕ) (a : InsnAndSizes) → F3Part lead t a → AreBytes t
unfolding F3Part
f3_part_bytes lead [] a h = tt
f3_part_bytes lead (b ∷ u) a h =
    elim (choose_case (b == 0xF3) (RexPart (with_f3 lead)) (λ v x. RexPart lead
    (b ∷ v) x) u a h.1) [
      | inl k ↦ (h.0, rex_part_bytes (with_f3 lead) u a k.1)
      | inr k ↦ rex_part_bytes lead (b ∷ u) a k.1
    ]

front_bytes : (n : ℕ) (l s : Bool) (t : List ℕ) (a : InsnAndSizes) → Front n l s t a → AreBytes t
unfolding Front
front_bytes n l s [] a h = tt
front_bytes n l s (b ∷ u) a h = elim h.1 [
  | inl k ↦ (h.0, front_bytes (n + 1) (l || b == 0xF0) (s || b == 0x66) u a k.1)
  | inr k ↦ f3_part_bytes (prefix_lead n l s) (b ∷ u) a k.1
]

format_to : (t : List ℕ) (a : InsnAndSizes) → HasFormat t a → Front 0 false false t a
format_to t a w =
    let P : List ℕ → Type 0 = λ x. Front 0 false false x a in
    let B : List ℕ → Type 0 = AreBytes in
    let all = subst B w.parts w.fits in
    let rex = rex_to (if_f3 w.f3 (prefix_lead (length w.prefixes) (has_byte 0xF0 w.prefixes)
    (has_byte 0x66 w.prefixes))) w.rex w.body a (bytes_back (f3_bytes w.f3) (rex_bytes w.rex
    ++ w.body) (bytes_back w.prefixes (f3_bytes w.f3 ++ (rex_bytes w.rex ++ w.body))
    all)) w.are_rex w.line in
    let f3 = f3_to (prefix_lead (length w.prefixes) (has_byte 0xF0 w.prefixes)
    (has_byte 0x66 w.prefixes)) w.f3 (rex_bytes w.rex ++ w.body) a rex in
    let Q : ℕ → Type 0 = λ m. F3Part
    (prefix_lead m (has_byte 0xF0 w.prefixes) (has_byte 0x66 w.prefixes)) (f3_bytes w.f3
    ++ (rex_bytes w.rex ++ w.body)) a in
    let q : length w.prefixes ≡ 0 + length w.prefixes = omega arith in
    subst P (sym w.parts) (front_from w.prefixes 0 false false (f3_bytes w.f3
    ++ (rex_bytes w.rex ++ w.body)) a all w.are_prefixes (subst Q q f3))
  where
    bytes_back : (s t : List ℕ) → AreBytes (s ++ t) → AreBytes t
    bytes_back [] t h = h
    bytes_back (b ∷ s) t h = bytes_back s t h.1

format_back : (t : List ℕ) (a : InsnAndSizes) → Front 0 false false t a → HasFormat t a
format_back t a h =
    let p = front_parts 0 false false t a h in
    let Q : ℕ → Type 0 = λ m. F3Part
    (prefix_lead m (has_byte 0xF0 p.prefixes) (has_byte 0x66 p.prefixes)) p.rest a in
    let q : 0 + length p.prefixes ≡ length p.prefixes = omega arith in
    let f = f3_back (prefix_lead (length p.prefixes) (has_byte 0xF0 p.prefixes)
    (has_byte 0x66 p.prefixes)) p.rest a (subst Q q p.row) in
    let r = rex_back (if_f3 f.f3 (prefix_lead (length p.prefixes) (has_byte 0xF0 p.prefixes)
    (has_byte 0x66 p.prefixes))) f.rest a f.row in
    record {
      prefixes = p.prefixes;
      f3 = f.f3;
      rex = r.rex;
      body = r.body;
      parts = p.parts ∙ ap (λ (x : List ℕ). p.prefixes ++ x) (f.parts
          ∙ ap (λ (x : List ℕ). f3_bytes f.f3 ++ x) r.parts);
      fits = front_bytes 0 false false t a h;
      are_prefixes = p.are;
      are_rex = r.is;
      line = r.row;
    }

pub format_exact : (bytes : List ℕ) → AreBytes bytes
    → Exact HasFormat bytes (front_at 0 false false bytes)
format_exact bytes h = exact_as (Front 0 false false) HasFormat format_back format_to bytes
    (front_at 0 false false bytes) (front_exact 0 false false bytes h)

pub format_free : IsFree HasFormat
format_free = free_as (Front 0 false false) HasFormat format_to (front_free 0 false false)

pub prefix_free : PrefixFree
prefix_free s t i j m n x y p q e =
    let k = format_free.one s t (i, m, p.disp, p.imm) (j, n, q.disp, q.imm) x y p.format q.format
    e in
    (k.0, ap (λ (z : InsnAndSizes). z.0) k.1, ap (λ (z : InsnAndSizes). z.1) k.1)

-- ---- at most 15 bytes

pub found_ok : (bytes window rest : List ℕ) (a : InsnAndSizes) → IsWindow bytes window
    → AreBytes window → front_at 0 false false window ≡ Ok (a, rest)
    → (length rest ≤ length window) × (length window - length rest ≤ length bytes)
    × Encodes (take (length window - length rest) bytes) a.0 a.1
found_ok bytes window rest a w fits e =
    let P : Result (InsnAndSizes × List ℕ) Stop → Type 0 = Exact HasFormat window in
    let b = subst P e (format_exact window fits) in
    let size : length window ≡ length b.encoding + length rest = ap length b.parts
    ∙ length-append b.encoding rest in
    let long = w.long in
    let all : length bytes ≡ length window + length w.more = ap length w.parts
    ∙ length-append window w.more in
    let front : bytes ≡ b.encoding ++ (rest ++ w.more) =
    w.parts ∙ ap (λ (x : List ℕ). x ++ w.more) b.parts ∙ append_assoc b.encoding rest w.more in
    let len : length b.encoding ≡ length window - length rest = omega arith in
    let is : take (length window - length rest) bytes ≡ b.encoding =
    ap (take (length window - length rest)) front
    ∙ take_at b.encoding (rest ++ w.more) (length window - length rest) len in
    let Q : List ℕ → Type 0 = λ t. Encodes t a.0 a.1 in (
      omega arith,
      omega arith,
      subst Q (sym is)
          (record { disp = a.2; imm = a.3; format = b.is_encoding; long = omega arith }),
    )

pub found_short : (bytes window : List ℕ) (n : ℕ) → IsWindow bytes window → AreBytes window
    → front_at 0 false false window ≡ Err (Short n) → length window + n ≤ 15 → BeginsEncoding bytes
found_short bytes window n w fits e le =
    let P : Result (InsnAndSizes × List ℕ) Stop → Type 0 = Exact HasFormat window in
    let h = subst P e (format_exact window fits) in
    let more = h.more in
    let is : bytes ≡ window = w.parts ∙ ap (λ (x : List ℕ). window ++ x) (w.all (omega arith))
    ∙ append-nil window in
    let Q : List ℕ → Type 0 = λ t. HasFormat (t ++ h.tail) h.value in
    let size : length (bytes ++ h.tail) ≡ length window + n = length-append bytes h.tail
    ∙ ap (λ (x : List ℕ). length x + length h.tail) is ∙ ap (λ k. length window + k) h.long in
    let long = h.long in
    record {
      tail = h.tail;
      insn = h.value.0;
      skip = h.value.1;
      encodes = record {
        disp = h.value.2;
        imm = h.value.3;
        format = subst Q (sym is)
            h.is_encoding;
        long = omega arith;
      };
      more = omega arith;
    }

window_meets : (bytes window encoding x y : List ℕ) (insn : Insn) (skip : ℕ) → IsWindow bytes window
    → (s : Encodes encoding insn skip) → bytes ++ x ≡ encoding ++ y
    → Meets HasFormat window encoding (insn, skip, s.disp, s.imm)
window_meets bytes window encoding x y insn skip w s e =
    record {
      is_encoding = s.format;
      after = w.more
          ++ x;
      rest = y;
      same = sym (append_assoc window w.more x)
          ∙ ap (λ (z : List ℕ). z ++ x) (sym w.parts) ∙ e;
    }

pub found_long : (bytes window : List ℕ) (n : ℕ) → IsWindow bytes window → AreBytes window
    → front_at 0 false false window ≡ Err (Short n) → 15 < length window + n → MeetsNone bytes
found_long bytes window n w fits e lt = λ encoding insn skip x y s same.
    let P : Result (InsnAndSizes × List ℕ) Stop → Type 0 = Exact HasFormat window in
    let h = subst P e (format_exact window fits) in
    let k = h.least encoding (insn, skip, s.disp, s.imm)
    (window_meets bytes window encoding x y insn skip w s same) in
    let long = s.long in
    absurd (omega arith)

pub found_none : (bytes window : List ℕ) → IsWindow bytes window → AreBytes window
    → front_at 0 false false window ≡ Err Undefined → MeetsNone bytes
found_none bytes window w fits e = λ encoding insn skip x y s same.
    let P : Result (InsnAndSizes × List ℕ) Stop → Type 0 = Exact HasFormat window in
    let h = subst P e (format_exact window fits) in
    h encoding (insn, skip, s.disp, s.imm) (window_meets bytes window encoding x y insn skip w s
    same)

pub window_bytes : (bytes window : List ℕ) → IsWindow bytes window
    → ((i : ℕ) → get_or bytes i 0 < 256) → AreBytes window
window_bytes bytes window w h = let P : List ℕ
    → Type 0 = AreBytes in front window w.more (subst P w.parts (bytes_of bytes h))
  where
    front : (s t : List ℕ) → AreBytes (s ++ t) → AreBytes s
    front [] t h = tt
    front (b ∷ s) t h = (h.0, front s t h.1)

pub window_take : (bytes : List ℕ) → 15 < length bytes → IsWindow bytes (take 15 bytes)
window_take bytes lt = let l : length (take 15 bytes) ≡ 15 =
    length-take-le 15 bytes (omega arith) in
    record {
      more = drop 15 bytes;
      parts = sym (take-append-drop 15 bytes);
      long = omega arith;
      all = λ h. absurd (omega arith);
    }

pub window_all : (bytes : List ℕ) → length bytes ≤ 15 → IsWindow bytes bytes
window_all bytes le = record {
  more = [];
  parts = sym (append-nil bytes);
  long = le;
  all = λ h.
      refl;
}

pub decodes_again : (bytes : List ℕ) (result : Decoded) → Decodes bytes result
    → DecodesEncodings bytes result
decodes_again bytes (outcomes.Insn i len k) h = λ encoding rest insn skip s e.
    let one = prefix_free (take len bytes) encoding i insn k skip (drop len bytes) rest h.1 s
    (take-append-drop len bytes ∙ e) in
    let le : len ≤ length bytes = h.0 in
    let l : len ≡ length encoding = sym (length-take-le len bytes le) ∙ ap length one.0 in
    let f : Insn → ℕ → ℕ → Decoded = λ a b c. outcomes.Insn a b c in
    ap (λ a. f a len k) one.1 ∙ ap (λ b. f insn b k) l ∙ ap (λ c. f insn (length encoding) c) one.2
decodes_again bytes outcomes.Short h = λ encoding rest insn skip s e.
    let all : (bytes ++ h.tail) ++ [] ≡ encoding ++ (rest ++ h.tail) = append-nil (bytes ++ h.tail)
    ∙ ap (λ (x : List ℕ). x ++ h.tail) e ∙ append_assoc encoding rest h.tail in
    let one = prefix_free (bytes ++ h.tail) encoding h.insn insn h.skip skip [] (rest
    ++ h.tail) h.encodes s all in
    let more = h.more in
    absurd (omega (
      arith,
      ap length one.0,
      length-append bytes h.tail,
      ap length e,
      length-append
          encoding rest,
    ))
decodes_again bytes outcomes.Undefined h =
    λ encoding rest insn skip s e. absurd (h encoding insn skip [] rest s (append-nil bytes ∙ e))

-- The sizes of an instruction's parts fit into its bytes, and the layout of what is read is right.
use Rattle.std.proofs.Common.{◌≡◌, ℕ, ◌+◌, ◌-◌, ◌≤◌, ◌==◌, ◌&&◌, nat_le, Bool, true, false, List}
use Rattle.std.proofs.Common.{[], ◌∷◌, ◌++◌, length, Result, Ok, Err, refl, ap, subst, ◌∙◌, arith}
use Rattle.std.proofs.Common.{append_assoc}
use Rattle.std.proofs.lemmas.Bool.{leb-true, leb-false}
use Rattle.std.proofs.lemmas.List.{length-append, append-nil}
use Rattle.erim_defs.specs.declared.grammar.Lead.{Lead}
use Rattle.erim_defs.specs.declared.grammar.Row.{Row}
use Rattle.erim_defs.specs.declared.grammar.Stop.{Stop}
use Rattle.erim_defs.specs.declared.grammar.Stop.TheVariants.{Undefined, Short}
use Rattle.erim_defs.specs.declared.insn.Decoded.TheVariants as outcomes
use Rattle.erim_defs.specs.declared.insn.Insn.{Insn}
use Rattle.erim_defs.specs.declared.insn.Place.{Place}
use Rattle.erim_defs.specs.declared.insn.Place.TheVariants.{Reg}
use Rattle.erim_defs.specs.Encoding.Parts.{AreBytes, Byte, Chunk, Choose, When, Never, signed_value}
use Rattle.erim_defs.specs.Encoding.Operand.{Operand, has_sib, disp_size, place_of}
use Rattle.erim_defs.specs.Encoding.OpcodeTable.{Line, has_modrm, ask_fits}
use Rattle.erim_defs.specs.Encoding.Grammar.{at_line, InsnAndSizes, HasFormat, Encodes, f3_bytes}
use Rattle.erim_defs.specs.Encoding.Grammar.{rex_bytes, lead_of, Body, Rest, After, Opcode, Escaped}
use Rattle.erim_defs.specs.Encoding.Grammar.{admits}
use Rattle.erim_defs.specs.Encoding.Decoding.{front_at}
use Rattle.encoding_laws.proofs.Exact.{Exact}
use Rattle.erim_defs.specs.Encoding.Decoding.{IsWindow}
use Rattle.encoding_laws.proofs.EncodingLemmas.{format_exact, found_short, found_long, found_none}
use Rattle.encoding_laws.proofs.EncodingLemmas.{decodes_again}

-- ---- the sizes of the parts

-- each encoding of the part is longer than the sizes that it says, by n
record Roomy (n : ℕ) (R : List ℕ → InsnAndSizes → Type 0) : Type 0 where
  is : (t : List ℕ) (a : InsnAndSizes) → R t a → n + (a.2 + a.3) ≤ length t

byte_roomy : (n : ℕ) (S : ℕ → List ℕ → InsnAndSizes → Type 0) → ((b : ℕ) → Roomy n (S b))
    → Roomy (1 + n) (Byte S)
byte_roomy n S each = record { is = is }
  where
    is : (t : List ℕ) (a : InsnAndSizes) → Byte S t a → 1 + n + (a.2 + a.3) ≤ length t
    is [] a h = absurd h
    is (b ∷ u) a h = let k = (each b).is u a h.1 in omega (arith, k)

choose_roomy : (n : ℕ) (b : Bool) (R S : List ℕ → InsnAndSizes → Type 0) → Roomy n R → Roomy n S
    → Roomy n (Choose b R S)
choose_roomy n true R S h k = h
choose_roomy n false R S h k = k

when_roomy : (n : ℕ) (b : Bool) (R : List ℕ → InsnAndSizes → Type 0) → Roomy n R
    → Roomy n (When b R)
when_roomy n b R h = choose_roomy n b R Never h (record { is = λ t a k. absurd k })

less_roomy : (n : ℕ) (R : List ℕ → InsnAndSizes → Type 0) → Roomy (1 + n) R → Roomy n R
less_roomy n R h = record { is = λ t a k. let j = h.is t a k in omega (arith, j) }

rest_says : (lead : Lead) (op m : ℕ) (row : Row) (place : Place × ℕ) (t : List ℕ) (a : InsnAndSizes)
    → Rest lead op m row place t a → (a.2 ≡ place.1) × (length t ≡ a.3)
rest_says lead op m row place t a h =
    let size : a.3 ≡ row.imm = ap (λ (x : InsnAndSizes). x.3) h.then.1 in
    let long : length t ≡ length h.front + length h.back = ap length h.parts
    ∙ length-append h.front h.back in
    let none : length h.back ≡ 0 = ap length h.then.0 in
    (ap (λ (x : InsnAndSizes). x.2) h.then.1, omega (arith, size, long, none, h.long))

operand_roomy : (lead : Lead) (op m : ℕ) (row : Row)
    → Roomy 0 (Operand lead.rex m (λ place. Rest lead op m row place))
operand_roomy lead op m row =
    choose_roomy 0 (has_sib m) (Byte behind) (behind 0)
    (less_roomy 0 (Byte behind) (byte_roomy 0 behind roomy)) (roomy 0)
  where
    behind : ℕ → List ℕ → InsnAndSizes → Type 0
    behind sib = Chunk (disp_size m sib)
        (λ disp. Rest lead op m row (place_of lead.rex m sib (signed_value disp), disp_size m sib))

    roomy : (sib : ℕ) → Roomy 0 (behind sib)
    roomy sib = record {
      is = λ t a h.
          let says = rest_says lead op m row
          (place_of lead.rex m sib (signed_value h.front), disp_size m sib) h.back a h.then in
          let long : length t ≡ length h.front + length h.back = ap length h.parts
          ∙ length-append h.front h.back in
          omega (arith, says.0, says.1, long, h.long);
    }

plain_roomy : (lead : Lead) (op : ℕ) (row : Row) → Roomy 0 (Rest lead op 0 row (Reg 0, 0))
plain_roomy lead op row =
    record {
      is = λ t a h. let says = rest_says lead op 0 row (Reg 0, 0) t a h in
          omega (arith, says.0, says.1);
    }

after_roomy : (line : Line) (lead : Lead) (op : ℕ) → Roomy 0 (After line lead op)
after_roomy line lead op =
    choose_roomy 0 (has_modrm line.ask) (Byte modrm)
    (When (admits lead line.row 0) (Rest lead op 0 line.row (Reg 0, 0)))
    (less_roomy 0 (Byte modrm)
    (byte_roomy 0 modrm (λ m. when_roomy 0 (ask_fits line.ask m
    && admits lead line.row m) (Operand lead.rex m
    (λ place. Rest lead op m line.row place)) (operand_roomy lead op m line.row))))
    (when_roomy 0 (admits lead line.row 0) (Rest lead op 0 line.row (Reg 0, 0))
    (plain_roomy lead op line.row))
  where
    modrm : ℕ → List ℕ → InsnAndSizes → Type 0
    modrm m = When (ask_fits line.ask m
        && admits lead line.row m) (Operand lead.rex m (λ place. Rest lead op m line.row place))

opcode_roomy : (line : Line) (lead : Lead) → Roomy 1 (Opcode line lead)
opcode_roomy line lead =
    byte_roomy 0 (λ op. When (at_line line lead op) (After line lead op))
    (λ op. when_roomy 0 (at_line line lead op) (After line lead op) (after_roomy line lead op))

body_roomy : (lead : Lead) (t : List ℕ) (a : InsnAndSizes) → Body lead t a
    → 1 + (a.2 + a.3) ≤ length t
body_roomy lead t a h = (escaped h.0.escape h.0).is t a h.2
  where
    escaped : (e : Bool) (line : Line) → Roomy 1 (Escaped e (Opcode line lead))
    escaped true line = less_roomy 1 (Byte (λ b. When (b == 0x0F) (Opcode line lead)))
        (byte_roomy 1 (λ b. When (b == 0x0F) (Opcode line lead))
        (λ b. when_roomy 1 (b == 0x0F) (Opcode line lead) (opcode_roomy line lead)))
    escaped false line = opcode_roomy line lead

format_roomy : (t : List ℕ) (a : InsnAndSizes) → HasFormat t a → 1 + (a.2 + a.3) ≤ length t
format_roomy t a w =
    let lead = lead_of w.prefixes w.f3 w.rex in
    let body = body_roomy lead w.body a w.line in
    let one = length-append w.prefixes (f3_bytes w.f3 ++ (rex_bytes w.rex ++ w.body)) in
    let two = length-append (f3_bytes w.f3) (rex_bytes w.rex ++ w.body) in
    let three = length-append (rex_bytes w.rex) w.body in
    omega (arith, body, ap length w.parts, one, two, three)

-- ---- what is read

pub record ReadSo (bytes : List ℕ) (len : ℕ) (a : InsnAndSizes) : Type 0 where
  pub encoding : List ℕ
  pub rest : List ℕ
  pub format : HasFormat encoding a
  pub long : length encoding ≤ 15
  pub parts : bytes ≡ encoding ++ rest
  pub size : length encoding ≡ len
  pub room : 1 + (a.2 + a.3) ≤ len

pub read_so : (bytes window rest : List ℕ) (a : InsnAndSizes) → IsWindow bytes window
    → AreBytes window → front_at 0 false false window ≡ Ok (a, rest)
    → (length rest ≤ length window) × ReadSo bytes (length window - length rest) a
read_so bytes window rest a w fits e =
    let P : Result (InsnAndSizes × List ℕ) Stop → Type 0 = Exact HasFormat window in
    let b = subst P e (format_exact window fits) in
    let size : length window ≡ length b.encoding + length rest = ap length b.parts
    ∙ length-append b.encoding rest in
    let low = w.long in
    let len : length b.encoding ≡ length window - length rest = omega arith in
    let room = format_roomy b.encoding a b.is_encoding in (
      omega (arith, size),
      record {
        encoding = b.encoding;
        rest = rest ++ w.more;
        format = b.is_encoding;
        long = omega (arith, size, low);
        parts = w.parts ∙ ap (λ (x : List ℕ). x ++ w.more) b.parts
            ∙ append_assoc b.encoding rest w.more;
        size = len;
        room = omega (arith, room, len);
      },
    )

-- where nothing is read, no encoding begins the bytes
pub read_none : (bytes window : List ℕ) (stop : Stop) → IsWindow bytes window → AreBytes window
    → front_at 0 false false window ≡ Err stop → (encoding rest : List ℕ) (insn : Insn) (skip : ℕ)
    → Encodes encoding insn skip → bytes ≡ encoding ++ rest → ⊥
read_none bytes window Undefined w fits e =
    λ encoding rest insn skip s same. found_none bytes window w fits e encoding insn skip [] rest s
    (append-nil bytes ∙ same)
read_none bytes window (Short n) w fits e = by_limit (nat_le (length window + n) 15) refl
  where
    by_limit : (b : Bool) → nat_le (length window + n) 15 ≡ b
        → (encoding rest : List ℕ) (insn : Insn) (skip : ℕ) → Encodes encoding insn skip
        → bytes ≡ encoding ++ rest → ⊥
    by_limit true h = λ encoding rest insn skip s same.
        (let k = decodes_again bytes outcomes.Short
        (found_short bytes window n w fits e (leb-true (length window + n) 15 h)) encoding rest insn
        skip s same in absurd cc)
    by_limit false h = λ encoding rest insn skip s same. found_long bytes window n w fits e
        (let lt = leb-false (length window + n) 15 h in
        omega (arith, lt)) encoding insn skip [] rest s (append-nil bytes ∙ same)

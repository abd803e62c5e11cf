-- What an encoding of a line says: its form's instruction, and what stands before the opcode.
use Rattle.std.proofs.Common.{◌≡◌, ℕ, ◌==◌, ◌&&◌, Bool, true, false, List, [], ◌∷◌, ap}
use Rattle.erim_defs.specs.declared.grammar.Fields.{Fields}
use Rattle.erim_defs.specs.declared.grammar.Lead.{Lead}
use Rattle.erim_defs.specs.declared.grammar.Rex.{Rex}
use Rattle.erim_defs.specs.declared.grammar.Row.{Row}
use Rattle.erim_defs.specs.declared.insn.Place.{Place}
use Rattle.erim_defs.specs.declared.insn.Place.TheVariants.{Reg}
use Rattle.erim_defs.specs.Encoding.Parts.{Byte, Chunk, Choose, When, Nothing, Never, signed_value}
use Rattle.erim_defs.specs.Encoding.Operand.{Operand, has_sib, disp_size, place_of}
use Rattle.erim_defs.specs.Encoding.Forms.{insn_of}
use Rattle.erim_defs.specs.Encoding.OpcodeTable.{Line, has_modrm, ask_fits}
use Rattle.erim_defs.specs.Encoding.Grammar.{at_line, InsnAndSizes, insn_and_sizes, Rest, After}
use Rattle.erim_defs.specs.Encoding.Grammar.{Opcode, Escaped, Body, admits, fields_of}

-- an instruction of the row, after skip bytes
pub record Said (row : Row) (skip : ℕ) (a : InsnAndSizes) : Type 0 where
  pub fields : Fields
  pub number : List ℕ
  pub insn : a.0 ≡ insn_of row.form fields number
  pub bare : a.1 ≡ skip

-- each encoding of the part says so
record Says (row : Row) (skip : ℕ) (R : List ℕ → InsnAndSizes → Type 0) : Type 0 where
  is : (t : List ℕ) (a : InsnAndSizes) → R t a → Said row skip a

byte_says : (row : Row) (skip : ℕ) (S : ℕ → List ℕ → InsnAndSizes → Type 0)
    → ((b : ℕ) → Says row skip (S b)) → Says row skip (Byte S)
byte_says row skip S each = record { is = is }
  where
    is : (t : List ℕ) (a : InsnAndSizes) → Byte S t a → Said row skip a
    is [] a h = absurd h
    is (b ∷ u) a h = (each b).is u a h.1

chunk_says : (row : Row) (skip size : ℕ) (S : List ℕ → List ℕ → InsnAndSizes → Type 0)
    → ((front : List ℕ) → Says row skip (S front)) → Says row skip (Chunk size S)
chunk_says row skip size S each = record { is = λ t a h. (each h.front).is h.back a h.then }

choose_says : (row : Row) (skip : ℕ) (b : Bool) (R S : List ℕ → InsnAndSizes → Type 0)
    → Says row skip R → Says row skip S → Says row skip (Choose b R S)
choose_says row skip true R S h k = h
choose_says row skip false R S h k = k

when_says : (row : Row) (skip : ℕ) (b : Bool) (R : List ℕ → InsnAndSizes → Type 0) → Says row skip R
    → Says row skip (When b R)
when_says row skip b R h = choose_says row skip b R Never h (record { is = λ t a n. absurd n })

rest_says : (lead : Lead) (op m : ℕ) (row : Row) (place : Place × ℕ)
    → Says row lead.skip (Rest lead op m row place)
rest_says lead op m row place =
    chunk_says row lead.skip row.imm (λ imm. Nothing (insn_and_sizes lead op m row place imm))
    (λ imm. record {
      is = λ t a h. record {
        fields = fields_of lead op m place.0;
        number = imm;
        insn = ap (λ (x : InsnAndSizes). x.0) h.1;
        bare = ap (λ (x : InsnAndSizes). x.1) h.1;
      };
    })

operand_says : (row : Row) (skip : ℕ) (rex : Rex) (m : ℕ) (S : Place × ℕ → List ℕ → InsnAndSizes
    → Type 0) → ((p : Place × ℕ) → Says row skip (S p)) → Says row skip (Operand rex m S)
operand_says row skip rex m S each =
    choose_says row skip (has_sib m) (Byte behind) (behind 0) (byte_says row skip behind says)
    (says 0)
  where
    behind : ℕ → List ℕ → InsnAndSizes → Type 0
    behind sib = Chunk (disp_size m sib)
        (λ disp. S (place_of rex m sib (signed_value disp), disp_size m sib))

    says : (sib : ℕ) → Says row skip (behind sib)
    says sib = chunk_says row skip (disp_size m sib)
        (λ disp. S (place_of rex m sib (signed_value disp), disp_size m sib))
        (λ disp. each (place_of rex m sib (signed_value disp), disp_size m sib))

after_says : (line : Line) (lead : Lead) (op : ℕ) → Says line.row lead.skip (After line lead op)
after_says line lead op =
    choose_says line.row lead.skip (has_modrm line.ask) (Byte modrm)
    (When (admits lead line.row 0) (Rest lead op 0 line.row (Reg 0, 0)))
    (byte_says line.row lead.skip modrm (λ m. when_says line.row lead.skip (ask_fits line.ask m
    && admits lead line.row m) (Operand lead.rex m
    (λ place. Rest lead op m line.row place)) (operand_says line.row lead.skip lead.rex m
    (λ place. Rest lead op m line.row place) (λ place. rest_says lead op m line.row place))))
    (when_says line.row lead.skip (admits lead line.row 0) (Rest lead op 0 line.row (Reg 0, 0))
    (rest_says lead op 0 line.row (Reg 0, 0)))
  where
    modrm : ℕ → List ℕ → InsnAndSizes → Type 0
    modrm m = When (ask_fits line.ask m
        && admits lead line.row m) (Operand lead.rex m (λ place. Rest lead op m line.row place))

opcode_says : (line : Line) (lead : Lead) → Says line.row lead.skip (Opcode line lead)
opcode_says line lead = byte_says line.row lead.skip
    (λ op. When (at_line line lead op) (After line lead op))
    (λ op. when_says line.row lead.skip (at_line line lead op) (After line lead op)
    (after_says line lead op))

pub body_says : (lead : Lead) (t : List ℕ) (a : InsnAndSizes) (h : Body lead t a)
    → Said h.0.row lead.skip a
body_says lead t a h = (escaped h.0.escape h.0).is t a h.2
  where
    escaped : (e : Bool) (line : Line) → Says line.row lead.skip (Escaped e (Opcode line lead))
    escaped true line = byte_says line.row lead.skip (λ b. When (b == 0x0F) (Opcode line lead))
        (λ b. when_says line.row lead.skip (b == 0x0F) (Opcode line lead) (opcode_says line lead))
    escaped false line = opcode_says line lead

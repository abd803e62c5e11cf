-- Which bytes encode which instruction, by the table of rows. SDM volume 2, "Instruction format":
-- prefixes, REX, opcode, ModRM, SIB, displacement, immediate, and at most 15 bytes.
use Rattle.std.specs.Prelude.{◌≡◌, ℕ, ◌+◌, ◌/◌, ◌%◌, ◌≤◌, length, Bool, true, false, ◌&&◌, ◌||◌}
use Rattle.std.specs.Prelude.{◌==◌, not, nat_lt, nat_le, List, [], ◌∷◌, ◌++◌, ◌⊎◌, Option, Some}
use Rattle.std.specs.Prelude.{None, IfSome}
use Rattle.erim_defs.specs.declared.grammar.Fields.{Fields}
use Rattle.erim_defs.specs.declared.grammar.Lead.{Lead}
use Rattle.erim_defs.specs.declared.grammar.Rex.{Rex}
use Rattle.erim_defs.specs.declared.grammar.Row.{Row}
use Rattle.erim_defs.specs.declared.insn.Insn.{Insn}
use Rattle.erim_defs.specs.declared.insn.Place.{Place}
use Rattle.erim_defs.specs.declared.insn.Place.TheVariants.{Reg}
use Rattle.erim_defs.specs.Encoding.Parts.{AreBytes, Byte, Chunk, Choose, When, Nothing}
use Rattle.erim_defs.specs.Encoding.Operand.{Operand}
use Rattle.erim_defs.specs.Encoding.OpcodeTable.{Line, table_lines, in_line, has_modrm, ask_fits}
use Rattle.erim_defs.specs.Encoding.OpcodeTable.{same_bool, w_fits}
use Rattle.erim_defs.specs.Encoding.Forms.{insn_of}

-- the row admits what stands before it: F0 with a destination in memory, 66, REX.B
unfoldable pub admits : Lead → Row → ℕ → Bool
admits lead row m =
    (not lead.lock || (row.locks && nat_lt m 192)) &&
    ((not lead.size_prefix || row.size_prefix) && (not lead.rex.b || not row.low))

-- ---- prefixes

-- 26, 2E, 36 and 3E change nothing. SDM volume 2, "Instruction prefixes"; that 64, 65, 67 and F2
-- are none is own
unfoldable pub is_prefix : ℕ → Bool
is_prefix b = b == 0x26 || b == 0x2E || b == 0x36 || b == 0x3E || b == 0xF0 || b == 0x66

-- SDM volume 2, "REX prefixes"
unfoldable pub is_rex : ℕ → Bool
is_rex b = nat_le 0x40 b && nat_le b 0x4F

-- W, R, X and B of a REX byte
unfoldable pub rex_bits : ℕ → Rex
rex_bits b =
    record {
      any = true;
      w = b / 8 % 2 == 1;
      r = b / 4 % 2 == 1;
      x = b / 2 % 2 == 1;
      b = b % 2 == 1;
    }

-- skip prefixes, F0 or 66 among them, and neither F3 nor REX
unfoldable pub prefix_lead : ℕ → Bool → Bool → Lead
prefix_lead skip lock size_prefix =
    record {
      skip = skip;
      lock = lock;
      size_prefix = size_prefix;
      f3 = false;
      rex = record { any = false; w = false; r = false; x = false; b = false };
    }

unfoldable pub with_f3 : Lead → Lead
with_f3 lead = record lead { skip = lead.skip + 1; f3 = true }

unfoldable pub with_rex : Lead → ℕ → Lead
with_rex lead b = record lead { skip = lead.skip + 1; rex = rex_bits b }

-- ---- from the opcode on

-- the fields of an encoding, but for its immediate
unfoldable pub fields_of : Lead → ℕ → ℕ → Place → Fields
fields_of lead op m place =
    record { op = op; m = m; rex = lead.rex; lock = lead.lock; place = place }

abbrev pub In : {A : Type 0} → List A → A → Type 0
In [] x = ⊥
In (y ∷ ys) x = (y ≡ x) ⊎ In ys x

-- an instruction, how many bytes stand before its opcode, and the sizes of its displacement and of
-- its immediate or relative offset
abbrev pub InsnAndSizes : Type 0
InsnAndSizes = Insn × ℕ × ℕ × ℕ

-- what a row means with an operand, the size of its displacement, and the bytes of its immediate
abbrev pub insn_and_sizes : Lead → ℕ → ℕ → Row → Place × ℕ → List ℕ → InsnAndSizes
insn_and_sizes lead op m row place imm =
    (insn_of row.form (fields_of lead op m place.0) imm, lead.skip, place.1, row.imm)

-- the immediate or relative offset that ends it
abbrev pub Rest : Lead → ℕ → ℕ → Row → Place × ℕ → List ℕ → InsnAndSizes → Type 0
Rest lead op m row place = Chunk row.imm (λ imm. Nothing (insn_and_sizes lead op m row place imm))

-- after the opcode
abbrev pub After : Line → Lead → ℕ → List ℕ → InsnAndSizes → Type 0
After line lead op =
    Choose (has_modrm line.ask)
    (Byte (λ m. When (ask_fits line.ask m && admits lead line.row m)
    (Operand lead.rex m (λ place. Rest lead op m line.row place))))
    (When (admits lead line.row 0) (Rest lead op 0 line.row (Reg 0, 0)))

-- the line has the opcode, with such an F3 and REX.W
abbrev pub at_line : Line → Lead → ℕ → Bool
at_line line lead op =
    in_line line line.escape op && (same_bool line.f3 lead.f3 && w_fits line.w lead.rex.w)

-- the opcode without the escape opcode 0F, and what is after it
abbrev pub Opcode : Line → Lead → List ℕ → InsnAndSizes → Type 0
Opcode line lead =
    Byte (λ op. When (at_line line lead op) (After line lead op))

-- after 0F or not
abbrev pub Escaped : Bool → (List ℕ → InsnAndSizes → Type 0) → List ℕ → InsnAndSizes → Type 0
Escaped true R = Byte (λ b. When (b == 0x0F) R)
Escaped false R = R

-- opcode and operands, after such prefixes, by some line of the table
abbrev pub Body : Lead → List ℕ → InsnAndSizes → Type 0
Body lead encoding a =
    (line : Line) × In table_lines line × Escaped line.escape (Opcode line lead) encoding a

-- ---- a whole encoding

abbrev pub every : {A : Type 0} → (A → Bool) → List A → Bool
every p [] = true
every p (x ∷ xs) = p x && every p xs

abbrev pub has_byte : ℕ → List ℕ → Bool
has_byte x [] = false
has_byte x (b ∷ bs) = b == x || has_byte x bs

abbrev pub f3_bytes : Bool → List ℕ
f3_bytes true = 0xF3 ∷ []
f3_bytes false = []

abbrev pub rex_bytes : Option ℕ → List ℕ
rex_bytes (Some b) = b ∷ []
rex_bytes None = []

abbrev pub if_f3 : Bool → Lead → Lead
if_f3 true lead = with_f3 lead
if_f3 false lead = lead

abbrev pub if_rex : Option ℕ → Lead → Lead
if_rex (Some b) lead = with_rex lead b
if_rex None lead = lead

-- what the bytes before an opcode say
abbrev pub lead_of : List ℕ → Bool → Option ℕ → Lead
lead_of prefixes f3 rex =
    if_rex rex (if_f3 f3 (prefix_lead (length prefixes) (has_byte 0xF0 prefixes)
    (has_byte 0x66 prefixes)))

-- prefixes, F3, REX, and the rest by a line of the table: the bytes have the format of an
-- instruction
pub record HasFormat (bytes : List ℕ) (a : InsnAndSizes) : Type 0 where
  pub prefixes : List ℕ
  pub f3 : Bool
  pub rex : Option ℕ
  pub body : List ℕ
  pub parts : bytes ≡ prefixes ++ (f3_bytes f3 ++ (rex_bytes rex ++ body))
  pub fits : AreBytes bytes
  pub are_prefixes : every is_prefix prefixes ≡ true
  pub are_rex : IfSome rex (λ b. is_rex b ≡ true)
  pub line : Body (lead_of prefixes f3 rex) body a

-- bytes encode an instruction; skip of them stand before its opcode
pub record Encodes (bytes : List ℕ) (insn : Insn) (skip : ℕ) : Type 0 where
  pub disp : ℕ
  pub imm : ℕ
  pub format : HasFormat bytes (insn, skip, disp, imm)
  pub long : length bytes ≤ 15

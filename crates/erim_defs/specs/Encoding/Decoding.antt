-- What bytes begin with, as a function: reading from the front by the table. Where bytes run out it
-- counts how many are missing at the least. Own. That it is what `Decodes` says of all bytes is a
-- law, `x86_decode::decode_is_exact`.
use Rattle.std.specs.Prelude.{◌≡◌, ◌++◌, ◌<◌, ◌≤◌, ℕ, zero, suc, ◌+◌, ◌-◌, Bool, true, false, ◌||◌}
use Rattle.std.specs.Prelude.{◌==◌, nat_lt, nat_le, if◌then◌else◌, List, [], ◌∷◌, length, take}
use Rattle.std.specs.Prelude.{Option, Some, None, Result, Ok, Err}
use Rattle.erim_defs.specs.declared.grammar.Lead.{Lead}
use Rattle.erim_defs.specs.declared.grammar.Row.{Row}
use Rattle.erim_defs.specs.declared.grammar.Stop.{Stop}
use Rattle.erim_defs.specs.declared.grammar.Stop.TheVariants.{Undefined, Short}
use Rattle.erim_defs.specs.declared.insn.Decoded.{Decoded}
use Rattle.erim_defs.specs.declared.insn.Decoded.TheVariants as outcomes
use Rattle.erim_defs.specs.declared.insn.Place.TheVariants.{Reg}
use Rattle.erim_defs.specs.Encoding.Cursor.{◌>>=◌, byte_at, chunk_at, operand_at}
use Rattle.erim_defs.specs.Encoding.Operand.{has_sib, disp_size}
use Rattle.erim_defs.specs.Encoding.OpcodeTable.{table_lines, lookup, any_modrm}
use Rattle.erim_defs.specs.Encoding.Grammar.{InsnAndSizes, insn_and_sizes, admits, is_prefix}
use Rattle.erim_defs.specs.Encoding.Grammar.{is_rex, prefix_lead, with_f3, with_rex}

-- a row, where it admits what stands before it
abbrev pub if_admitted : Lead → ℕ → Option Row → Option Row
if_admitted lead m None = None
if_admitted lead m (Some row) = if admits lead row m then Some row else None

-- the row at an opcode and the byte after it
unfoldable pub row_at : Lead → Bool → ℕ → ℕ → Option Row
row_at lead escape op m = if_admitted lead m (lookup table_lines escape lead.f3 lead.rex.w op m)

-- whether a ModRM byte stands after an opcode
unfoldable pub modrm_follows : Bool → ℕ → Bool
modrm_follows escape op = any_modrm table_lines escape op

-- the stop that asks for fewer bytes
unfoldable pub sooner_stop : Stop → Stop → Stop
sooner_stop (Short x) (Short y) = Short (if nat_lt x y then x else y)
sooner_stop Undefined b = b
sooner_stop (Short x) Undefined = Short x

-- the least size of SIB and displacement
unfoldable pub operand_len : ℕ → ℕ
operand_len m = if has_sib m then 1 + disp_size m 0 else disp_size m 0

-- what is missing from the ModRM byte m on, by its row
unfoldable pub stop_of : Option Row → ℕ → Stop
stop_of None m = Undefined
stop_of (Some row) m = Short (1 + (operand_len m + row.imm))

-- the least that is missing where ModRM is below n
unfoldable pub least_modrm : (ℕ → Option Row) → ℕ → Stop
least_modrm rows zero = Undefined
least_modrm rows (suc n) = sooner_stop (stop_of (rows n) n) (least_modrm rows n)

-- what is missing where ModRM is
unfoldable pub modrm_stop : Lead → Bool → ℕ → Stop
modrm_stop lead escape op = least_modrm (row_at lead escape op) 256

-- after an opcode without ModRM
unfoldable pub without_modrm_at : Lead → ℕ → Option Row → List ℕ
    → Result (InsnAndSizes × List ℕ) Stop
without_modrm_at lead op None bytes = Err Undefined
without_modrm_at lead op (Some row) bytes = do
  i ← chunk_at row.imm 0 bytes
  Ok (insn_and_sizes lead op 0 row (Reg 0, 0) i.0, i.1)

-- after a ModRM byte m
unfoldable pub after_modrm_at : Lead → ℕ → ℕ → Option Row → List ℕ
    → Result (InsnAndSizes × List ℕ) Stop
after_modrm_at lead op m None bytes = Err Undefined
after_modrm_at lead op m (Some row) bytes = do
  p ← operand_at lead.rex m row.imm bytes
  i ← chunk_at row.imm 0 p.1
  Ok (insn_and_sizes lead op m row p.0 i.0, i.1)

-- from the ModRM byte on
unfoldable pub modrm_at : Lead → Bool → ℕ → List ℕ → Result (InsnAndSizes × List ℕ) Stop
modrm_at lead escape op bytes = do
  m ← byte_at (modrm_stop lead escape op) bytes
  after_modrm_at lead op m.0 (row_at lead escape op m.0) m.1

-- after an opcode
unfoldable pub tail_at : Lead → Bool → ℕ → List ℕ → Result (InsnAndSizes × List ℕ) Stop
tail_at lead escape op bytes =
    if modrm_follows escape op then modrm_at lead escape op bytes else
    without_modrm_at lead op (row_at lead escape op 0) bytes

-- how many bytes an opcode begins at the least, by F0, 66, F3 and REX.B
unfoldable pub least_body : Bool → Bool → Bool → Bool → Stop
least_body true false false b = Short 2
least_body false true false true = Short 3
least_body false true false false = Short 1
least_body false false true true = Short 3
least_body false false true false = Short 1
least_body false false false true = Short 1
least_body false false false false = Short 1
least_body l s f b = Undefined

-- the same after 0F, by F0, 66 and F3
unfoldable pub least_second : Bool → Bool → Bool → Stop
least_second true false false = Short 2
least_second false true false = Short 2
least_second false false true = Short 2
least_second false false false = Short 1
least_second l s f = Undefined

-- after the escape opcode 0F
abbrev pub escaped_at : Lead → List ℕ → Result (InsnAndSizes × List ℕ) Stop
escaped_at lead bytes = do
  op ← byte_at (least_second lead.lock lead.size_prefix lead.f3) bytes
  tail_at lead true op.0 op.1

-- from the opcode on
unfoldable pub body_at : Lead → List ℕ → Result (InsnAndSizes × List ℕ) Stop
body_at lead bytes = do
  x ← byte_at (least_body lead.lock lead.size_prefix lead.f3 lead.rex.b) bytes
  if x.0 == 0x0F then escaped_at lead x.1 else tail_at lead false x.0 x.1

-- ---- what stands before the opcode

-- from REX on
unfoldable pub rex_at : Lead → List ℕ → Result (InsnAndSizes × List ℕ) Stop
rex_at lead [] = body_at lead []
rex_at lead (b ∷ rest) =
    if is_rex b then body_at (with_rex lead b) rest else body_at lead (b ∷ rest)

-- from F3 on
unfoldable pub f3_at : Lead → List ℕ → Result (InsnAndSizes × List ℕ) Stop
f3_at lead [] = rex_at lead []
f3_at lead (b ∷ rest) = if b == 0xF3 then rex_at (with_f3 lead) rest else rex_at lead (b ∷ rest)

-- after n prefixes
unfoldable pub front_at : ℕ → Bool → Bool → List ℕ → Result (InsnAndSizes × List ℕ) Stop
front_at n lock size_prefix [] = f3_at (prefix_lead n lock size_prefix) []
front_at n lock size_prefix (b ∷ rest) =
    if is_prefix b then front_at (n + 1) (lock || b == 0xF0) (size_prefix || b == 0x66) rest else
    f3_at (prefix_lead n lock size_prefix) (b ∷ rest)

-- what is read of bytes that are no more than an encoding can have
abbrev pub decode_outcome : ℕ → Result (InsnAndSizes × List ℕ) Stop → Decoded
decode_outcome size (Ok x) = outcomes.Insn x.0.0 (size - length x.1) x.0.1
decode_outcome size (Err (Short n)) =
    if nat_le (size + n) 15 then outcomes.Short else outcomes.Undefined
decode_outcome size (Err Undefined) = outcomes.Undefined

-- what bytes begin with: an instruction, the beginning of one, or neither
unfoldable pub decode : List ℕ → Decoded
decode bytes = decode_outcome (length (take 15 bytes)) (front_at 0 false false (take 15 bytes))

-- the front of the bytes that is looked at
pub record IsWindow (bytes window : List ℕ) : Type 0 where
  pub more : List ℕ
  pub parts : bytes ≡ window ++ more
  pub long : length window ≤ 15
  pub all : length window < 15 → more ≡ []

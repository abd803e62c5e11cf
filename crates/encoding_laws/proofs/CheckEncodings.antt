-- What the bytes of the checks encode.
use Rattle.std.proofs.Common.{◌≡◌, ℕ, nat_lt, true, false, List, []}
use Rattle.std.proofs.Common.{◌∷◌, length, take, refl, ap, subst}
use Rattle.std.specs.Prelude.{pos, negsuc, ◌^◌, ◌<◌, ◌%◌, ◌/◌}
use Rattle.std.specs.Int.{w32, to_le_bytes, from_le_bytes, cast_signed}
use Rattle.std.proofs.lemmas.Nat.{from_le_bytes-to_le_bytes_4}
use Rattle.std.proofs.Common.{arith, lt-ltb}
use Rattle.std.proofs.lemmas.Bool.{ltb-true}
use Rattle.erim_defs.specs.declared.insn.AluOp.TheVariants.{Xor, Cmp}
use Rattle.erim_defs.specs.declared.insn.Decoded.TheVariants as outcomes
use Rattle.erim_defs.specs.declared.insn.Insn.{Insn}
use Rattle.erim_defs.specs.declared.insn.Insn.TheVariants.{Alu, Bt, Mov, Jcc, Syscall, Wrpkru}
use Rattle.erim_defs.specs.declared.insn.Place.TheVariants.{Reg}
use Rattle.erim_defs.specs.declared.insn.Src.TheVariants.{From, Imm}
use Rattle.erim_defs.specs.declared.insn.Width.TheVariants.{W4}
use Rattle.erim_defs.specs.Encoding.Parts.{AreBytes}
use Rattle.erim_defs.specs.Encoding.Operand.{reg_with_bit, has_sib, disp_size, place_of}
use Rattle.erim_defs.specs.Encoding.Cursor.{sib_at, operand_at}
use Rattle.erim_defs.specs.Encoding.Forms.{operand_width, rex_width, register_named, rm_place}
use Rattle.erim_defs.specs.Encoding.Forms.{reg_place, opcode_reg, alu_op, arithmetic_of, move_of}
use Rattle.erim_defs.specs.Encoding.Forms.{flow_of, system_of, insn_of, imm8}
use Rattle.erim_defs.specs.Encoding.Grammar.{Encodes}
use Rattle.erim_defs.specs.Encoding.Grammar.{is_prefix, is_rex}
use Rattle.erim_defs.specs.Encoding.Grammar.{prefix_lead, admits, fields_of}
use Rattle.erim_defs.specs.Encoding.Decodes.{Decodes}
use Rattle.erim_defs.specs.Encoding.Decoding.{decode, row_at, modrm_follows, without_modrm_at}
use Rattle.erim_defs.specs.Encoding.Decoding.{after_modrm_at, modrm_at, tail_at, body_at, rex_at}
use Rattle.erim_defs.specs.Encoding.Decoding.{f3_at, front_at}
use Rattle.encoding_laws.proofs.LineLemmas.{every, and_true}
use Rattle.encoding_laws.proofs.DecodeLemmas.{decode_is_exact}

are_bytes : (bytes : List ℕ) → every (λ b. nat_lt b 256) bytes ≡ true → AreBytes bytes
are_bytes [] e = tt
are_bytes (b ∷ bs) e = let k = and_true (nat_lt b 256) (every (λ c. nat_lt c 256) bs) e in
    (ltb-true b 256 k.0, are_bytes bs k.1)

take_all : (xs : List ℕ) → take (length xs) xs ≡ xs
take_all [] = refl
take_all (x ∷ xs) = ap (λ (t : List ℕ). x ∷ t) (take_all xs)

-- bytes that are decoded whole are encoded
pub is_encoding : (bytes : List ℕ) (insn : Insn) (skip : ℕ) → every (λ b. nat_lt b 256) bytes ≡ true
    → decode bytes ≡ outcomes.Insn insn (length bytes) skip → Encodes bytes insn skip
is_encoding bytes insn skip b e =
    let d : Decodes bytes (outcomes.Insn insn (length bytes) skip) =
    subst (Decodes bytes) e (decode_is_exact bytes (are_bytes bytes b)) in
    let P : List ℕ → Type 0 = λ t. Encodes t insn skip in
    subst P (take_all bytes) d.1

pub encodes_wrpkru : Encodes (0x0F ∷ 0x01 ∷ 0xEF ∷ []) Wrpkru 0
unfolding decode front_at f3_at rex_at body_at tail_at modrm_follows row_at without_modrm_at
    after_modrm_at modrm_at operand_at sib_at has_sib disp_size place_of reg_with_bit is_prefix
    is_rex prefix_lead admits fields_of insn_of arithmetic_of move_of flow_of system_of
    operand_width rex_width alu_op rm_place reg_place register_named opcode_reg
encodes_wrpkru = is_encoding (0x0F ∷ 0x01 ∷ 0xEF ∷ []) Wrpkru 0 refl refl

pub encodes_syscall : Encodes (0x0F ∷ 0x05 ∷ []) Syscall 0
unfolding decode front_at f3_at rex_at body_at tail_at modrm_follows row_at without_modrm_at
    after_modrm_at modrm_at operand_at sib_at has_sib disp_size place_of reg_with_bit is_prefix
    is_rex prefix_lead admits fields_of insn_of arithmetic_of move_of flow_of system_of
    operand_width rex_width alu_op rm_place reg_place register_named opcode_reg
encodes_syscall = is_encoding (0x0F ∷ 0x05 ∷ []) Syscall 0 refl refl

pub encodes_cmp : Encodes (0x3D ∷ 0x54 ∷ 0x55 ∷ 0x55 ∷ 0x55
    ∷ []) (Alu Cmp W4 (Reg 0) (Imm (pos 0x55555554)) false) 0
unfolding decode front_at f3_at rex_at body_at tail_at modrm_follows row_at without_modrm_at
    after_modrm_at modrm_at operand_at sib_at has_sib disp_size place_of reg_with_bit is_prefix
    is_rex prefix_lead admits fields_of insn_of arithmetic_of move_of flow_of system_of
    operand_width rex_width alu_op rm_place reg_place register_named opcode_reg
encodes_cmp = is_encoding (0x3D ∷ 0x54 ∷ 0x55 ∷ 0x55 ∷ 0x55
    ∷ []) (Alu Cmp W4 (Reg 0) (Imm (pos 0x55555554)) false) 0 refl refl

pub encodes_je : Encodes (0x74 ∷ 0x07 ∷ []) (Jcc 4 (pos 7)) 0
unfolding decode front_at f3_at rex_at body_at tail_at modrm_follows row_at without_modrm_at
    after_modrm_at modrm_at operand_at sib_at has_sib disp_size place_of reg_with_bit is_prefix
    is_rex prefix_lead admits fields_of insn_of arithmetic_of move_of flow_of system_of
    operand_width rex_width alu_op rm_place reg_place register_named opcode_reg
encodes_je = is_encoding (0x74 ∷ 0x07 ∷ []) (Jcc 4 (pos 7)) 0 refl refl

pub encodes_je_back : Encodes (0x74 ∷ 0xFE ∷ []) (Jcc 4 (negsuc 1)) 0
unfolding decode front_at f3_at rex_at body_at tail_at modrm_follows row_at without_modrm_at
    after_modrm_at modrm_at operand_at sib_at has_sib disp_size place_of reg_with_bit is_prefix
    is_rex prefix_lead admits fields_of insn_of arithmetic_of move_of flow_of system_of
    operand_width rex_width alu_op rm_place reg_place register_named opcode_reg
encodes_je_back = is_encoding (0x74 ∷ 0xFE ∷ []) (Jcc 4 (negsuc 1)) 0 refl refl

pub encodes_mov : Encodes (0xB8 ∷ 0xE7 ∷ 0 ∷ 0 ∷ 0 ∷ []) (Mov W4 (Reg 0) (Imm (pos 231))) 0
unfolding decode front_at f3_at rex_at body_at tail_at modrm_follows row_at without_modrm_at
    after_modrm_at modrm_at operand_at sib_at has_sib disp_size place_of reg_with_bit is_prefix
    is_rex prefix_lead admits fields_of insn_of arithmetic_of move_of flow_of system_of
    operand_width rex_width alu_op rm_place reg_place register_named opcode_reg
encodes_mov = is_encoding (0xB8 ∷ 0xE7 ∷ 0 ∷ 0 ∷ 0 ∷ []) (Mov W4 (Reg 0) (Imm (pos 231))) 0 refl
    refl

pub encodes_xor : Encodes (0x31 ∷ 0xC0 ∷ []) (Alu Xor W4 (Reg 0) (From (Reg 0)) false) 0
unfolding decode front_at f3_at rex_at body_at tail_at modrm_follows row_at without_modrm_at
    after_modrm_at modrm_at operand_at sib_at has_sib disp_size place_of reg_with_bit is_prefix
    is_rex prefix_lead admits fields_of insn_of arithmetic_of move_of flow_of system_of
    operand_width rex_width alu_op rm_place reg_place register_named opcode_reg
encodes_xor = is_encoding (0x31 ∷ 0xC0 ∷ []) (Alu Xor W4 (Reg 0) (From (Reg 0)) false) 0 refl refl

pub encodes_bt : Encodes (0x0F ∷ 0xBA ∷ 0xE0 ∷ 0x09 ∷ []) (Bt W4 (Reg 0) 9) 0
unfolding decode front_at f3_at rex_at body_at tail_at modrm_follows row_at without_modrm_at
    after_modrm_at modrm_at operand_at sib_at has_sib disp_size place_of reg_with_bit is_prefix
    is_rex prefix_lead admits fields_of insn_of arithmetic_of move_of flow_of system_of
    operand_width rex_width alu_op rm_place reg_place register_named opcode_reg imm8
encodes_bt = is_encoding (0x0F ∷ 0xBA ∷ 0xE0 ∷ 0x09 ∷ []) (Bt W4 (Reg 0) 9) 0 refl refl

pub encodes_jae : Encodes (0x73 ∷ 0x07 ∷ []) (Jcc 3 (pos 7)) 0
unfolding decode front_at f3_at rex_at body_at tail_at modrm_follows row_at without_modrm_at
    after_modrm_at modrm_at operand_at sib_at has_sib disp_size place_of reg_with_bit is_prefix
    is_rex prefix_lead admits fields_of insn_of arithmetic_of move_of flow_of system_of
    operand_width rex_width alu_op rm_place reg_place register_named opcode_reg imm8
encodes_jae = is_encoding (0x73 ∷ 0x07 ∷ []) (Jcc 3 (pos 7)) 0 refl refl

-- a comparison with any number
pub encodes_compare : (v : ℕ) → v < 2 ^ 32
    → Encodes (0x3D ∷ to_le_bytes w32 v) (Alu Cmp W4 (Reg 0) (Imm (cast_signed w32 v)) false) 0
unfolding decode front_at f3_at rex_at body_at tail_at modrm_follows row_at without_modrm_at
    after_modrm_at modrm_at operand_at sib_at has_sib disp_size place_of reg_with_bit is_prefix
    is_rex prefix_lead admits fields_of insn_of arithmetic_of move_of flow_of system_of
    operand_width rex_width alu_op rm_place reg_place register_named opcode_reg
encodes_compare v few =
    let bytes : List ℕ = 0x3D ∷ to_le_bytes w32 v in
    let P : ℕ → Type 0 = λ n. Encodes bytes (Alu Cmp W4 (Reg 0) (Imm
    (cast_signed w32 n)) false) 0 in
    subst P (from_le_bytes-to_le_bytes_4 v few)
    (is_encoding bytes (Alu Cmp W4 (Reg 0) (Imm (cast_signed w32 (from_le_bytes w32 (to_le_bytes w32
    v)))) false) 0 (bytes_fit v) refl)
  where
    small : (n : ℕ) → nat_lt (n % 256) 256 ≡ true
    small n = lt-ltb _ _ (omega arith)

    bytes_fit : (n : ℕ) → every (λ b. nat_lt b 256) (0x3D ∷ to_le_bytes w32 n) ≡ true
    bytes_fit n = rw (small n, small (n / 256), small (n / 65536), small (n / 16777216)) refl

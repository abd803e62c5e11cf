-- The lines of some bytes, computed.
use Rattle.std.proofs.Common.{◌≡◌, [], ◌∷◌, ◌++◌, refl}
use Rattle.std.specs.Prelude.{codes}
use Rattle.std.specs.Fmt.{digits}
use Rattle.erim_defs.specs.Encoding.Decoding.{row_at, modrm_follows, sooner_stop, operand_len}
use Rattle.erim_defs.specs.Encoding.Decoding.{stop_of, least_modrm, modrm_stop, without_modrm_at}
use Rattle.erim_defs.specs.Encoding.Decoding.{after_modrm_at, modrm_at, tail_at, least_body}
use Rattle.erim_defs.specs.Encoding.Decoding.{least_second, body_at, rex_at, f3_at, front_at}
use Rattle.erim_defs.specs.Encoding.Decoding.{decode}
use Rattle.erim_defs.specs.Encoding.Grammar.{admits, is_prefix, is_rex, rex_bits, prefix_lead}
use Rattle.erim_defs.specs.Encoding.Grammar.{with_f3, with_rex, fields_of}
use Rattle.erim_defs.specs.Encoding.Cursor.{sib_at, operand_at}
use Rattle.erim_defs.specs.Encoding.Operand.{reg_with_bit, has_sib, disp_size, sib_mem, place_of}
use Rattle.erim_defs.specs.Encoding.Forms.{operand_width, rex_width, register_named, rm_place}
use Rattle.erim_defs.specs.Encoding.Forms.{byte_rm_place, reg_place, reg_number, memory_of}
use Rattle.erim_defs.specs.Encoding.Forms.{opcode_reg, alu_op, unary_op, shift_op, imm8, imm64}
use Rattle.erim_defs.specs.Encoding.Forms.{arithmetic_of, move_of, flow_of, exchange_of, system_of}
use Rattle.erim_defs.specs.Encoding.Forms.{insn_of}
use Rattle.erim_defs.specs.Encoding.Notation.{notation_of, insn_text, insn_line}
use Rattle.erim_defs.specs.Encoding.Disasm.{bad_line, lines_of, lines_past}

nothing : lines_of 0x401000 [] ≡ []
unfolding lines_past
nothing = refl

-- an instruction that is cut off
cut : lines_of 0x401000 (0xB8 ∷ 0x00 ∷ []) ≡ codes "0x000000401000 bad b8\n"
    ++ codes "0x000000401001 bad 00\n"
unfolding lines_past bad_line digits row_at modrm_follows sooner_stop operand_len stop_of
    least_modrm modrm_stop without_modrm_at after_modrm_at modrm_at tail_at least_body least_second
    body_at rex_at f3_at front_at decode admits is_prefix is_rex rex_bits prefix_lead with_f3
    with_rex fields_of sib_at operand_at reg_with_bit has_sib disp_size sib_mem place_of
    operand_width rex_width register_named rm_place byte_rm_place reg_place reg_number memory_of
    opcode_reg alu_op unary_op shift_op imm8 imm64 arithmetic_of move_of flow_of exchange_of
    system_of insn_of
cut = refl

two : lines_of 0x401000 (0xB8 ∷ 0x00 ∷ 0x00 ∷ 0x00 ∷ 0x0F ∷ 0x01 ∷ 0xEF ∷ [])
    ≡ codes "0x000000401000 mov4 r0, 251658240\n" ++ codes "0x000000401005 add4 r7, r5\n"
unfolding lines_past bad_line insn_line insn_text notation_of digits row_at modrm_follows
    sooner_stop operand_len stop_of least_modrm modrm_stop without_modrm_at after_modrm_at modrm_at
    tail_at least_body least_second body_at rex_at f3_at front_at decode admits is_prefix is_rex
    rex_bits prefix_lead with_f3 with_rex fields_of sib_at operand_at reg_with_bit has_sib disp_size
    sib_mem place_of operand_width rex_width register_named rm_place byte_rm_place reg_place
    reg_number memory_of opcode_reg alu_op unary_op shift_op imm8 imm64 arithmetic_of move_of
    flow_of exchange_of system_of insn_of
two = refl

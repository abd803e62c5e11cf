-- Instructions with their canonical encodings, computed.
use Rattle.std.proofs.Common.{◌≡◌, ℕ, [], ◌∷◌, Some, None, true, false, refl, ℤ, pos, negsuc}
use Rattle.erim_defs.specs.declared.insn.Base.TheVariants as bases
use Rattle.erim_defs.specs.declared.insn.Mem.{Mem}
use Rattle.erim_defs.specs.declared.insn.Place.TheVariants.{Reg, High, At}
use Rattle.erim_defs.specs.declared.insn.Src.TheVariants.{From, Imm}
use Rattle.erim_defs.specs.declared.insn.By.TheVariants.{Count, Cl}
use Rattle.erim_defs.specs.declared.insn.Width.TheVariants.{W1, W4, W8}
use Rattle.erim_defs.specs.declared.insn.AluOp.TheVariants.{Add, Cmp}
use Rattle.erim_defs.specs.declared.insn.ShiftOp.TheVariants.{Shl}
use Rattle.erim_defs.specs.declared.insn.Insn.TheVariants.{Alu, Mov, MovWide, MovZx, Lea, Push, Jcc}
use Rattle.erim_defs.specs.declared.insn.Insn.TheVariants.{JmpTo, Shift, Set, Wrpkru, Fence}
use Rattle.erim_defs.specs.Encoding.Canonical.{four_bytes, one_byte, eight_bytes, fits_byte}
use Rattle.erim_defs.specs.Encoding.Canonical.{width_bytes, shortest_bytes, lock_bytes, is_wide}
use Rattle.erim_defs.specs.Encoding.Canonical.{asks_rex, is_upper, bit_value, rex_byte, rex_of}
use Rattle.erim_defs.specs.Encoding.Canonical.{opcode_bytes, opcode_of_width, register_number}
use Rattle.erim_defs.specs.Encoding.Canonical.{modrm_byte, index_number, sib_byte, disp_mode}
use Rattle.erim_defs.specs.Encoding.Canonical.{disp_bytes, needs_sib, base_disp_bytes, memory_bytes}
use Rattle.erim_defs.specs.Encoding.Canonical.{operand_bytes, has_upper_index, has_upper_base}
use Rattle.erim_defs.specs.Encoding.Canonical.{opcode_with_modrm, opcode_with_register}
use Rattle.erim_defs.specs.Encoding.Canonical.{opcode_alone, reg_rm_bytes, rm_bytes, word_rm_bytes}
use Rattle.erim_defs.specs.Encoding.Canonical.{byte_rm_bytes, alu_number, alu_imm_bytes, alu_bytes}
use Rattle.erim_defs.specs.Encoding.Canonical.{test_bytes, mov_imm_bytes, mov_bytes, push_bytes}
use Rattle.erim_defs.specs.Encoding.Canonical.{extension_bytes, imul_bytes, shift_number}
use Rattle.erim_defs.specs.Encoding.Canonical.{shift_bytes, unary_bytes, control_bytes}
use Rattle.erim_defs.specs.Encoding.Canonical.{canonical_encoding}

with_base : ℕ → ℤ → Mem
with_base n d = record { base = bases.Reg n; index = None; scale = 0; disp = d }

absolute : ℤ → Mem
absolute d = record { base = bases.Zero; index = None; scale = 0; disp = d }

with_rip : ℤ → Mem
with_rip d = record { base = bases.Rip; index = None; scale = 0; disp = d }

Rows : Type 0
Rows =
    (canonical_encoding (Alu Add W4 (Reg 7) (From (Reg 5)) false) ≡ 0x01 ∷ 0xEF ∷ []) ×
    (canonical_encoding (Alu Add W8 (Reg 0) (From (At (with_base 3 (pos 0)))) false)
    ≡ 0x48 ∷ 0x03 ∷ 0x03 ∷ []) ×
    (canonical_encoding (Alu Add W1 (At (with_base 3 (pos 0))) (From (Reg 1)) true)
    ≡ 0xF0 ∷ 0x00 ∷ 0x0B ∷ []) ×
    (canonical_encoding (Alu Add W4 (Reg 0) (Imm (pos 5)) false) ≡ 0x83 ∷ 0xC0 ∷ 0x05 ∷ []) ×
    (canonical_encoding (Alu Cmp W4 (Reg 0) (Imm (pos 0x55555554)) false)
    ≡ 0x81 ∷ 0xF8 ∷ 0x54 ∷ 0x55 ∷ 0x55 ∷ 0x55 ∷ []) ×
    (canonical_encoding (Alu Add W1 (Reg 6) (Imm (negsuc 0)) false)
    ≡ 0x40 ∷ 0x80 ∷ 0xC6 ∷ 0xFF ∷ []) ×
    (canonical_encoding (Alu Add W1 (High 2) (From (High 0)) false) ≡ 0x00 ∷ 0xE6 ∷ []) ×
    (canonical_encoding (Mov W8 (Reg 0) (From (At (with_base 5 (negsuc 7)))))
    ≡ 0x48 ∷ 0x8B ∷ 0x45 ∷ 0xF8 ∷ []) ×
    (canonical_encoding (Mov W1 (At (absolute (pos 4198656))) (Imm (pos 1)))
    ≡ 0xC6 ∷ 0x04 ∷ 0x25 ∷ 0x00 ∷ 0x11 ∷ 0x40 ∷ 0x00 ∷ 0x01 ∷ []) ×
    (canonical_encoding (Mov W4 (Reg 9) (Imm (pos 1))) ≡ 0x41 ∷ 0xB9 ∷ 0x01 ∷ 0x00 ∷ 0x00 ∷ 0x00
    ∷ []) ×
    (canonical_encoding (Mov W8 (Reg 1) (Imm (negsuc 0))) ≡ 0x48 ∷ 0xC7 ∷ 0xC1 ∷ 0xFF ∷ 0xFF ∷ 0xFF
    ∷ 0xFF ∷ []) ×
    (canonical_encoding (MovWide 0 1) ≡ 0x48 ∷ 0xB8 ∷ 0x01 ∷ 0x00 ∷ 0x00 ∷ 0x00 ∷ 0x00 ∷ 0x00 ∷ 0x00
    ∷ 0x00 ∷ []) ×
    (canonical_encoding (MovZx W4 0 1 (Reg 5)) ≡ 0x40 ∷ 0x0F ∷ 0xB6 ∷ 0xC5 ∷ []) ×
    (canonical_encoding (Lea W8 8 (with_rip (pos 16))) ≡ 0x4C ∷ 0x8D ∷ 0x05 ∷ 0x10 ∷ 0x00 ∷ 0x00
    ∷ 0x00 ∷ []) ×
    (canonical_encoding (Lea W8 0
    (record {
      base = bases.Zero;
      index = Some 9;
      scale = 3;
      disp = pos 0;
    })) ≡ 0x4A ∷ 0x8D ∷ 0x04 ∷ 0xCD ∷ 0x00 ∷ 0x00 ∷ 0x00 ∷ 0x00 ∷ []) ×
    (canonical_encoding (Lea W8 0
    (record {
      base = bases.Reg 13;
      index = Some 1;
      scale = 2;
      disp = pos 0;
    })) ≡ 0x49 ∷ 0x8D ∷ 0x44 ∷ 0x8D ∷ 0x00 ∷ []) ×
    (canonical_encoding (Mov W4 (Reg 0) (From (At (with_base 12 (pos 128)))))
    ≡ 0x41 ∷ 0x8B ∷ 0x84 ∷ 0x24 ∷ 0x80 ∷ 0x00 ∷ 0x00 ∷ 0x00 ∷ []) ×
    (canonical_encoding (Mov W4 (Reg 0) (From (At (with_base 13 (pos 0)))))
    ≡ 0x41 ∷ 0x8B ∷ 0x45 ∷ 0x00 ∷ []) ×
    (canonical_encoding (Mov W4 (Reg 0) (From (At (with_base 4 (negsuc 127)))))
    ≡ 0x8B ∷ 0x44 ∷ 0x24 ∷ 0x80 ∷ []) ×
    (canonical_encoding (Push (Imm (negsuc 127))) ≡ 0x6A ∷ 0x80 ∷ []) ×
    (canonical_encoding (Push (Imm (pos 128))) ≡ 0x68 ∷ 0x80 ∷ 0x00 ∷ 0x00 ∷ 0x00 ∷ []) ×
    (canonical_encoding (Push (From (Reg 12))) ≡ 0x41 ∷ 0x54 ∷ []) ×
    (canonical_encoding (Shift Shl W8 (Reg 2) (Count 1)) ≡ 0x48 ∷ 0xC1 ∷ 0xE2 ∷ 0x01 ∷ []) ×
    (canonical_encoding (Shift Shl W1 (At (with_base 0 (pos 0))) Cl) ≡ 0xD2 ∷ 0x20 ∷ []) ×
    (canonical_encoding (Set 4 (Reg 0)) ≡ 0x0F ∷ 0x94 ∷ 0xC0 ∷ []) ×
    (canonical_encoding (Jcc 4 (pos 7)) ≡ 0x0F ∷ 0x84 ∷ 0x07 ∷ 0x00 ∷ 0x00 ∷ 0x00 ∷ []) ×
    (canonical_encoding (JmpTo (Reg 11)) ≡ 0x41 ∷ 0xFF ∷ 0xE3 ∷ []) ×
    (canonical_encoding Wrpkru ≡ 0x0F ∷ 0x01 ∷ 0xEF ∷ []) ×
    (canonical_encoding (Fence 6) ≡ 0x0F ∷ 0xAE ∷ 0xF0 ∷ [])

rows : Rows
unfolding Rows with_base absolute with_rip four_bytes one_byte eight_bytes fits_byte width_bytes
    shortest_bytes lock_bytes is_wide asks_rex is_upper bit_value rex_byte rex_of opcode_bytes
    opcode_of_width register_number modrm_byte index_number sib_byte disp_mode disp_bytes needs_sib
    base_disp_bytes memory_bytes operand_bytes has_upper_index has_upper_base opcode_with_modrm
    opcode_with_register opcode_alone reg_rm_bytes rm_bytes word_rm_bytes byte_rm_bytes alu_number
    alu_imm_bytes alu_bytes test_bytes mov_imm_bytes mov_bytes push_bytes extension_bytes imul_bytes
    shift_number shift_bytes unary_bytes control_bytes canonical_encoding
rows = (
  refl,
  refl,
  refl,
  refl,
  refl,
  refl,
  refl,
  refl,
  refl,
  refl,
  refl,
  refl,
  refl,
  refl,
  refl,
  refl,
  refl,
  refl,
  refl,
  refl,
  refl,
  refl,
  refl,
  refl,
  refl,
  refl,
  refl,
  refl,
  refl,
)

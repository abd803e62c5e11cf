-- The notation of some instructions, computed.
use Rattle.std.proofs.Common.{◌≡◌, ℕ, Some, None, false, true, refl}
use Rattle.std.specs.Prelude.{codes, ℤ, pos, negsuc}
use Rattle.std.specs.Fmt.{digits}
use Rattle.erim_defs.specs.declared.insn.Width.TheVariants.{W1, W4, W8}
use Rattle.erim_defs.specs.declared.insn.Base.TheVariants as bases
use Rattle.erim_defs.specs.declared.insn.Mem.{Mem}
use Rattle.erim_defs.specs.declared.insn.Place.TheVariants.{Reg, High, At}
use Rattle.erim_defs.specs.declared.insn.Src.TheVariants.{From, Imm}
use Rattle.erim_defs.specs.declared.insn.By.TheVariants.{Count, Cl}
use Rattle.erim_defs.specs.declared.insn.AluOp.TheVariants.{Add}
use Rattle.erim_defs.specs.declared.insn.ShiftOp.TheVariants.{Shl, Sar}
use Rattle.erim_defs.specs.declared.insn.Insn.TheVariants.{Alu, Mov, MovWide, Lea, MovZx, Imul, Jcc}
use Rattle.erim_defs.specs.declared.insn.Insn.TheVariants.{Shift, Cmov, Nop}
use Rattle.erim_defs.specs.Encoding.Notation.{notation_of, insn_text, insn_line}

-- memory at a register, and at a number
at : ℕ → ℤ → Mem
at r disp = record { base = bases.Reg r; index = None; scale = 0; disp = disp }

at_number : ℤ → Mem
at_number disp = record { base = bases.Zero; index = None; scale = 0; disp = disp }

moves_a_number : insn_line 0x401000 (Mov W4 (Reg 0) (Imm (pos 251658240)))
    ≡ codes "0x000000401000 mov4 r0, 251658240\n"
unfolding insn_line insn_text notation_of digits
moves_a_number = refl

adds_registers : insn_line 0x401005 (Alu Add W4 (Reg 7) (From (Reg 5)) false)
    ≡ codes "0x000000401005 add4 r7, r5\n"
unfolding insn_line insn_text notation_of digits
adds_registers = refl

loads : insn_text (Mov W8 (Reg 0) (From (At (at 5 (negsuc 7))))) ≡ codes "mov8 r0, [r5-8]"
unfolding insn_text notation_of digits at
loads = refl

loads_at_a_register : insn_text (Mov W8 (Reg 1) (From (At (at 0 (pos 0)))))
    ≡ codes "mov8 r1, [r0+0]"
unfolding insn_text notation_of digits at
loads_at_a_register = refl

stores_a_byte : insn_text (Mov W1 (At (at_number (pos 4198656))) (Imm (pos 1)))
    ≡ codes "mov1 [0+4198656], 1"
unfolding insn_text notation_of digits at_number
stores_a_byte = refl

has_no_operand : insn_text Nop ≡ codes "nop"
unfolding insn_text notation_of
has_no_operand = refl

shifts_by_a_number : insn_text (Shift Shl W4 (Reg 0) (Count 255)) ≡ codes "shl4 r0, 255"
unfolding insn_text notation_of digits
shifts_by_a_number = refl

shifts_by_cl : insn_text (Shift Sar W8 (Reg 15) Cl) ≡ codes "sar8 r15, cl"
unfolding insn_text notation_of digits
shifts_by_cl = refl

is_locked : insn_text (Alu Add W8 (At (at_number (pos 4210688))) (Imm (pos 1)) true)
    ≡ codes "lock add8 [0+4210688], 1"
unfolding insn_text notation_of digits at_number
is_locked = refl

counts_from_the_next : insn_text
    (Lea W8 1 (record { base = bases.Rip; index = None; scale = 0; disp = negsuc 4 }))
    ≡ codes "lea8 r1, [rip-5]"
unfolding insn_text notation_of digits
counts_from_the_next = refl

has_an_index : insn_text
    (Lea W8 1 (record { base = bases.Reg 3; index = Some 12; scale = 3; disp = pos 0 }))
    ≡ codes "lea8 r1, [r3+r12*8+0]"
unfolding insn_text notation_of digits
has_an_index = refl

jumps_on_a_condition : insn_text (Jcc 4 (pos 7)) ≡ codes "jcc 4, 7"
unfolding insn_text notation_of digits
jumps_on_a_condition = refl

moves_on_a_condition : insn_text (Cmov 4 W8 0 (Reg 1)) ≡ codes "cmov8 4, r0, r1"
unfolding insn_text notation_of digits
moves_on_a_condition = refl

extends : insn_text (MovZx W4 0 1 (High 3)) ≡ codes "movzx4 r0, 1, h3"
unfolding insn_text notation_of digits
extends = refl

moves_all_bytes : insn_text (MovWide 2 (18446744073709551615))
    ≡ codes "movwide r2, 18446744073709551615"
unfolding insn_text notation_of digits
moves_all_bytes = refl

multiplies : insn_text (Imul W4 0 (Reg 1) None) ≡ codes "imul4 r0, r1"
unfolding insn_text notation_of digits
multiplies = refl

multiplies_by_a_number : insn_text (Imul W4 0 (Reg 1) (Some (negsuc 1))) ≡ codes "imul4 r0, r1, -2"
unfolding insn_text notation_of digits
multiplies_by_a_number = refl

-- Operands of instructions as parts of their plans. SDM volume 1, "Operand addressing".
use Rattle.std.specs.Prelude.{ℕ, ◌+◌, ◌-◌, ◌*◌, ◌%◌, ◌^◌, Option, Some, None, ℤ}
use Rattle.std.specs.Int.{w64, cast_unsigned}
use Rattle.erim_defs.specs.declared.machine.Thread.{Thread}
use Rattle.erim_defs.specs.declared.insn.Width.{Width}
use Rattle.erim_defs.specs.declared.insn.Mem.{Mem}
use Rattle.erim_defs.specs.declared.insn.Base.{Base}
use Rattle.erim_defs.specs.declared.insn.Base.TheVariants as bases
use Rattle.erim_defs.specs.declared.insn.Place.{Place}
use Rattle.erim_defs.specs.declared.insn.Place.TheVariants.{At}
use Rattle.erim_defs.specs.declared.insn.Src.{Src}
use Rattle.erim_defs.specs.declared.insn.Src.TheVariants.{From, Imm}
use Rattle.erim_defs.specs.declared.register.TheConstants.{RSP}
use Rattle.erim_defs.specs.Machine.Plan.{Plan, Ask, Give}
use Rattle.erim_defs.specs.Machine.Registers.{byte_count, low_bytes, register, with_register}
use Rattle.erim_defs.specs.Machine.Registers.{operand, with_operand, next_rip}

-- ---- addresses: sums wrap

abbrev pub base_value : Base → ℕ → Thread → ℕ
base_value bases.Zero len t = 0
base_value (bases.Reg n) len t = register t n
base_value bases.Rip len t = next_rip len t

abbrev pub index_value : Option ℕ → Thread → ℕ
index_value None t = 0
index_value (Some n) t = register t n

-- the address of a memory operand of an instruction of a given number of bytes
abbrev pub address : Mem → ℕ → Thread → ℕ
address m len t =
    (base_value m.base len t + index_value m.index t * 2 ^ m.scale + cast_unsigned w64 m.disp)
    % 2 ^ 64

-- ---- what stands in an operand

-- goes on with the n bytes of an operand
abbrev pub on_place : ℕ → Place → ℕ → Thread → (ℕ → Plan) → Plan
on_place n (At m) len t k = Ask (address m len t) n k
on_place n place len t k = k (operand n place t)

-- an immediate is extended with its sign, and cut to the width
abbrev pub immediate : Width → ℤ → ℕ
immediate w i = low_bytes (byte_count w) (cast_unsigned w64 i)

abbrev pub on_source : Width → Src → ℕ → Thread → (ℕ → Plan) → Plan
on_source w (From place) len t k = on_place (byte_count w) place len t k
on_source w (Imm i) len t k = k (immediate w i)

-- ---- results

-- writes a value to an operand of t; next is t with all else that the instruction changes
abbrev pub write_to : Width → Place → ℕ → Thread → Thread → ℕ → Plan
write_to w (At m) len t next value = Give next
    (Some (record { addr = address m len t; count = byte_count w; value = value }))
write_to w place len t next value = Give (with_operand w place next value) None

-- ---- the stack

-- RSP after a number that is taken from the stack
abbrev pub raised_rsp : ℕ → ℕ
raised_rsp rsp = (rsp + 8) % 2 ^ 64

abbrev pub lowered_rsp : ℕ → ℕ
lowered_rsp rsp = (rsp + (2 ^ 64 - 8)) % 2 ^ 64

-- pushes a value; next is the thread with all else that the instruction changes
abbrev pub push : Thread → ℕ → Plan
push next value =
    Give (with_register next RSP (lowered_rsp (register next RSP)))
    (Some (record { addr = lowered_rsp (register next RSP); count = 8; value = value }))

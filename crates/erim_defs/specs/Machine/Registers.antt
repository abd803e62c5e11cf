-- The registers of a thread at each width. SDM volume 1, "General-purpose registers in 64-bit
-- mode": a write of 4 bytes clears the upper half, a write of 1 byte keeps the rest.
use Rattle.std.specs.Prelude.{ℕ, ◌+◌, ◌-◌, ◌*◌, ◌/◌, ◌%◌, ◌^◌, nat_lt, slice_index, slice_set}
use Rattle.std.specs.Prelude.{if◌then◌else◌, ℤ}
use Rattle.std.specs.Int.{w8, w32, w64, cast_unsigned}
use Rattle.std.specs.Int.{Width as IntWidth}
use Rattle.erim_defs.specs.declared.machine.Thread.{Thread}
use Rattle.erim_defs.specs.declared.machine.Flags.{Flags}
use Rattle.erim_defs.specs.declared.insn.Width.{Width}
use Rattle.erim_defs.specs.declared.insn.Width.TheVariants.{W1, W4, W8}
use Rattle.erim_defs.specs.declared.insn.Place.{Place}
use Rattle.erim_defs.specs.declared.insn.Place.TheVariants.{Reg, High, At}
use Rattle.erim_defs.specs.declared.register.TheConstants.{RAX}

-- ---- widths

abbrev pub byte_count : Width → ℕ
byte_count W1 = 1
byte_count W4 = 4
byte_count W8 = 8

abbrev pub int_width : Width → IntWidth
int_width W1 = w8
int_width W4 = w32
int_width W8 = w64

abbrev pub low_bytes : ℕ → ℕ → ℕ
low_bytes n x = x % 2 ^ (8 * n)

-- a signed number of n bytes, in 8 bytes
abbrev pub sign_extended : ℕ → ℕ → ℕ
sign_extended n x = if nat_lt x (2 ^ (8 * n - 1)) then x else x + (2 ^ 64 - 2 ^ (8 * n))

-- ---- whole registers

abbrev pub register : Thread → ℕ → ℕ
register t n = slice_index t.regs n

abbrev pub with_register : Thread → ℕ → ℕ → Thread
with_register t n value = record t { regs = slice_set t.regs n value }

-- the low half
abbrev pub low_half : ℕ → ℕ
low_half x = x % 2 ^ 32

abbrev pub eax : Thread → ℕ
eax t = low_half (register t RAX)

-- ---- operands in registers; no encoding has memory where these are asked

-- the low n bytes of a register, or its second byte
abbrev pub operand : ℕ → Place → Thread → ℕ
operand n (Reg r) t = low_bytes n (register t r)
operand n (High r) t = register t r / 256 % 256
operand n (At m) t = 0

abbrev pub with_low : Width → Thread → ℕ → ℕ → Thread
with_low W1 t r value = with_register t r (256 * (register t r / 256) + value)
with_low W4 t r value = with_register t r value
with_low W8 t r value = with_register t r value

abbrev pub with_high : Thread → ℕ → ℕ → Thread
with_high t r value =
    with_register t r
    (65536 * (register t r / 65536) + 256 * (value % 256) + register t r % 256)

abbrev pub with_operand : Width → Place → Thread → ℕ → Thread
with_operand w (Reg r) t value = with_low w t r value
with_operand w (High r) t value = with_high t r value
with_operand w (At m) t value = t

-- ---- flags and RIP

abbrev pub with_flags : Thread → Flags → Thread
with_flags t f = record t { flags = f }

-- the address of the next instruction
abbrev pub next_rip : ℕ → Thread → ℕ
next_rip len t = (t.rip + len) % 2 ^ 64

-- on to the next instruction
abbrev pub onward : ℕ → Thread → Thread
onward len t = record t { rip = next_rip len t }

abbrev pub jump : ℕ → ℤ → Thread → Thread
jump len rel t = record t { rip = (t.rip + len + cast_unsigned w64 rel) % 2 ^ 64 }

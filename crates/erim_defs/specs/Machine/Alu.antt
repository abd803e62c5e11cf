-- Results and flags of arithmetic and logic. SDM volume 1, "Status flags", and volume 2, ADD OR ADC
-- SBB AND SUB XOR CMP, NOT NEG INC DEC, SAL/SAR/SHL/SHR, IMUL, BT. AF isn't kept. Own: a flag that
-- the SDM leaves undefined stays as it was.
use Rattle.std.specs.Prelude.{ℕ, ◌+◌, ◌-◌, ◌*◌, ◌/◌, ◌%◌, ◌^◌, ◌==◌, ◌||◌, not, nat_lt, nat_le}
use Rattle.std.specs.Prelude.{Bool, false, if◌then◌else◌, ℤ, pos, negsuc, ◌+ℤ◌, ◌-ℤ◌, ◌*ℤ◌}
use Rattle.std.specs.Prelude.{bit_and, bit_or, bit_xor, count_ones, unsigned_abs}
use Rattle.std.specs.Int.{Width, byte_len, cast_signed, int_div_euclid, int_rem_euclid}
use Rattle.erim_defs.specs.declared.machine.Flags.{Flags}
use Rattle.erim_defs.specs.declared.machine.Outcome.{Outcome}
use Rattle.erim_defs.specs.declared.insn.AluOp.{AluOp}
use Rattle.erim_defs.specs.declared.insn.AluOp.TheVariants.{Add, Or, Adc, Sbb, And, Sub, Xor, Cmp}
use Rattle.erim_defs.specs.declared.insn.ShiftOp.{ShiftOp}
use Rattle.erim_defs.specs.declared.insn.ShiftOp.TheVariants.{Shl, Shr, Sar}
use Rattle.erim_defs.specs.declared.insn.UnaryOp.{UnaryOp}
use Rattle.erim_defs.specs.declared.insn.UnaryOp.TheVariants.{Not, Neg, Inc, Dec}
use Rattle.erim_defs.specs.Bits.{has_bit}

abbrev pub bits_of : Width → ℕ
bits_of w = 8 * byte_len w

-- the top bit of a number of this width
abbrev pub is_negative : Width → ℕ → Bool
is_negative w x = nat_le (2 ^ (bits_of w - 1)) x

-- does a signed number not fit the width
abbrev pub is_past_width : Width → ℤ → Bool
is_past_width w (pos n) = nat_le (2 ^ (bits_of w - 1)) n
is_past_width w (negsuc n) = nat_le (2 ^ (bits_of w - 1)) n

-- what the width holds of a signed number
abbrev pub wrap : Width → ℤ → ℕ
wrap w z = unsigned_abs (int_rem_euclid z (pos (2 ^ bits_of w)))

abbrev pub differ : Bool → Bool → Bool
differ x y = if x then not y else y

-- ZF, SF and PF are those of the result; PF looks at its low 8 bits
abbrev pub flags_of_result : Width → ℕ → Bool → Bool → Flags
flags_of_result w r carry overflow =
    record {
      cf = carry;
      pf = count_ones (r % 256) % 2 == 0;
      zf = r == 0;
      sf = is_negative w r;
      of = overflow;
    }

-- ---- two operands

abbrev pub carry_of : Flags → ℕ
carry_of f = if f.cf then 1 else 0

-- a + b + c
abbrev pub sum_of : Width → ℕ → ℕ → ℕ → Outcome
sum_of w a b c = (let r = (a + b + c) % 2 ^ bits_of w in record {
  value = r;
  flags = flags_of_result w r (nat_le (2 ^ bits_of w) (a + b + c))
      (is_past_width w (cast_signed w a +ℤ cast_signed w b +ℤ pos c));
})

-- a - b - c
abbrev pub difference_of : Width → ℕ → ℕ → ℕ → Outcome
difference_of w a b c = (let r = (a + (2 ^ bits_of w - b) + (2 ^ bits_of w - c)) % 2 ^ bits_of w in
    record {
      value = r;
      flags = flags_of_result w r (nat_lt a (b + c))
          (is_past_width w (cast_signed w a -ℤ cast_signed w b -ℤ pos c));
    })

abbrev pub by_bits : Width → ℕ → Outcome
by_bits w r = record { value = r; flags = flags_of_result w r false false }

-- operands of the width; the value of CMP is its first operand
unfoldable pub alu : AluOp → Width → ℕ → ℕ → Flags → Outcome
alu Add w a b f = sum_of w a b 0
alu Or w a b f = by_bits w (bit_or a b)
alu Adc w a b f = sum_of w a b (carry_of f)
alu Sbb w a b f = difference_of w a b (carry_of f)
alu And w a b f = by_bits w (bit_and a b)
alu Sub w a b f = difference_of w a b 0
alu Xor w a b f = by_bits w (bit_xor a b)
alu Cmp w a b f = (let o = difference_of w a b 0 in record o { value = a })

-- the signed product; SF, ZF and PF are undefined
unfoldable pub imul : Width → ℕ → ℕ → Flags → Outcome
imul w a b f = (let product = cast_signed w a *ℤ cast_signed w b in record {
  value = wrap w product;
  flags = record f { cf = is_past_width w product; of = is_past_width w product };
})

-- ---- one operand

abbrev pub keeping_carry : Flags → Outcome → Outcome
keeping_carry f o = (let g = o.flags in record o { flags = record g { cf = f.cf } })

unfoldable pub unary : UnaryOp → Width → ℕ → Flags → Outcome
unary Not w a f = record { value = 2 ^ bits_of w - 1 - a; flags = f }
unary Neg w a f = difference_of w 0 a 0
unary Inc w a f = keeping_carry f (sum_of w a 1 0)
unary Dec w a f = keeping_carry f (difference_of w a 1 0)

-- ---- shifts

-- the low 6 bits of a count at 8 bytes, else the low 5
abbrev pub shift_count : Width → ℕ → ℕ
shift_count w n = n % (if bits_of w == 64 then 64 else 32)

-- SAR rounds down
abbrev pub shift_result : ShiftOp → Width → ℕ → ℕ → ℕ
shift_result Shl w a n = (a * 2 ^ n) % 2 ^ bits_of w
shift_result Shr w a n = a / 2 ^ n
shift_result Sar w a n = wrap w (int_div_euclid (cast_signed w a) (pos (2 ^ n)))

-- bit k of a signed number in two's complement, which goes on with its sign
abbrev pub signed_bit : ℤ → ℕ → Bool
signed_bit (pos m) k = has_bit m k
signed_bit (negsuc m) k = not (has_bit m k)

-- CF is the bit that went last; it is undefined where SHL and SHR shift by the width and more
abbrev pub shift_carry : ShiftOp → Width → ℕ → ℕ → Bool → Bool
shift_carry Shl w a n cf = if nat_lt n (bits_of w) then has_bit a (bits_of w - n) else cf
shift_carry Shr w a n cf = if nat_lt n (bits_of w) then has_bit a (n - 1) else cf
shift_carry Sar w a n cf = signed_bit (cast_signed w a) (n - 1)

-- OF after a shift of a by 1 to r, which has this carry
abbrev pub shift_overflow : ShiftOp → Width → ℕ → ℕ → Bool → Bool
shift_overflow Shl w a r carry = differ (is_negative w r) carry
shift_overflow Shr w a r carry = is_negative w a
shift_overflow Sar w a r carry = false

-- by 1 bit or more; OF is undefined where it is more
abbrev pub shift_by : ShiftOp → Width → ℕ → ℕ → Flags → Outcome
shift_by op w a n f =
    (let r = shift_result op w a n in
    let carry = shift_carry op w a n f.cf in
    record {
      value = r;
      flags = flags_of_result w r carry
          (if n == 1 then shift_overflow op w a r carry else f.of);
    })

-- a shift by 0 bits changes no flag
unfoldable pub shift : ShiftOp → Width → ℕ → ℕ → Flags → Outcome
shift op w a n f = if shift_count w n == 0 then record { value = a; flags = f }
    else shift_by op w a (shift_count w n) f

-- ---- bits and conditions

-- BT: CF is the bit of this number, which is taken by the width
unfoldable pub bt : Width → ℕ → ℕ → Flags → Flags
bt w a bit f = record f { cf = has_bit a (bit % bits_of w) }

-- SDM volume 2, Jcc: each odd condition denies the one before it
unfoldable pub condition : ℕ → Flags → Bool
condition c f =
    if c == 0 then f.of else if c == 1 then not f.of
    else if c == 2 then f.cf else if c == 3 then not f.cf
    else if c == 4 then f.zf else if c == 5 then not f.zf
    else if c == 6 then f.cf || f.zf else if c == 7 then not (f.cf || f.zf)
    else if c == 8 then f.sf else if c == 9 then not f.sf
    else if c == 10 then f.pf else if c == 11 then not f.pf
    else if c == 12 then differ f.sf f.of else if c == 13 then not (differ f.sf f.of)
    else if c == 14 then f.zf || differ f.sf f.of else not (f.zf || differ f.sf f.of)

-- Instructions as they stand in a code. SDM volume 2, "Instruction format": prefixes, opcode,
-- ModRM, SIB, displacement, and the number that ends it. The sweep over a function is own.
use Rattle.std.specs.Prelude.{ℕ, zero, suc, ◌+◌, ◌-◌, ◌/◌, ◌%◌, ◌^◌, ◌==◌, ◌&&◌, nat_le, nat_lt}
use Rattle.std.specs.Prelude.{Bool, false, List, [], ◌∷◌, length, take, drop, slice_index}
use Rattle.std.specs.Prelude.{slice_range, Option, Some, None, Result, Ok, Err, ℤ, if◌then◌else◌}
use Rattle.std.specs.Int.{w64, cast_unsigned}
use Rattle.erim_defs.specs.declared.grammar.Stop.{Stop}
use Rattle.erim_defs.specs.declared.insn.Insn.{Insn}
use Rattle.erim_defs.specs.declared.insn.Insn.TheVariants.{Jcc, Jmp, Call}
use Rattle.erim_defs.specs.Encoding.Parts.{signed_value}
use Rattle.erim_defs.specs.Encoding.Grammar.{InsnAndSizes}
use Rattle.erim_defs.specs.Encoding.Decoding.{front_at}

-- where it stands, its bytes, what it is, how many of them stand before its opcode, and the sizes
-- of its displacement and of the number that ends it: an immediate, or a direct branch's offset
pub record Standing : Type 0 where
  pub at : ℕ
  pub bytes : List ℕ
  pub insn : Insn
  pub skip : ℕ
  pub disp : ℕ
  pub imm : ℕ

-- the address after it
abbrev pub insn_end : Standing → ℕ
insn_end i = i.at + length i.bytes

-- ---- what stands at an address, and what follows it

abbrev pub standing_as : ℕ → List ℕ → Result (InsnAndSizes × List ℕ) Stop → Option Standing
standing_as at window (Err stop) = None
standing_as at window (Ok x) = Some (record {
  at = at;
  bytes = take (length window - length x.1) window;
  insn = x.0.0;
  skip = x.0.1;
  disp = x.0.2;
  imm = x.0.3;
})

-- the instruction that bytes at an address begin with, where there is one
unfoldable pub standing : ℕ → List ℕ → Option Standing
standing at bytes = standing_as at (take 15 bytes) (front_at 0 false false (take 15 bytes))

-- an instruction and what follows it, or nothing
abbrev pub then_more : Option Standing → (Standing → List Standing) → List Standing
then_more None more = []
then_more (Some i) more = i ∷ more i

-- the instructions of bytes from an address on, one after the other, as far as they decode; there
-- are at most n
unfoldable pub sweep : ℕ → ℕ → List ℕ → List Standing
sweep zero at bytes = []
sweep (suc n) at bytes =
    then_more (standing at bytes) (λ i. sweep n (insn_end i) (drop (length i.bytes) bytes))

-- ---- its parts

-- is an address among so many from a place on
abbrev pub in_part : ℕ → ℕ → ℕ → Bool
in_part place len a = nat_le place a && nat_lt a (place + len)

-- the address of its displacement, which stands before the number
abbrev pub disp_place : Standing → ℕ
disp_place i = insn_end i - (i.imm + i.disp)

abbrev pub in_disp : Standing → ℕ → Bool
in_disp i = in_part (disp_place i) i.disp

abbrev pub in_number : Standing → ℕ → Bool
in_number i = in_part (insn_end i - i.imm) i.imm

-- the offset of a direct branch
abbrev pub rel_of : Insn → Option ℤ
rel_of (Jcc c rel) = Some rel
rel_of (Jmp rel) = Some rel
rel_of (Call rel) = Some rel
rel_of other = None

-- the byte after an opcode of one byte, or of two after 0F
abbrev pub modrm_of : Standing → ℕ
modrm_of i = if slice_index i.bytes i.skip == 0x0F then slice_index i.bytes (i.skip + 2)
    else slice_index i.bytes (i.skip + 1)

-- its displacement counts from RIP: mod 0 and r/m 5. A Nop has one too, so its bytes are asked
abbrev pub has_rip : Standing → Bool
has_rip i = nat_lt 0 i.disp && (modrm_of i / 64 == 0 && modrm_of i % 8 == 5)

-- an address and an offset from it
abbrev pub moved_by : ℕ → ℤ → ℕ
moved_by from z = (from + cast_unsigned w64 z) % 2 ^ 64

-- the address that such a displacement names
abbrev pub rip_target : Standing → ℕ
rip_target i =
    let place = disp_place i - i.at in
    moved_by (insn_end i) (signed_value (slice_range i.bytes place (place + i.disp)))

-- where a direct branch leads
abbrev pub led_to : ℕ → Option ℤ → Option ℕ
led_to from None = None
led_to from (Some rel) = Some (moved_by from rel)

abbrev pub target_of : Standing → Option ℕ
target_of i = led_to (insn_end i) (rel_of i.insn)

-- Regions, the reasons why there are none, and copies of small programs, computed. The values were
-- made by a program that shares nothing with the definitions, or follow from the text by hand.
use Rattle.std.proofs.Common.{◌≡◌, ℕ, ◌-◌, List, [], ◌∷◌, map, Option, Some, None, false, refl}
use Rattle.std.proofs.Common.{true}
use Rattle.std.proofs.Common.{Result, Ok, Err, get_or}
use Rattle.std.specs.Prelude.{if◌then◌else◌}
use Rattle.std.specs.List.{flat_map}
use Rattle.erim_defs.specs.declared.found.SeqKind.TheVariants as kinds
use Rattle.erim_defs.specs.declared.found.Found.{Found}
use Rattle.erim_defs.specs.declared.rewriting.Why.{Why}
use Rattle.erim_defs.specs.declared.rewriting.Why.TheVariants.{Trusted, Outside, Undecoded}
use Rattle.erim_defs.specs.declared.rewriting.Why.TheVariants.{Intended, Call, Room, Target}
use Rattle.erim_defs.specs.declared.rewriting.Why.TheVariants.{Displacement, Immediate}
use Rattle.erim_defs.specs.declared.segment.Segment.{Segment}
use Rattle.erim_defs.specs.declared.trust.Span.{Span}
use Rattle.erim_defs.specs.Inspection.Code.{Code}
use Rattle.erim_defs.specs.Inspection.Trust.{TrustValue, plain_trust}
use Rattle.erim_defs.specs.Inspection.Check.{check_of}
use Rattle.erim_defs.specs.Inspection.Occurrence.{occurrence_at, are_present}
use Rattle.erim_defs.specs.Inspection.Safe.{fits, unsafe_at}
use Rattle.erim_defs.specs.Inspection.Unsafe.{first_below}
use Rattle.erim_defs.specs.Machine.Least.{least_below}
use Rattle.erim_defs.specs.Encoding.Decoding.{row_at, modrm_follows, sooner_stop, operand_len}
use Rattle.erim_defs.specs.Encoding.Decoding.{stop_of, least_modrm, modrm_stop, without_modrm_at}
use Rattle.erim_defs.specs.Encoding.Decoding.{after_modrm_at, modrm_at, tail_at, least_body}
use Rattle.erim_defs.specs.Encoding.Decoding.{least_second, body_at, rex_at, f3_at, front_at}
use Rattle.erim_defs.specs.Encoding.Grammar.{admits, is_prefix, is_rex, rex_bits, prefix_lead}
use Rattle.erim_defs.specs.Encoding.Grammar.{with_f3, with_rex, fields_of}
use Rattle.erim_defs.specs.Encoding.Cursor.{sib_at, operand_at}
use Rattle.erim_defs.specs.Encoding.Operand.{reg_with_bit, has_sib, disp_size, sib_mem, place_of}
use Rattle.erim_defs.specs.Encoding.Forms.{operand_width, rex_width, register_named, rm_place}
use Rattle.erim_defs.specs.Encoding.Forms.{byte_rm_place, reg_place, reg_number, memory_of}
use Rattle.erim_defs.specs.Encoding.Forms.{opcode_reg, alu_op, unary_op, shift_op, imm8, imm64}
use Rattle.erim_defs.specs.Encoding.Forms.{arithmetic_of, move_of, flow_of, exchange_of, system_of}
use Rattle.erim_defs.specs.Encoding.Forms.{insn_of}
use Rattle.erim_defs.specs.Encoding.Canonical.{four_bytes, one_byte, eight_bytes, fits_byte}
use Rattle.erim_defs.specs.Encoding.Canonical.{width_bytes, shortest_bytes, lock_bytes, is_wide}
use Rattle.erim_defs.specs.Encoding.Canonical.{asks_rex, is_upper, bit_value, rex_byte, rex_of}
use Rattle.erim_defs.specs.Encoding.Canonical.{opcode_bytes, opcode_of_width, register_number}
use Rattle.erim_defs.specs.Encoding.Canonical.{modrm_byte, index_number, sib_byte, disp_mode}
use Rattle.erim_defs.specs.Encoding.Canonical.{disp_bytes, needs_sib, base_disp_bytes, memory_bytes}
use Rattle.erim_defs.specs.Encoding.Canonical.{operand_bytes, has_upper_index, has_upper_base}
use Rattle.erim_defs.specs.Encoding.Canonical.{opcode_with_modrm, opcode_with_register}
use Rattle.erim_defs.specs.Encoding.Canonical.{opcode_alone, word_rm_bytes, rm_bytes, mov_imm_bytes}
use Rattle.erim_defs.specs.Encoding.Canonical.{mov_bytes, control_bytes, canonical_encoding}
use Rattle.erim_defs.specs.Rewriting.Standing.{in_part, standing, sweep}
use Rattle.erim_defs.specs.Rewriting.Sites.{Function, Program, first_of, addresses, Region}
use Rattle.erim_defs.specs.Rewriting.Sites.{insns_of}
use Rattle.erim_defs.specs.Rewriting.Sites.{region_start}
use Rattle.erim_defs.specs.Rewriting.Sites.{region_end, why, Obstacle, regions_by, regions_from}
use Rattle.erim_defs.specs.Rewriting.Copies.{is_quiet, split_by, split, insn_parts, parts_from}
use Rattle.erim_defs.specs.Rewriting.Copies.{copy_parts, bytes_of}
use Rattle.erim_defs.specs.Rewriting.Home.{home, is_dropped, loaded_span, region_spans}
use Rattle.erim_defs.specs.Rewriting.Layout.{over, Copy, candidate, copy_at, region_bytes}
use Rattle.erim_defs.specs.Rewriting.Layout.{known_code}
use Rattle.erim_defs.specs.Rewriting.Layout.{none_from}
use Rattle.erim_defs.specs.Rewriting.Layout.{is_untouched, placed_copy, copies_from}

-- ---- programs of one function at 0x401000

abbrev wrpkru : ℕ → Found
wrpkru a = record { at = a; len = 3; kind = kinds.Wrpkru }

-- an XRSTOR of 7 bytes
abbrev xrstor : ℕ → Found
xrstor a = record { at = a; len = 7; kind = kinds.Xrstor }

abbrev functions : List ℕ → List Function
functions [] = []
functions bytes = record { start = 0x401000; bytes = bytes } ∷ []

abbrev program : List ℕ → List Span → List ℕ → ℕ → Program
program bytes texts entries entry = record {
  functions = functions bytes;
  trust = plain_trust texts entries;
  entry = entry;
}

abbrev plain : List ℕ → Program
plain bytes = program bytes [] [] 0x401000

-- where regions start and end, or the first element that can't be rewritten, and why
abbrev shown : Result (List Region) Obstacle → Result (List (ℕ × ℕ)) (ℕ × Why)
shown (Ok regions) = Ok (map (λ r. (region_start r, region_end r)) regions)
shown (Err r) = Err (r.at, r.why)

abbrev regions_of : Program → List Found → Result (List (ℕ × ℕ)) (ℕ × Why)
regions_of p elements = shown (regions_from p None elements)

abbrev texts : ℕ → List Span
texts a = record { start = a; length = 4096 } ∷ []

-- MOV EAX, and ADD to EAX, of an immediate that holds a WRPKRU
abbrev moved : List ℕ
moved = 0xB8 ∷ 0x0F ∷ 0x01 ∷ 0xEF ∷ 0x00 ∷ []

abbrev added : List ℕ
added = 0x05 ∷ 0x0F ∷ 0x01 ∷ 0xEF ∷ 0x00 ∷ []

-- a MOV, a JMP and a CALL of 5 bytes that end with 0F, and ADD EDI, EBP after them
abbrev over_two : ℕ → List ℕ
over_two op = op ∷ 0x00 ∷ 0x00 ∷ 0x00 ∷ 0x0F ∷ 0x01 ∷ 0xEF ∷ []

-- ADD AL, 0F, and ADD EDI, EBP after it
abbrev short : List ℕ → List ℕ
short more = 0x04 ∷ 0x0F ∷ 0x01 ∷ 0xEF ∷ more

-- MOV ECX of memory, by a ModRM byte and a displacement that holds a WRPKRU
abbrev loaded : ℕ → List ℕ
loaded m = 0x8B ∷ m ∷ 0x0F ∷ 0x01 ∷ 0xEF ∷ 0x00 ∷ []

-- MOV EAX of an immediate that holds the beginning of an XRSTOR, which goes on in the ADD after it
abbrev restored : List ℕ
restored = 0xB8 ∷ 0x0F ∷ 0xAE ∷ 0x2D ∷ 0x00 ∷ 0x05 ∷ 0x00 ∷ 0x00 ∷ 0x00 ∷ 0x00 ∷ []

-- each reason just so, and just not
abbrev Reasons : Type 0
Reasons =
    (regions_of (plain (over_two 0xB8)) (wrpkru 0x401004 ∷ []) ≡ Ok ((0x401000, 0x401007) ∷ []))
    × (regions_of (plain moved) (wrpkru 0x401001 ∷ []) ≡ Ok ((0x401000, 0x401005) ∷ []))
    × (regions_of (plain restored) (xrstor 0x401001 ∷ []) ≡ Ok ((0x401000, 0x40100A) ∷ []))
    × (regions_of (program moved (texts 0x401003) [] 0x401000) (wrpkru 0x401001 ∷ [])
    ≡ Err (0x401001, Trusted))
    × (regions_of (program moved (texts 0x401004) [] 0x401000) (wrpkru 0x401001 ∷ [])
    ≡ Ok ((0x401000, 0x401005) ∷ []))
    × (regions_of (plain []) (wrpkru 0x401001 ∷ []) ≡ Err (0x401001, Outside))
    × (regions_of (plain (0xB8 ∷ 0x0F ∷ 0x01 ∷ [])) (wrpkru 0x401001 ∷ [])
    ≡ Err (0x401001, Outside))
    × (regions_of (plain (0xB8 ∷ 0x0F ∷ 0x01 ∷ 0xEF ∷ [])) (wrpkru 0x401001 ∷ [])
    ≡ Err (0x401001, Undecoded))
    × (regions_of (plain (0x0F ∷ 0x01 ∷ 0xEF ∷ 0x90 ∷ 0x90 ∷ [])) (wrpkru 0x401000 ∷ [])
    ≡ Err (0x401000, Intended))
    × (regions_of (plain (over_two 0xE8)) (wrpkru 0x401004 ∷ []) ≡ Err (0x401004, Call))
    × (regions_of (plain (over_two 0xE9)) (wrpkru 0x401004 ∷ []) ≡ Ok ((0x401000, 0x401007) ∷ []))
    × (regions_of (plain (short [])) (wrpkru 0x401001 ∷ []) ≡ Err (0x401001, Room))
    × (regions_of (plain (short (0x90 ∷ []))) (wrpkru 0x401001 ∷ [])
    ≡ Ok ((0x401000, 0x401005) ∷ []))
    × (regions_of (program (over_two 0xB8) [] (0x401006 ∷ []) 0x401000) (wrpkru 0x401004 ∷ [])
    ≡ Err (0x401004, Target))
    × (regions_of (program (over_two 0xB8) [] (0x401007 ∷ []) 0x401001) (wrpkru 0x401004 ∷ [])
    ≡ Err (0x401004, Target))
    × (regions_of (program (over_two 0xB8) [] (0x401007 ∷ []) 0x401000) (wrpkru 0x401004 ∷ [])
    ≡ Ok ((0x401000, 0x401007) ∷ []))
    × (regions_of (plain (loaded 0x88)) (wrpkru 0x401002 ∷ []) ≡ Err (0x401002, Displacement))
    × (regions_of (plain (loaded 0x0D)) (wrpkru 0x401002 ∷ []) ≡ Ok ((0x401000, 0x401006) ∷ []))
    × (regions_of (plain added) (wrpkru 0x401001 ∷ []) ≡ Err (0x401001, Immediate))

reasons : Reasons
unfolding row_at modrm_follows sooner_stop operand_len stop_of least_modrm modrm_stop
    without_modrm_at after_modrm_at modrm_at tail_at least_body least_second body_at rex_at f3_at
    front_at admits is_prefix is_rex rex_bits prefix_lead with_f3 with_rex fields_of sib_at
    operand_at reg_with_bit has_sib disp_size sib_mem place_of operand_width rex_width
    register_named rm_place byte_rm_place reg_place reg_number memory_of opcode_reg alu_op unary_op
    shift_op imm8 imm64 arithmetic_of move_of flow_of exchange_of system_of insn_of standing sweep
    first_of addresses why regions_by
reasons = (
  refl,
  refl,
  refl,
  refl,
  refl,
  refl,
  refl,
  refl,
  refl,
  refl,
  refl,
  refl,
  refl,
  refl,
  refl,
  refl,
  refl,
  refl,
  refl,
)

-- ---- copies

-- bytes with zeros after them in a page at 0x401000
abbrev page : List ℕ → Code
page bytes = λ a. if in_part 0x401000 4096 a then Some (get_or bytes (a - 0x401000) 0) else None

abbrev first_at : List Found → ℕ
first_at [] = 0
first_at (e ∷ es) = e.at

abbrev laid_by : Code → ℕ → Result (List Region) Obstacle → Result (List Copy) Region
laid_by c base (Ok regions) = copies_from (λ r. false) (record { code = c; base = base }) [] regions
laid_by c base (Err refused) = Ok []

-- a copy's address and bytes, and what stands in its region's place; or a region without a copy
abbrev shown_copies : Result (List Copy) Region → Result (List (ℕ × List ℕ × List ℕ)) ℕ
shown_copies (Ok copies) = Ok (map (λ k. (copy_at k, bytes_of k.parts, region_bytes k)) copies)
shown_copies (Err r) = Err (first_at r.elements)

-- the address and the home of each part
abbrev shown_homes : Result (List Copy) Region → List (ℕ × ℕ)
shown_homes (Ok copies) = flat_map (λ k. map (λ p. (p.at, p.home)) k.parts) copies
shown_homes (Err r) = []

abbrev copies_of : List ℕ → ℕ → List Found → Result (List Copy) Region
copies_of bytes base elements = laid_by (page bytes) base (regions_from (plain bytes) None elements)

-- a byte 90 between two instructions; a MOV in two; a displacement from RIP; a byte 90 before the
-- copy, since the jump to it has a WRPKRU without; an XRSTOR over two instructions; a jump that
-- is too far
abbrev Copied : Type 0
Copied =
    (shown_copies (copies_of (over_two 0xB8) 0x402000 (wrpkru 0x401004 ∷ [])) ≡ Ok ((
      0x402000,
      0xB8 ∷ 0x00 ∷ 0x00 ∷ 0x00 ∷ 0x0F ∷ 0x90 ∷ 0x01 ∷ 0xEF
          ∷ 0xE9 ∷ 0xFA ∷ 0xEF ∷ 0xFF ∷ 0xFF ∷ [],
      0xE9 ∷ 0xFB ∷ 0x0F ∷ 0x00 ∷ 0x00 ∷ 0x90 ∷ 0x90 ∷ [],
    ) ∷ []))
    × (shown_homes (copies_of (over_two 0xB8) 0x402000 (wrpkru 0x401004 ∷ [])) ≡ (
    (0x402000, 0x401000) ∷ (0x402005, 0x401005) ∷ (0x402006, 0x401005) ∷ (0x402008, 0x401007)
    ∷ []
    ))
    × (shown_copies (copies_of moved 0x402000 (wrpkru 0x401001 ∷ [])) ≡ Ok ((
      0x402000,
      0xB8 ∷ 0x0E ∷ 0x01 ∷ 0xEF ∷ 0x00 ∷ 0x8D ∷ 0x40 ∷ 0x01
          ∷ 0xE9 ∷ 0xF8 ∷ 0xEF ∷ 0xFF ∷ 0xFF ∷ [],
      0xE9 ∷ 0xFB ∷ 0x0F ∷ 0x00 ∷ 0x00 ∷ [],
    ) ∷ []))
    × (shown_homes (copies_of moved 0x402000 (wrpkru 0x401001 ∷ [])) ≡ (
    (0x402000, 0x401000) ∷ (0x402005, 0x401000) ∷ (0x402008, 0x401005) ∷ []
    ))
    × (shown_copies (copies_of (loaded 0x0D) 0x402000 (wrpkru 0x401002 ∷ [])) ≡ Ok ((
      0x402000,
      0x8B ∷ 0x0D ∷ 0x0F ∷ 0xF1 ∷ 0xEE ∷ 0x00 ∷ 0xE9 ∷ 0xFB ∷ 0xEF ∷ 0xFF ∷ 0xFF ∷ [],
      0xE9 ∷ 0xFB ∷ 0x0F ∷ 0x00 ∷ 0x00 ∷ 0x90 ∷ [],
    ) ∷ []))
    × (shown_copies (copies_of moved 0x12F1114 (wrpkru 0x401001 ∷ [])) ≡ Ok ((
      0x12F1115,
      0xB8 ∷ 0x0E ∷ 0x01 ∷ 0xEF ∷ 0x00 ∷ 0x8D ∷ 0x40 ∷ 0x01
          ∷ 0xE9 ∷ 0xE3 ∷ 0xFE ∷ 0x10 ∷ 0xFF ∷ [],
      0xE9 ∷ 0x10 ∷ 0x01 ∷ 0xEF ∷ 0x00 ∷ [],
    ) ∷ []))
    × (shown_copies (copies_of restored 0x402000 (xrstor 0x401001 ∷ [])) ≡ Ok ((
      0x402000,
      0xB8 ∷ 0x0E ∷ 0xAE ∷ 0x2D ∷ 0x00 ∷ 0x8D ∷ 0x40 ∷ 0x01 ∷ 0x05 ∷ 0x00 ∷ 0x00 ∷ 0x00 ∷ 0x00
          ∷ 0xE9 ∷ 0xF8 ∷ 0xEF ∷ 0xFF ∷ 0xFF ∷ [],
      0xE9 ∷ 0xFB ∷ 0x0F ∷ 0x00 ∷ 0x00 ∷ 0x90 ∷ 0x90 ∷ 0x90 ∷ 0x90 ∷ 0x90 ∷ [],
    ) ∷ []))
    × (shown_copies (copies_of moved 0x80401005 (wrpkru 0x401001 ∷ [])) ≡ Err 0x401001)

copied : Copied
unfolding row_at modrm_follows sooner_stop operand_len stop_of least_modrm modrm_stop
    without_modrm_at after_modrm_at modrm_at tail_at least_body least_second body_at rex_at f3_at
    front_at admits is_prefix is_rex rex_bits prefix_lead with_f3 with_rex fields_of sib_at
    operand_at reg_with_bit has_sib disp_size sib_mem place_of operand_width rex_width
    register_named rm_place byte_rm_place reg_place reg_number memory_of opcode_reg alu_op unary_op
    shift_op imm8 imm64 arithmetic_of move_of flow_of exchange_of system_of insn_of standing sweep
    first_of addresses why regions_by is_quiet split_by split insn_parts parts_from copy_parts
    known_code
    none_from is_untouched placed_copy copies_from occurrence_at are_present first_below least_below
    four_bytes
    one_byte eight_bytes fits_byte width_bytes shortest_bytes lock_bytes is_wide asks_rex is_upper
    bit_value rex_byte rex_of opcode_bytes opcode_of_width register_number modrm_byte index_number
    sib_byte disp_mode disp_bytes needs_sib base_disp_bytes memory_bytes operand_bytes
    has_upper_index has_upper_base opcode_with_modrm opcode_with_register opcode_alone rm_bytes
    word_rm_bytes mov_imm_bytes mov_bytes control_bytes canonical_encoding
copied = (refl, refl, refl, refl, refl, refl, refl, refl)

-- ---- a sequence outside of the regions that a copy after it makes unsafe

-- a WRPKRU at the page's end, which is safe as long as no bytes stand after it
abbrev with_last : Code
with_last = over (record { at = 0x401FFD; bytes = Some 0x0F ∷ Some 0x01 ∷ Some 0xEF ∷ [] })
    (page moved)

abbrev none : TrustValue
none = plain_trust [] []

abbrev unsafe_in : Result (List Copy) Region → ℕ → Option Found
unsafe_in (Err r) a = None
unsafe_in (Ok copies) a =
    unsafe_at none (known_code (record { code = with_last; base = 0x402000 }) copies []) a

safe_before : unsafe_at none with_last 0x401FFD ≡ None
unfolding unsafe_at fits check_of occurrence_at are_present
safe_before = refl

unsafe_behind : unsafe_in (laid_by with_last 0x402000
    (regions_from (plain moved) None (wrpkru 0x401001 ∷ []))) 0x401FFD ≡ Some (wrpkru 0x401FFD)
unfolding unsafe_at fits check_of row_at modrm_follows sooner_stop operand_len stop_of least_modrm
    modrm_stop without_modrm_at after_modrm_at modrm_at tail_at least_body least_second body_at
    rex_at f3_at front_at admits is_prefix is_rex rex_bits prefix_lead with_f3 with_rex fields_of
    sib_at operand_at reg_with_bit has_sib disp_size sib_mem place_of operand_width rex_width
    register_named rm_place byte_rm_place reg_place reg_number memory_of opcode_reg alu_op unary_op
    shift_op imm8 imm64 arithmetic_of move_of flow_of exchange_of system_of insn_of standing sweep
    first_of addresses why regions_by is_quiet split_by split insn_parts parts_from copy_parts
    known_code
    none_from is_untouched placed_copy copies_from occurrence_at are_present first_below least_below
    four_bytes
    one_byte eight_bytes fits_byte width_bytes shortest_bytes lock_bytes is_wide asks_rex is_upper
    bit_value rex_byte rex_of opcode_bytes opcode_of_width register_number modrm_byte index_number
    sib_byte disp_mode disp_bytes needs_sib base_disp_bytes memory_bytes operand_bytes
    has_upper_index has_upper_base opcode_with_modrm opcode_with_register opcode_alone rm_bytes
    word_rm_bytes mov_imm_bytes mov_bytes control_bytes canonical_encoding
unsafe_behind = refl

-- ---- homes, and changed bytes

-- the copy of a MOV in two at 0x402000, of the region at 0x401000
abbrev the_copy : Copy
the_copy = candidate (record {
  from = insns_of (record { start = 0x401000; bytes = moved });
  elements = wrpkru 0x401001 ∷ [];
}) 0x402000 0

-- in the copy: the MOV, the LEA, the jump back; then elsewhere; and the MOV, reached without the
-- jump into the copy
abbrev Homes : Type 0
Homes =
    (map (home (Some the_copy)) (0x402000 ∷ 0x402005 ∷ 0x402008 ∷ 0x401005 ∷ [])
    ≡ 0x401000 ∷ 0x401000 ∷ 0x401005 ∷ 0x401005 ∷ [])
    × (home None 0x402005 ≡ 0x402005)
    × (map (is_dropped (the_copy ∷ []) (Some the_copy))
    (0x402000 ∷ 0x402005 ∷ 0x402008 ∷ 0x401005 ∷ []) ≡ true ∷ false ∷ true ∷ false ∷ [])
    × (map (is_dropped (the_copy ∷ []) None) (0x401000 ∷ 0x402000 ∷ []) ≡ true ∷ false ∷ [])

homes : Homes
unfolding row_at modrm_follows sooner_stop operand_len stop_of least_modrm modrm_stop
    without_modrm_at after_modrm_at modrm_at tail_at least_body least_second body_at rex_at f3_at
    front_at admits is_prefix is_rex rex_bits prefix_lead with_f3 with_rex fields_of sib_at
    operand_at reg_with_bit has_sib disp_size sib_mem place_of operand_width rex_width
    register_named rm_place byte_rm_place reg_place reg_number memory_of opcode_reg alu_op unary_op
    shift_op imm8 imm64 arithmetic_of move_of flow_of exchange_of system_of insn_of standing sweep
    first_of is_quiet split_by split insn_parts parts_from copy_parts occurrence_at are_present
    first_below least_below four_bytes one_byte eight_bytes fits_byte width_bytes shortest_bytes
    lock_bytes is_wide asks_rex is_upper bit_value rex_byte rex_of opcode_bytes opcode_of_width
    register_number modrm_byte index_number sib_byte disp_mode disp_bytes needs_sib base_disp_bytes
    memory_bytes operand_bytes has_upper_index has_upper_base opcode_with_modrm
    opcode_with_register opcode_alone rm_bytes word_rm_bytes mov_imm_bytes mov_bytes control_bytes
    canonical_encoding
homes = (refl, refl, refl, refl)

-- a segment that loads 4096 bytes of the file from a place on at 0x400000
abbrev loading : ℕ → Segment
loading place =
    record { vaddr = 0x400000; offset = place; filesz = 4096; memsz = 4096; flags = 4 }

abbrev shown_spans : List Span → List (ℕ × ℕ)
shown_spans spans = map (λ s. (s.start, s.length)) spans

-- all bytes of a field, its last four, none
abbrev Loaded : Type 0
Loaded =
    (shown_spans (loaded_span 32 40 (loading 0)) ≡ (0x400020, 8) ∷ [])
    × (shown_spans (loaded_span 32 40 (loading 36)) ≡ (0x400000, 4) ∷ [])
    × (shown_spans (loaded_span 32 40 (loading 40)) ≡ [])
    × (shown_spans (loaded_span 32 40 (record (loading 0) { filesz = 34 })) ≡ (0x400020, 2) ∷ [])
    × (shown_spans (loaded_span 32 40 (record (loading 0) { filesz = 32 })) ≡ [])
    × (shown_spans (region_spans (the_copy ∷ [])) ≡ (0x401000, 5) ∷ [])

loaded_bytes : Loaded
unfolding row_at modrm_follows sooner_stop operand_len stop_of least_modrm modrm_stop
    without_modrm_at after_modrm_at modrm_at tail_at least_body least_second body_at rex_at f3_at
    front_at admits is_prefix is_rex rex_bits prefix_lead with_f3 with_rex fields_of sib_at
    operand_at reg_with_bit has_sib disp_size sib_mem place_of operand_width rex_width
    register_named rm_place byte_rm_place reg_place reg_number memory_of opcode_reg alu_op unary_op
    shift_op imm8 imm64 arithmetic_of move_of flow_of exchange_of system_of insn_of standing sweep
loaded_bytes = (refl, refl, refl, refl, refl, refl)

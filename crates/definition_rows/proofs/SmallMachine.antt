-- A small image with a trusted part, and small states of the machine, on which its definitions are
-- computed.
use Rattle.erim_defs.specs.Machine.Domains.{is_set_but, opened_domains}
use Rattle.erim_defs.specs.Inspection.Trust.{pkru_of, text_key}
use Rattle.std.proofs.Common.{ℕ, ◌/◌, ◌%◌, ◌==◌, List, [], ◌∷◌, ◌++◌, Option, Some, None, false}
use Rattle.std.proofs.Common.{true}
use Rattle.std.specs.Prelude.{if◌then◌else◌, nat_lt}
use Rattle.std.specs.List.{flat_map}
use Rattle.std.specs.Int.Count.{ones}
use Rattle.erim_defs.specs.declared.machine.Thread.{Thread}
use Rattle.erim_defs.specs.declared.machine.Rights.{Rights}
use Rattle.erim_defs.specs.declared.machine.Flags.{Flags}
use Rattle.erim_defs.specs.declared.machine.Entry.{Entry}
use Rattle.erim_defs.specs.Inspection.Code.{laid_at}
use Rattle.erim_defs.specs.Machine.State.{Setup, State, any_live}
use Rattle.erim_defs.specs.Machine.Pages.{RightsMap, ByteMap, word, with_number, bytes_of_range}
use Rattle.erim_defs.specs.Machine.Pages.{code_bytes}
use Rattle.erim_defs.specs.Machine.Access.{opens, opens_write, stop}
use Rattle.erim_defs.specs.Machine.Plan.{effect}
use Rattle.erim_defs.specs.Machine.Alu.{alu, imul, unary, shift, bt, condition}
use Rattle.erim_defs.specs.Machine.Meaning.{plan_alu, plan_test, plan_unary, plan_shift, plan_imul}
use Rattle.erim_defs.specs.Machine.Meaning.{plan_bt, plan_mov, plan_xchg, plan_lea, plan_movsx}
use Rattle.erim_defs.specs.Machine.Meaning.{plan_movzx, plan_cmov, plan_set, plan_widen}
use Rattle.erim_defs.specs.Machine.Meaning.{plan_spread, plan_push, plan_pop, plan_leave, plan_jcc}
use Rattle.erim_defs.specs.Machine.Meaning.{plan_call, plan_jmp_to, plan_call_to, plan_ret}
use Rattle.erim_defs.specs.Machine.Meaning.{plan_xadd, plan_cmpxchg, plan_wrpkru, plan_rdpkru, plan}
use Rattle.erim_defs.specs.Machine.Meaning.{plan_xrstor, on_numbers}
use Rattle.erim_defs.specs.Inspection.Image.{number_at, headers_from, headers, loadable_segments}
use Rattle.erim_defs.specs.Inspection.Image.{notes_between, notes}
use Rattle.erim_defs.specs.Inspection.Image.{records_from, records_in, image_trust, image_data}
use Rattle.erim_defs.specs.Inspection.Image.{image_heaps}
use Rattle.erim_defs.specs.Output.LayImage.{Piece, Mark, program_header, file_header, trust_note}
use Rattle.erim_defs.specs.Machine.CallResult.{CallResult}
use Rattle.erim_defs.specs.Machine.Calls.{write_result, call_result}
use Rattle.erim_defs.specs.Machine.Count.{count_below}
use Rattle.erim_defs.specs.Machine.HeapCalls.{talloc_result, tfree_result, with_block}
use Rattle.erim_defs.specs.Machine.HeapCalls.{without_block}
use Rattle.erim_defs.specs.Machine.ThreadCalls.{clone_result, gettid_result, sched_yield_result}
use Rattle.erim_defs.specs.Machine.MapCalls.{is_pinned, mmap_result}
use Rattle.erim_defs.specs.Machine.Least.{any_below, least_below}
use Rattle.erim_defs.specs.Machine.MapCalls.{munmap_result, mprotect_result}
use Rattle.erim_defs.specs.Machine.MapCalls.{pkey_mprotect_result, pkey_alloc_result}
use Rattle.erim_defs.specs.Machine.MapCalls.{pkey_free_result, with_key_rights}
use Rattle.erim_defs.specs.Machine.ThreadCalls.{clone_result, gettid_result, sched_yield_result}
use Rattle.erim_defs.specs.Encoding.Decoding.{row_at, modrm_follows, sooner_stop, operand_len}
use Rattle.erim_defs.specs.Encoding.Decoding.{stop_of, least_modrm}
use Rattle.erim_defs.specs.Encoding.Decoding.{modrm_stop, without_modrm_at, after_modrm_at}
use Rattle.erim_defs.specs.Encoding.Decoding.{modrm_at, tail_at}
use Rattle.erim_defs.specs.Encoding.Decoding.{least_body, least_second, body_at, rex_at, f3_at}
use Rattle.erim_defs.specs.Encoding.Decoding.{front_at}
use Rattle.erim_defs.specs.Encoding.Decoding.{decode}
use Rattle.erim_defs.specs.Encoding.Grammar.{admits, is_prefix, is_rex, rex_bits, prefix_lead}
use Rattle.erim_defs.specs.Encoding.Grammar.{with_f3, with_rex}
use Rattle.erim_defs.specs.Encoding.Grammar.{fields_of}
use Rattle.erim_defs.specs.Encoding.Cursor.{sib_at, operand_at}
use Rattle.erim_defs.specs.Encoding.Operand.{reg_with_bit, has_sib, disp_size, sib_mem, place_of}
use Rattle.erim_defs.specs.Encoding.Forms.{operand_width, rex_width, register_named, rm_place}
use Rattle.erim_defs.specs.Encoding.Forms.{byte_rm_place, reg_place}
use Rattle.erim_defs.specs.Encoding.Forms.{reg_number, memory_of, opcode_reg, alu_op, unary_op}
use Rattle.erim_defs.specs.Encoding.Forms.{shift_op}
use Rattle.erim_defs.specs.Encoding.Forms.{imm8, imm64, arithmetic_of, move_of, flow_of}
use Rattle.erim_defs.specs.Encoding.Forms.{exchange_of, system_of, insn_of}
use Rattle.erim_defs.specs.Machine.Step.{step, fetch}
use Rattle.erim_defs.specs.Machine.Start.{first_rights, first_thread, first_state}
use Rattle.erim_defs.specs.Machine.Replay.{steps_of, replay}

-- ---- the image: eight segments, and a note of its trusted text, entry, data and heap

-- where it begins: mov eax, 231; xor edi, edi; syscall
abbrev pub trusted_program : List ℕ
trusted_program = 0xB8 ∷ 0xE7 ∷ 0 ∷ 0 ∷ 0 ∷ 0x31 ∷ 0xFF ∷ 0x0F ∷ 0x05 ∷ []

-- a PT_LOAD (1)
abbrev pub load : ℕ → ℕ → ℕ → List ℕ → ℕ → Piece
load flags place vaddr bytes memsz =
    record {
      kind = 1;
      flags = flags;
      place = place;
      vaddr = vaddr;
      bytes = bytes;
      memsz = memsz;
      align = 4096;
    }

abbrev pub marks : List Mark
marks =
    record { kind = 1; start = 0x402000; length = 4096 } ∷
    record { kind = 2; start = 0x406000; length = 4096 } ∷
    record { kind = 3; start = 0x402007; length = 0 } ∷
    record { kind = 4; start = 0x407000; length = 4096 } ∷ []

-- a PT_NOTE (4)
abbrev pub noted : Piece
noted =
    record {
      kind = 4;
      flags = 4;
      place = 528;
      vaddr = 0;
      bytes = trust_note marks;
      memsz = 124;
      align = 4;
    }

-- PF_X is 1, PF_W 2 and PF_R 4
abbrev pub image_pieces : List Piece
image_pieces =
    load 5 512 0x401000 (0x90 ∷ 0x90 ∷ []) 2 ∷
    load 5 514 0x402000 trusted_program 4096 ∷
    load 6 523 0x403010 (0x41 ∷ 0x42 ∷ 0x43 ∷ []) 0x1001 ∷
    load 4 526 0x405000 (0x44 ∷ []) 1 ∷
    load 6 0 0x406000 [] 4096 ∷
    load 6 0 0x407000 [] 4096 ∷
    load 7 527 0x408000 (0x45 ∷ []) 1 ∷
    noted ∷ []

unfoldable pub small_image : List ℕ
small_image =
    file_header 8 0x402000 ++ flat_map program_header image_pieces
    ++ flat_map (λ (p : Piece). p.bytes) image_pieces

abbrev pub small_setup : Setup
small_setup = record { image = small_image; budget = 9; frames = 64 }

-- ---- a state

abbrev pub no_flags : Flags
no_flags = record { cf = false; pf = false; zf = false; sf = false; of = false }

-- a closed thread with RAX, RCX, RDX, and numbers in the other registers
abbrev pub thread_at : ℕ → ℕ → ℕ → ℕ → Thread
thread_at rip rax rcx rdx = record {
  regs = rax ∷ rcx ∷ rdx ∷ 3 ∷ 4 ∷ 5 ∷ 6 ∷ 7 ∷ 8 ∷ 9 ∷ 10 ∷ 11 ∷ 12 ∷ 13 ∷ 14 ∷ 15 ∷ [];
  rip = rip;
  flags = no_flags;
  pkru = 0x55555554;
  origin = None;
  live = true;
}

-- one with RAX, RCX, RDX, RSI, RDI and R11
abbrev pub caller_at : ℕ → ℕ → ℕ → ℕ → ℕ → ℕ → ℕ → Thread
caller_at rip rax rcx rdx rsi rdi r11 = record (thread_at rip rax rcx rdx) {
  regs = rax ∷ rcx ∷ rdx ∷ 3 ∷ 4 ∷ 5 ∷ rsi ∷ rdi ∷ 8 ∷ 9 ∷ 10 ∷ r11 ∷ 12 ∷ 13 ∷ 14 ∷ 15 ∷ [];
}

-- a page with these protection bits, and a key
abbrev pub page : ℕ → ℕ → Option Rights
page asked key =
    Some
    (record { read = true; write = asked / 2 % 2 == 1; exec = false; asked = asked; key = key })

abbrev pub published_page : Option Rights
published_page = Some (record { read = true; write = false; exec = true; asked = 5; key = 0 })

-- pages 0x401 and 0x402 are published, and the second is trusted text; 0x403 can be written; so can
-- 0x406 with the trusted key; 0x405 can only be read; no other is mapped
abbrev pub small_rights : RightsMap
small_rights q =
    if q == 0x401 then published_page
    else if q == 0x402 then published_page
    else if q == 0x403 then page 3 0
    else if q == 0x405 then page 1 0
    else if q == 0x406 then page 3 1
    else None

abbrev pub byte_or : Option ℕ → ℕ → ℕ
byte_or None n = n
byte_or (Some x) n = x

-- these bytes from an address on, elsewhere the low byte of the address
abbrev pub bytes_at : ℕ → List ℕ → ByteMap
bytes_at base bytes a = byte_or (laid_at base bytes a) (a % 256)

-- a thread, and bytes where it stands
abbrev pub state_of : Thread → List ℕ → State
state_of t bytes = record {
  setup = record { image = small_image; budget = 100; frames = 64 };
  rights = small_rights;
  bytes = bytes_at t.rip bytes;
  threads = t ∷ [];
  keys = λ k. nat_lt k 2;
  blocks = [];
  output = [];
  end = None;
  steps = 6;
  escape = None;
}

-- ---- a step and a replay, where all that they are defined by unfolds

unfoldable pub step_by : ℕ → State → Option State
unfolding step is_set_but opened_domains text_key pkru_of is_pinned fetch ones small_image row_at
    modrm_follows sooner_stop operand_len stop_of
    least_modrm
    modrm_stop without_modrm_at after_modrm_at modrm_at tail_at least_body least_second body_at
    rex_at f3_at
    front_at decode admits is_prefix is_rex rex_bits prefix_lead with_f3 with_rex fields_of sib_at
    operand_at reg_with_bit has_sib disp_size sib_mem place_of operand_width rex_width
    register_named rm_place
    byte_rm_place reg_place reg_number memory_of opcode_reg alu_op unary_op shift_op imm8
    imm64 arithmetic_of move_of flow_of exchange_of system_of insn_of word with_number
    bytes_of_range
    code_bytes opens opens_write stop alu imul unary shift bt condition number_at headers_from
    headers loadable_segments
    notes_between notes records_from records_in image_trust effect
    plan_alu plan_test plan_unary plan_shift plan_imul plan_bt plan_mov plan_xchg plan_lea
    plan_movsx plan_movzx plan_cmov plan_set plan_widen plan_spread plan_push plan_pop plan_leave
    plan_jcc
    plan_call plan_jmp_to plan_call_to plan_ret plan_xadd plan_cmpxchg plan_wrpkru plan_rdpkru
    plan_xrstor on_numbers plan
    write_result clone_result gettid_result sched_yield_result any_live call_result
step_by t s = step t s

unfoldable pub loaded_by : Setup → State
unfolding pkru_of first_state first_rights first_thread small_image number_at headers_from headers
    loadable_segments
    notes_between notes records_from records_in image_trust image_data image_heaps
loaded_by setup = first_state setup

unfoldable pub replay_by : Setup → List Entry → Option State
unfolding step_by loaded_by steps_of replay
replay_by setup entries = replay setup entries

-- what a system call gives, likewise
unfoldable pub call_by : State → Thread → CallResult
unfolding is_set_but opened_domains text_key small_image number_at headers_from headers
    loadable_segments
    notes_between notes
    records_from records_in image_trust opens stop bytes_of_range any_below least_below is_pinned
    write_result mmap_result munmap_result mprotect_result pkey_mprotect_result pkey_alloc_result
    pkey_free_result with_key_rights count_below clone_result gettid_result sched_yield_result
    image_heaps with_block without_block talloc_result tfree_result call_result
call_by s t = call_result s 0 t

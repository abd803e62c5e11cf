-- XRSTOR computed: its occurrences, its check, and what it does. Lengths are as binutils read them;
-- the check, `0F BA E0 09 73 07 B8 E7 00 00 00 0F 05`, and what is restored are own.
use Rattle.std.proofs.Common.{◌≡◌, ℕ, ◌+◌, ◌^◌, Bool, List, [], ◌∷◌, ◌++◌, Option, Some, None}
use Rattle.std.proofs.Common.{map, true, false, refl}
use Rattle.erim_defs.specs.declared.found.SeqKind.TheVariants.{Xrstor}
use Rattle.erim_defs.specs.declared.found.Found.{Found}
use Rattle.erim_defs.specs.declared.insn.Decoded.TheVariants.{Insn}
use Rattle.erim_defs.specs.declared.machine.Cause.{Cause}
use Rattle.erim_defs.specs.declared.machine.Cause.TheVariants.{Key, General}
use Rattle.erim_defs.specs.declared.machine.End.TheVariants.{Fault}
use Rattle.erim_defs.specs.declared.machine.Thread.{Thread}
use Rattle.erim_defs.specs.Inspection.Code.{laid_at}
use Rattle.erim_defs.specs.Inspection.Occurrence.{occurrence_at, are_present}
use Rattle.erim_defs.specs.Inspection.Check.{Compare, Branch, Number, Leave, check_of, check_bytes}
use Rattle.erim_defs.specs.Inspection.Check.{check_insn, position_start}
use Rattle.erim_defs.specs.Inspection.Safe.{fits, unsafe_at}
use Rattle.erim_defs.specs.Inspection.Trust.{TrustValue, plain_trust}
use Rattle.erim_defs.specs.Inspection.Unsafe.{list_below}
use Rattle.erim_defs.specs.Encoding.Decoding.{decode}
use Rattle.erim_defs.specs.Encoding.Operand.{has_sib, disp_size}
use Rattle.erim_defs.specs.Machine.Pages.{word, with_number}
use Rattle.erim_defs.specs.Machine.State.{State}
use Rattle.definition_rows.proofs.SmallMachine.{step_by, state_of, thread_at}

xrstor : ℕ → ℕ → Found
xrstor a len = record { at = a; len = len; kind = Xrstor }

-- ---- which bytes are one

abbrev memory_modrms : List ℕ
memory_modrms =
    0x28 ∷ 0x29 ∷ 0x2A ∷ 0x2B ∷ 0x2C ∷ 0x2D ∷ 0x2E ∷ 0x2F ∷
    0x68 ∷ 0x69 ∷ 0x6A ∷ 0x6B ∷ 0x6C ∷ 0x6D ∷ 0x6E ∷ 0x6F ∷
    0xA8 ∷ 0xA9 ∷ 0xAA ∷ 0xAB ∷ 0xAC ∷ 0xAD ∷ 0xAE ∷ 0xAF ∷ []

abbrev long_of : Option Found → ℕ
long_of None = 0
long_of (Some o) = o.len

-- the lengths of the occurrences of `0F AE`, ModRM and SIB, with bytes after them
lengths : ℕ → List ℕ
lengths sib =
    map (λ m. long_of (occurrence_at (laid_at 7
    (0x0F ∷ 0xAE ∷ m ∷ sib ∷ 0x11 ∷ 0x11 ∷ 0x11 ∷ 0x11 ∷ 0x11 ∷ [])) 7)) memory_modrms

lengths_plain :
    lengths 0x00
    ≡ 3 ∷ 3 ∷ 3 ∷ 3 ∷ 4 ∷ 7 ∷ 3 ∷ 3 ∷ 4 ∷ 4 ∷ 4 ∷ 4 ∷ 5 ∷ 4 ∷ 4 ∷ 4 ∷ 7 ∷ 7 ∷ 7 ∷ 7 ∷ 8 ∷ 7 ∷ 7
    ∷ 7 ∷ []
unfolding lengths occurrence_at are_present has_sib disp_size
lengths_plain = refl

-- base 5 has four bytes of displacement where mod is 0
lengths_base_five :
    lengths 0x25
    ≡ 3 ∷ 3 ∷ 3 ∷ 3 ∷ 8 ∷ 7 ∷ 3 ∷ 3 ∷ 4 ∷ 4 ∷ 4 ∷ 4 ∷ 5 ∷ 4 ∷ 4 ∷ 4 ∷ 7 ∷ 7 ∷ 7 ∷ 7 ∷ 8 ∷ 7 ∷ 7
    ∷ 7 ∷ []
unfolding lengths occurrence_at are_present has_sib disp_size
lengths_base_five = refl

abbrev is_none : Option Found → Bool
is_none None = true
is_none (Some o) = false

-- no XRSTOR: mod 3 (LFENCE), the opcode extensions beside 5, another opcode
no_occurrences :
    map (λ bytes. is_none (occurrence_at (laid_at 0 bytes) 0))
    ((0x0F ∷ 0xAE ∷ 0xE8 ∷ []) ∷ (0x0F ∷ 0xAE ∷ 0x20 ∷ []) ∷ (0x0F ∷ 0xAE ∷ 0x30 ∷ []) ∷
    (0x0F ∷ 0xAF ∷ 0x28 ∷ []) ∷ (0xAE ∷ 0x28 ∷ 0x00 ∷ []) ∷ [])
    ≡ true ∷ true ∷ true ∷ true ∷ true ∷ []
unfolding occurrence_at are_present has_sib disp_size
no_occurrences = refl

-- all its bytes are there: without ModRM, SIB, or the last byte of the displacement it is none
cut_short :
    map (λ bytes. is_none (occurrence_at (laid_at 0 bytes) 0))
    ((0x0F ∷ 0xAE ∷ []) ∷ (0x0F ∷ 0xAE ∷ 0x2C ∷ []) ∷ (0x0F ∷ 0xAE ∷ 0x68 ∷ []) ∷
    (0x0F ∷ 0xAE ∷ 0x2C ∷ 0x25 ∷ 0 ∷ 0 ∷ 0 ∷ []) ∷
    (0x0F ∷ 0xAE ∷ 0xAC ∷ 0x24 ∷ 1 ∷ 2 ∷ 3 ∷ []) ∷ [])
    ≡ true ∷ true ∷ true ∷ true ∷ true ∷ []
unfolding occurrence_at are_present has_sib disp_size
cut_short = refl

-- ---- its check

no_trust : TrustValue
no_trust = plain_trust [] (0x401003 ∷ [])

check :
    check_of no_trust Xrstor 0x401003
    ≡ 0x0F ∷ 0xBA ∷ 0xE0 ∷ 0x09 ∷ 0x73 ∷ 0x07 ∷ 0xB8 ∷ 0xE7 ∷ 0 ∷ 0 ∷ 0 ∷ 0x0F ∷ 0x05 ∷ []
unfolding check_of no_trust
check = refl

starts :
    map (position_start no_trust Xrstor 0x401003) (Compare ∷ Branch ∷ Number ∷ Leave ∷ [])
    ≡ 0 ∷ 4 ∷ 6 ∷ 11 ∷ []
unfolding no_trust
starts = refl

-- the bytes of each position are its instruction
instructions :
    map (λ p. decode (check_bytes no_trust Xrstor 0x401003 p))
    (Compare ∷ Branch ∷ Number ∷ Leave ∷ [])
    ≡ Insn (check_insn no_trust Xrstor 0x401003 Compare) 4 0
    ∷ Insn (check_insn no_trust Xrstor 0x401003 Branch) 2 0
    ∷ Insn (check_insn no_trust Xrstor 0x401003 Number) 5 0
    ∷ Insn (check_insn no_trust Xrstor 0x401003 Leave) 2 0 ∷ []
unfolding step_by no_trust
instructions = refl

-- what is unsafe below address 64; the entry 3 is after an XRSTOR of 3 bytes
unsafe_in : List ℕ → List Found
unsafe_in bytes =
    list_below 64 (unsafe_at (plain_trust [] (3 ∷ [])) (laid_at 0 bytes))

-- xrstor [0x7FFEE000]
restoring : List ℕ
restoring = 0x0F ∷ 0xAE ∷ 0x2C ∷ 0x25 ∷ 0x00 ∷ 0xE0 ∷ 0xFE ∷ 0x7F ∷ []

checked : unsafe_in (restoring ++ check_of no_trust Xrstor 8) ≡ []
unfolding unsafe_in restoring no_trust list_below unsafe_at occurrence_at are_present has_sib
    disp_size fits check_of
checked = refl

-- bts eax, 9 in place of bt eax, 9
checked_wrongly :
    unsafe_in (restoring ++ (0x0F ∷ 0xBB ∷ 0xE0 ∷ 0x09 ∷ 0x73 ∷ 0x07 ∷ 0xB8 ∷ 0xE7 ∷ 0 ∷ 0 ∷ 0
    ∷ 0x0F ∷ 0x05 ∷ []))
    ≡ xrstor 0 8 ∷ []
unfolding unsafe_in restoring xrstor list_below unsafe_at occurrence_at are_present has_sib
    disp_size fits check_of
checked_wrongly = refl

-- an entry after it isn't enough, nor the check after WRPKRU
entry_behind : unsafe_in (0x0F ∷ 0xAE ∷ 0x28 ∷ 0x90 ∷ []) ≡ xrstor 0 3 ∷ []
unfolding unsafe_in xrstor list_below unsafe_at occurrence_at are_present has_sib disp_size fits
    check_of
entry_behind = refl

-- absent bytes contradict nothing
end_of_code : unsafe_in (0x0F ∷ 0xAE ∷ 0x28 ∷ 0x0F ∷ 0xBA ∷ []) ≡ []
unfolding unsafe_in list_below unsafe_at occurrence_at are_present has_sib disp_size fits check_of
end_of_code = refl

-- within an immediate, and across two instructions: mov eax, 0xAE0F0000; sub [rax], ch
within_others :
    map unsafe_in ((0xB8 ∷ 0x0F ∷ 0xAE ∷ 0x28 ∷ 0x00 ∷ []) ∷
    (0xB8 ∷ 0x00 ∷ 0x00 ∷ 0x0F ∷ 0xAE ∷ 0x28 ∷ 0x28 ∷ []) ∷ [])
    ≡ (xrstor 1 3 ∷ []) ∷ (xrstor 3 3 ∷ []) ∷ []
unfolding unsafe_in xrstor list_below unsafe_at occurrence_at are_present has_sib disp_size fits
    check_of
within_others = refl

-- ---- what it does: xrstor [rcx]; RCX is the area's address

-- a thread with EAX and the area, at RIP with this PKRU
abbrev restorer : ℕ → ℕ → ℕ → ℕ → Thread
restorer rip rax area pkru = (let t = thread_at rip rax area 0 in record t { pkru = pkru })

-- XSTATE_BV, and the number in the two words after it
abbrev with_header : ℕ → ℕ → ℕ → State → State
with_header area states reserved s = record s {
  bytes = with_number (with_number s.bytes (area + 512) 8 states) (area + 520) 16 reserved;
}

abbrev restoring_at : ℕ → ℕ → ℕ → ℕ → State
restoring_at rax area states reserved =
    with_header area states reserved
    (state_of (restorer 0x401000 rax area 0x55555554) (0x0F ∷ 0xAE ∷ 0x29 ∷ []))

abbrev after : Thread → State → State
after t s = record s { steps = 7; threads = t ∷ [] }

-- PKRU afterwards, and the origin
abbrev restored : ℕ → Option Found → State → State
restored pkru origin s =
    record s {
      steps = 7;
      threads = map (λ (t : Thread).
          record t { rip = 0x401003; pkru = pkru; origin = origin }) s.threads;
    }

abbrev faulted : Cause → ℕ → State → State
faulted cause addr s = record s { steps = 7; end = Some (Fault 0 0x401000 cause addr) }

-- bit 9 of EAX is 0
not_asked : let s = restoring_at 0xFDFF 0x403000 0x203 0 in
    step_by 0 s ≡ Some (restored 0x55555554 None s)
unfolding step_by word with_number
not_asked = refl

-- and of XSTATE_BV too: the bytes at 0x403A80 are 80 81 82 83
from_the_area : let s = restoring_at 0x200 0x403000 0x200 0 in
    step_by 0 s ≡ Some (restored 0x83828180 (Some (xrstor 0x401000 3)) s)
unfolding step_by word with_number xrstor
from_the_area = refl

-- PKRU becomes 0
initial : let s = restoring_at 0xFFFFFFFF00000200 0x403000 3 0 in
    step_by 0 s ≡ Some (restored 0 (Some (xrstor 0x401000 3)) s)
unfolding step_by word with_number xrstor
initial = refl

unaligned :
    let s = restoring_at 0x200 0x403020 0 0 in step_by 0 s ≡ Some (faulted General 0x401000 s)
unfolding step_by word with_number
unaligned = refl

-- a component that XCR0 hasn't
other_component : let s = restoring_at 0 0x403000 0x204 0 in
    step_by 0 s ≡ Some (faulted General 0x401000 s)
unfolding step_by word with_number
other_component = refl

compacted : let s = restoring_at 0 0x403000 0 (2 ^ 127) in
    step_by 0 s ≡ Some (faulted General 0x401000 s)
unfolding step_by word with_number
compacted = refl

second_word : let s = restoring_at 0 0x403000 0 1 in
    step_by 0 s ≡ Some (faulted General 0x401000 s)
unfolding step_by word with_number
second_word = refl

-- the header is in a page that is closed, also where bit 9 of EAX is 0
closed_header : let s = restoring_at 0 0x405E00 0 0 in
    step_by 0 s ≡ Some (faulted Key 0x406000 s)
unfolding step_by word with_number
closed_header = refl

-- PKRU's place is, which is asked only where it is restored from there
closed_place : let s = restoring_at 0x200 0x405600 0x200 0 in
    step_by 0 s ≡ Some (faulted Key 0x406080 s)
unfolding step_by word with_number
closed_place = refl

place_not_read : let s = restoring_at 0x200 0x405600 0 0 in
    step_by 0 s ≡ Some (restored 0 (Some (xrstor 0x401000 3)) s)
unfolding step_by word with_number xrstor
place_not_read = refl

-- ---- origin and escape of a thread that is open before

-- the origin is the XRSTOR without its prefixes also where bit 9 of EAX is 0
origin_not_asked :
    let old = restorer 0x401000 0 0x403000 0x55555550 in
    let new = record old { rip = 0x401004; origin = Some (xrstor 0x401001 3) } in
    let s = with_header 0x403000 0 0 (state_of old (0x2E ∷ 0x0F ∷ 0xAE ∷ 0x29 ∷ [])) in
    step_by 0 s ≡ Some (after new s)
unfolding step_by word with_number xrstor
origin_not_asked = refl

-- out of trusted text: free of escape where PKRU is asked
abbrev leaving : ℕ → State
leaving rax =
    with_header 0x403000 0 0
    (state_of (restorer 0x402FFD rax 0x403000 0x55555550) (0x0F ∷ 0xAE ∷ 0x29 ∷ []))

no_escape : let s = leaving 0x200 in
    let new = record (restorer 0x403000 0x200 0x403000 0) { origin = Some (xrstor 0x402FFD 3) } in
    step_by 0 s ≡ Some (after new s)
unfolding step_by word with_number xrstor
no_escape = refl

escape_not_asked : let s = leaving 0 in
    let new = record (restorer 0x403000 0 0x403000 0x55555550) {
      origin = Some (xrstor 0x402FFD 3);
    } in
    step_by 0 s ≡ Some (record (after new s) {
      escape = Some (record { step = 7; thread = 0; rip = 0x403000 });
    })
unfolding step_by word with_number xrstor
escape_not_asked = refl

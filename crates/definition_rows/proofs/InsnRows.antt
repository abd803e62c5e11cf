-- Instructions of each kind on registers and memory, computed whole: decoded, executed, with every
-- register and flag and the bytes that they may have written. The values are those of a processor
-- (SDM volume 2, the instructions by name); a flag that the SDM leaves undefined is as before.
use Rattle.std.proofs.Common.{◌≡◌, ℕ, ◌+◌, ◌==◌, Option, Some, None, List, [], ◌∷◌, map}
use Rattle.std.proofs.Common.{length, refl}
use Rattle.std.specs.Prelude.{slice_set, codes, if◌then◌else◌, false, true}
use Rattle.std.specs.List.{list_any}
use Rattle.std.specs.Int.Count.{ones}
use Rattle.erim_defs.specs.declared.machine.Flags.{Flags}
use Rattle.erim_defs.specs.declared.machine.Thread.{Thread}
use Rattle.erim_defs.specs.declared.machine.Cause.{Cause}
use Rattle.erim_defs.specs.declared.machine.Cause.TheVariants.{Unmapped, Read, Write, Key, General}
use Rattle.erim_defs.specs.declared.machine.End.{End}
use Rattle.erim_defs.specs.declared.machine.End.TheVariants.{Fault}
use Rattle.erim_defs.specs.declared.register.TheConstants.{RAX, RBP, RCX, RDX, RSI, RSP}
use Rattle.erim_defs.specs.Machine.Pages.{RightsMap, word}
use Rattle.erim_defs.specs.Machine.State.{State}
use Rattle.definition_rows.proofs.SmallMachine.{step_by, state_of, thread_at, small_rights}

-- ---- rows

record Row : Type 0 where
  bytes : List ℕ
  old : Thread
  new : Thread
  written : List ℕ

-- which of C, P, Z, S and O stand in a text
abbrev flags_named : List ℕ → Flags
flags_named text = record {
  cf = list_any (λ x. x == 67) text;
  pf = list_any (λ x. x == 80) text;
  zf = list_any (λ x. x == 90) text;
  sf = list_any (λ x. x == 83) text;
  of = list_any (λ x. x == 79) text;
}

-- numbers put into registers, or over words in memory
abbrev changed : List ℕ → List (ℕ × ℕ) → List ℕ
changed xs [] = xs
changed xs ((n, value) ∷ more) = changed (slice_set xs n value) more

-- RBX, RSP and RBP are addresses in a page that can be written
abbrev usual : List ℕ
usual =
    0x200000007 ∷ 0x8000000000000001 ∷ 0xFFFFFFFF80000000 ∷ 0x403010 ∷ 0x403020 ∷ 0x403030 ∷
    6 ∷ 7 ∷ 8 ∷ 9 ∷ 10 ∷ 11 ∷ 12 ∷ 13 ∷ 14 ∷ 15 ∷ []

abbrev thread_of : ℕ → List ℕ → List ℕ → Thread
thread_of rip regs flags = (let t = thread_at rip 0 0 0 in
    record t { regs = regs; flags = flags_named flags })

-- the two words from 0x403010 on, where nothing was written
abbrev untouched : List ℕ
untouched = 0x1716151413121110 ∷ 0x1F1E1D1C1B1A1918 ∷ []

-- the bytes of an instruction; the registers before that aren't usual, and the flags; the registers
-- that it changes, the flags after it, and the words that it changes
abbrev row : List ℕ → List (ℕ × ℕ) → List ℕ → List (ℕ × ℕ) → List ℕ → List (ℕ × ℕ) → Row
row bytes before flags after new_flags words = (let regs = changed usual before in record {
  bytes = bytes;
  old = thread_of 0x401000 regs flags;
  new = thread_of (0x401000 + length bytes) (changed regs after) new_flags;
  written = changed untouched words;
})

-- the same of one that jumps: where to; no flag changes
abbrev jump : List ℕ → List (ℕ × ℕ) → List ℕ → ℕ → List (ℕ × ℕ) → List (ℕ × ℕ) → Row
jump bytes before flags rip after words = (let regs = changed usual before in record {
  bytes = bytes;
  old = thread_of 0x401000 regs flags;
  new = thread_of rip (changed regs after) flags;
  written = changed untouched words;
})

-- ---- what comes of them

record Seen : Type 0 where
  threads : List Thread
  end : Option End
  words : List ℕ

abbrev seen : Option State → Option Seen
seen None = None
seen (Some s) = Some (record {
  threads = s.threads;
  end = s.end;
  words = word s.bytes 0x403010 8 ∷ word s.bytes 0x403018 8 ∷ [];
})

abbrev computed : List Row → List (Option Seen)
computed rows = map (λ (r : Row). seen (step_by 0 (state_of r.old r.bytes))) rows

abbrev told : List Row → List (Option Seen)
told rows =
    map (λ (r : Row). Some (record { threads = r.new ∷ []; end = None; words = r.written })) rows

-- ---- arithmetic and logic

arithmetic_first : List Row
arithmetic_first =
    -- add eax, ecx
    row (1 ∷ 0xC8 ∷ []) [] [] ((RAX, 8) ∷ []) [] [] ∷
    -- add qword [rbx], rcx
    row (0x48 ∷ 1 ∷ 0x0B ∷ []) [] [] [] (codes "PS") ((0, 0x9716151413121111) ∷ []) ∷
    -- add ah, cl
    row (0 ∷ 0xCC ∷ []) [] (codes "CZ") ((RAX, 0x200000107) ∷ []) [] [] ∷
    -- add sil, -7
    row (0x40 ∷ 0x80 ∷ 0xC6 ∷ 0xF9 ∷ []) [] [] ((RSI, 0xFF) ∷ []) (codes "PS") [] ∷
    -- lock add dword [rbx+rsi*2-12], 0x7FFFFFFF
    row (0xF0 ∷ 0x81 ∷ 0x44 ∷ 0x73 ∷ 0xF4 ∷ 0xFF ∷ 0xFF ∷ 0xFF ∷ 0x7F ∷ []) [] [] []
    (codes "PSO") ((0, 0x171615149312110F) ∷ []) ∷
    -- adc al, dl
    row (0x10 ∷ 0xD0 ∷ []) [] (codes "C") ((RAX, 0x200000008) ∷ []) [] [] ∷
    -- adc dword [rbx], -1
    row (0x83 ∷ 0x13 ∷ 0xFF ∷ []) [] (codes "C") [] (codes "C") [] ∷
    -- adc rdx, rdx
    row (0x48 ∷ 0x11 ∷ 0xD2 ∷ []) [] [] ((RDX, 0xFFFFFFFF00000000) ∷ []) (codes "CPS") [] ∷
    -- sbb rax, 5
    row (0x48 ∷ 0x83 ∷ 0xD8 ∷ 5 ∷ []) [] (codes "C") ((RAX, 0x200000001) ∷ []) [] [] ∷
    -- sbb byte [rbx], 0x10
    row (0x80 ∷ 0x1B ∷ 0x10 ∷ []) [] (codes "C") [] (codes "CPS")
    ((0, 0x17161514131211FF) ∷ []) ∷
    -- sbb eax, eax
    row (0x19 ∷ 0xC0 ∷ []) [] (codes "C") ((RAX, 0xFFFFFFFF) ∷ []) (codes "CPS") [] ∷
    -- sub ecx, edx
    row (0x29 ∷ 0xD1 ∷ []) [] [] ((RCX, 0x80000001) ∷ []) (codes "CSO") [] ∷ []

arithmetic_first_rows : computed arithmetic_first ≡ told arithmetic_first
unfolding step_by word ones arithmetic_first
arithmetic_first_rows = refl

arithmetic_second : List Row
arithmetic_second =
    -- sub rdx, qword [rbx]
    row (0x48 ∷ 0x2B ∷ 0x13 ∷ []) [] [] ((RDX, 0xE8E9EAEB6CEDEEF0) ∷ []) (codes "PS") [] ∷
    -- and eax, -16
    row (0x83 ∷ 0xE0 ∷ 0xF0 ∷ []) [] (codes "CO") ((RAX, 0) ∷ []) (codes "PZ") [] ∷
    -- and byte [rbx+1], al
    row (0x20 ∷ 0x43 ∷ 1 ∷ []) [] (codes "CO") [] [] ((0, 0x1716151413120110) ∷ []) ∷
    -- or byte [rbx], 0x80
    row (0x80 ∷ 0x0B ∷ 0x80 ∷ []) [] (codes "CO") [] (codes "PS")
    ((0, 0x1716151413121190) ∷ []) ∷
    -- or rdx, rcx
    row (0x48 ∷ 9 ∷ 0xCA ∷ []) [] [] ((RDX, 0xFFFFFFFF80000001) ∷ []) (codes "S") [] ∷
    -- xor dword [rbx], 0x13121110
    row (0x81 ∷ 0x33 ∷ 0x10 ∷ 0x11 ∷ 0x12 ∷ 0x13 ∷ []) [] (codes "CS") [] (codes "PZ")
    ((0, 0x1716151400000000) ∷ []) ∷
    -- xor rcx, rcx
    row (0x48 ∷ 0x31 ∷ 0xC9 ∷ []) [] (codes "CSO") ((RCX, 0) ∷ []) (codes "PZ") [] ∷
    -- cmp dword [rbx], 0x13121111
    row (0x81 ∷ 0x3B ∷ 0x11 ∷ 0x11 ∷ 0x12 ∷ 0x13 ∷ []) [] [] [] (codes "CPS") [] ∷
    -- cmp rdx, 0x7FFFFFFF
    row (0x48 ∷ 0x81 ∷ 0xFA ∷ 0xFF ∷ 0xFF ∷ 0xFF ∷ 0x7F ∷ []) [] [] [] (codes "S") [] ∷
    -- cmp al, ah
    row (0x38 ∷ 0xE0 ∷ []) [] [] [] [] [] ∷ []

arithmetic_second_rows : computed arithmetic_second ≡ told arithmetic_second
unfolding step_by word ones arithmetic_second
arithmetic_second_rows = refl

-- ---- TEST

tests : List Row
tests =
    -- test ecx, ecx
    row (0x85 ∷ 0xC9 ∷ []) [] (codes "CO") [] [] [] ∷
    -- test byte [rbx], 0x0F
    row (0xF6 ∷ 3 ∷ 0x0F ∷ []) [] (codes "Z") [] (codes "PZ") [] ∷
    -- test rdx, rcx
    row (0x48 ∷ 0x85 ∷ 0xCA ∷ []) [] [] [] (codes "PS") [] ∷ []

tests_rows : computed tests ≡ told tests
unfolding step_by word ones tests
tests_rows = refl

-- ---- NOT, NEG, INC and DEC

unary_operations : List Row
unary_operations =
    -- not eax
    row (0xF7 ∷ 0xD0 ∷ []) [] (codes "CPZSO") ((RAX, 0xFFFFFFF8) ∷ []) (codes "CPZSO") [] ∷
    -- not qword [rbx]
    row (0x48 ∷ 0xF7 ∷ 0x13 ∷ []) [] [] [] [] ((0, 0xE8E9EAEBECEDEEEF) ∷ []) ∷
    -- neg ecx
    row (0xF7 ∷ 0xD9 ∷ []) [] [] ((RCX, 0xFFFFFFFF) ∷ []) (codes "CPS") [] ∷
    -- neg rdx
    row (0x48 ∷ 0xF7 ∷ 0xDA ∷ []) [] (codes "Z") ((RDX, 0x80000000) ∷ []) (codes "CP") [] ∷
    -- neg byte [rbx]
    row (0xF6 ∷ 0x1B ∷ []) [] [] [] (codes "CPS") ((0, 0x17161514131211F0) ∷ []) ∷
    -- inc eax
    row (0xFF ∷ 0xC0 ∷ []) [] (codes "C") ((RAX, 8) ∷ []) (codes "C") [] ∷
    -- inc dword [rbx]
    row (0xFF ∷ 3 ∷ []) [] (codes "C") [] (codes "CP") ((0, 0x1716151413121111) ∷ []) ∷
    -- inc dl
    row (0xFE ∷ 0xC2 ∷ []) ((RDX, 0x7F) ∷ []) (codes "Z") ((RDX, 0x80) ∷ []) (codes "SO") [] ∷
    -- dec edx
    row (0xFF ∷ 0xCA ∷ []) [] (codes "C") ((RDX, 0x7FFFFFFF) ∷ []) (codes "CPO") [] ∷
    -- dec byte [rbx]
    row (0xFE ∷ 0x0B ∷ []) [] (codes "O") [] (codes "P") ((0, 0x171615141312110F) ∷ []) ∷
    -- lock dec qword [rbx]
    row (0xF0 ∷ 0x48 ∷ 0xFF ∷ 0x0B ∷ []) [] [] [] (codes "P") ((0, 0x171615141312110F) ∷ []) ∷ []

unary_operations_rows : computed unary_operations ≡ told unary_operations
unfolding step_by word ones unary_operations
unary_operations_rows = refl

-- ---- IMUL

products : List Row
products =
    -- imul eax, ecx
    row (0x0F ∷ 0xAF ∷ 0xC1 ∷ []) ((RAX, 7) ∷ (RCX, 9) ∷ []) (codes "CO") ((RAX, 0x3F) ∷ []) []
    [] ∷
    -- imul edx, eax, -3
    row (0x6B ∷ 0xD0 ∷ 0xFD ∷ []) [] [] ((RDX, 0xFFFFFFEB) ∷ []) [] [] ∷
    -- imul rdx, qword [rbx]
    row (0x48 ∷ 0x0F ∷ 0xAF ∷ 0x13 ∷ []) [] (codes "ZS") ((RDX, 0xF676F77800000000) ∷ [])
    (codes "CZSO") [] ∷
    -- imul eax, dword [rbx], 0x10000
    row (0x69 ∷ 3 ∷ 0 ∷ 0 ∷ 1 ∷ 0 ∷ []) [] [] ((RAX, 0x11100000) ∷ []) (codes "CO") [] ∷
    -- imul rcx, rcx
    row (0x48 ∷ 0x0F ∷ 0xAF ∷ 0xC9 ∷ []) [] [] ((RCX, 1) ∷ []) (codes "CO") [] ∷ []

products_rows : computed products ≡ told products
unfolding step_by word ones products
products_rows = refl

-- ---- shifts

shifts_first : List Row
shifts_first =
    -- shl eax, cl
    row (0xD3 ∷ 0xE0 ∷ []) ((RAX, 0x80000000) ∷ (RCX, 0x21) ∷ []) [] ((RAX, 0) ∷ [])
    (codes "CPZO") [] ∷
    -- shl rdx, 1
    row (0x48 ∷ 0xD1 ∷ 0xE2 ∷ []) [] [] ((RDX, 0xFFFFFFFF00000000) ∷ []) (codes "CPS") [] ∷
    -- shl byte [rbx], 4
    row (0xC0 ∷ 0x23 ∷ 4 ∷ []) [] (codes "O") [] (codes "CPZO") ((0, 0x1716151413121100) ∷ []) ∷
    -- shl al, 9
    row (0xC0 ∷ 0xE0 ∷ 9 ∷ []) [] (codes "O") ((RAX, 0x200000000) ∷ []) (codes "PZO") [] ∷
    -- shl eax, 32
    row (0xC1 ∷ 0xE0 ∷ 0x20 ∷ []) ((RAX, 0xF00000001) ∷ []) (codes "CPZSO") ((RAX, 1) ∷ [])
    (codes "CPZSO") [] ∷
    -- shr ecx, 1
    row (0xD1 ∷ 0xE9 ∷ []) [] [] ((RCX, 0) ∷ []) (codes "CPZ") [] ∷
    -- shr rdx, 63
    row (0x48 ∷ 0xC1 ∷ 0xEA ∷ 0x3F ∷ []) [] [] ((RDX, 1) ∷ []) (codes "C") [] ∷
    -- shr dword [rbx], 5
    row (0xC1 ∷ 0x2B ∷ 5 ∷ []) [] (codes "O") [] (codes "CPO") ((0, 0x1716151400989088) ∷ []) ∷
    -- shr dl, 1
    row (0xD0 ∷ 0xEA ∷ []) ((RDX, 0x81) ∷ []) [] ((RDX, 0x40) ∷ []) (codes "CO") [] ∷
    -- sar rcx, 1
    row (0x48 ∷ 0xD1 ∷ 0xF9 ∷ []) [] (codes "O") ((RCX, 0xC000000000000000) ∷ []) (codes "CPS")
    [] ∷
    -- sar eax, 31
    row (0xC1 ∷ 0xF8 ∷ 0x1F ∷ []) ((RAX, 0x80000000) ∷ []) [] ((RAX, 0xFFFFFFFF) ∷ [])
    (codes "PS") [] ∷
    -- sar byte [rbx], cl
    row (0xD2 ∷ 0x3B ∷ []) ((RCX, 2) ∷ []) [] [] [] ((0, 0x1716151413121104) ∷ []) ∷ []

shifts_first_rows : computed shifts_first ≡ told shifts_first
unfolding step_by word ones shifts_first
shifts_first_rows = refl

shifts_second : List Row
shifts_second =
    -- sar al, 12
    row (0xC0 ∷ 0xF8 ∷ 0x0C ∷ []) ((RAX, 0x90) ∷ []) [] ((RAX, 0xFF) ∷ []) (codes "CPS") [] ∷ []

shifts_second_rows : computed shifts_second ≡ told shifts_second
unfolding step_by word ones shifts_second
shifts_second_rows = refl

-- ---- BT

bit_tests : List Row
bit_tests =
    -- bt ecx, 33
    row (0x0F ∷ 0xBA ∷ 0xE1 ∷ 0x21 ∷ []) [] [] [] [] [] ∷
    -- bt qword [rbx], 60
    row (0x48 ∷ 0x0F ∷ 0xBA ∷ 0x23 ∷ 0x3C ∷ []) [] (codes "PZSO") [] (codes "CPZSO") [] ∷
    -- bt eax, 2
    row (0x0F ∷ 0xBA ∷ 0xE0 ∷ 2 ∷ []) [] (codes "Z") [] (codes "CZ") [] ∷ []

bit_tests_rows : computed bit_tests ≡ told bit_tests
unfolding step_by word ones bit_tests
bit_tests_rows = refl

-- ---- MOV

moves : List Row
moves =
    -- mov ecx, eax
    row (0x89 ∷ 0xC1 ∷ []) [] [] ((RCX, 7) ∷ []) [] [] ∷
    -- mov rax, qword [rbx]
    row (0x48 ∷ 0x8B ∷ 3 ∷ []) [] [] ((RAX, 0x1716151413121110) ∷ []) [] [] ∷
    -- mov byte [rbx], ah
    row (0x88 ∷ 0x23 ∷ []) [] [] [] [] ((0, 0x1716151413121100) ∷ []) ∷
    -- mov qword [rbx], -2
    row (0x48 ∷ 0xC7 ∷ 3 ∷ 0xFE ∷ 0xFF ∷ 0xFF ∷ 0xFF ∷ []) [] [] [] []
    ((0, 0xFFFFFFFFFFFFFFFE) ∷ []) ∷
    -- mov rdx, -2
    row (0x48 ∷ 0xC7 ∷ 0xC2 ∷ 0xFE ∷ 0xFF ∷ 0xFF ∷ 0xFF ∷ []) [] []
    ((RDX, 0xFFFFFFFFFFFFFFFE) ∷ []) [] [] ∷
    -- mov ah, 0x5A
    row (0xB4 ∷ 0x5A ∷ []) [] [] ((RAX, 0x200005A07) ∷ []) [] [] ∷
    -- mov dword [rbx+8*rsi-44], ecx
    row (0x89 ∷ 0x4C ∷ 0xF3 ∷ 0xD4 ∷ []) [] [] [] [] ((0, 0x113121110) ∷ []) ∷
    -- movabs rax, 0x8877665544332211
    row (0x48 ∷ 0xB8 ∷ 0x11 ∷ 0x22 ∷ 0x33 ∷ 0x44 ∷ 0x55 ∷ 0x66 ∷ 0x77 ∷ 0x88 ∷ []) [] []
    ((RAX, 0x8877665544332211) ∷ []) [] [] ∷
    -- mov dl, byte [0x403013]
    row (0x8A ∷ 0x14 ∷ 0x25 ∷ 0x13 ∷ 0x30 ∷ 0x40 ∷ 0 ∷ []) [] []
    ((RDX, 0xFFFFFFFF80000013) ∷ []) [] [] ∷ []

moves_rows : computed moves ≡ told moves
unfolding step_by word ones moves
moves_rows = refl

-- ---- XCHG

exchanges : List Row
exchanges =
    -- xchg rcx, rdx
    row (0x48 ∷ 0x87 ∷ 0xD1 ∷ []) [] []
    ((RCX, 0xFFFFFFFF80000000) ∷ (RDX, 0x8000000000000001) ∷ []) [] [] ∷
    -- xchg dword [rbx], eax
    row (0x87 ∷ 3 ∷ []) [] [] ((RAX, 0x13121110) ∷ []) [] ((0, 0x1716151400000007) ∷ []) ∷
    -- xchg al, ah
    row (0x86 ∷ 0xE0 ∷ []) ((RAX, 0x1234) ∷ []) [] ((RAX, 0x3412) ∷ []) [] [] ∷
    -- xchg ecx, ecx
    row (0x87 ∷ 0xC9 ∷ []) [] [] ((RCX, 1) ∷ []) [] [] ∷ []

exchanges_rows : computed exchanges ≡ told exchanges
unfolding step_by word ones exchanges
exchanges_rows = refl

-- ---- LEA

addresses : List Row
addresses =
    -- lea eax, [rbx+rcx*4-8]
    row (0x8D ∷ 0x44 ∷ 0x8B ∷ 0xF8 ∷ []) [] [] ((RAX, 0x40300C) ∷ []) [] [] ∷
    -- lea rdx, [rip+0x10]
    row (0x48 ∷ 0x8D ∷ 0x15 ∷ 0x10 ∷ 0 ∷ 0 ∷ 0 ∷ []) [] [] ((RDX, 0x401017) ∷ []) [] [] ∷
    -- lea rcx, [rdx+rdx*8]
    row (0x48 ∷ 0x8D ∷ 0x0C ∷ 0xD2 ∷ []) [] [] ((RCX, 0xFFFFFFFB80000000) ∷ []) [] [] ∷ []

addresses_rows : computed addresses ≡ told addresses
unfolding step_by word ones addresses
addresses_rows = refl

-- ---- extensions

extensions_first : List Row
extensions_first =
    -- movsxd rax, dword [rbx-0x80+0x80]
    row (0x48 ∷ 0x63 ∷ 3 ∷ []) [] [] ((RAX, 0x13121110) ∷ []) [] [] ∷
    -- movsxd rcx, edx
    row (0x48 ∷ 0x63 ∷ 0xCA ∷ []) [] [] ((RCX, 0xFFFFFFFF80000000) ∷ []) [] [] ∷
    -- movzx eax, byte [rbx]
    row (0x0F ∷ 0xB6 ∷ 3 ∷ []) [] [] ((RAX, 0x10) ∷ []) [] [] ∷
    -- movzx rdx, cx
    row (0x48 ∷ 0x0F ∷ 0xB7 ∷ 0xD1 ∷ []) [] [] ((RDX, 1) ∷ []) [] [] ∷
    -- movzx ecx, ah
    row (0x0F ∷ 0xB6 ∷ 0xCC ∷ []) ((RAX, 0xFF77) ∷ []) [] ((RCX, 0xFF) ∷ []) [] [] ∷
    -- movzx edx, word [rbx+1]
    row (0x0F ∷ 0xB7 ∷ 0x53 ∷ 1 ∷ []) [] [] ((RDX, 0x1211) ∷ []) [] [] ∷
    -- movsx eax, dl
    row (0x0F ∷ 0xBE ∷ 0xC2 ∷ []) ((RDX, 0x80) ∷ []) [] ((RAX, 0xFFFFFF80) ∷ []) [] [] ∷
    -- movsx rax, word [rbx-0x91+0x91]
    row (0x48 ∷ 0x0F ∷ 0xBF ∷ 3 ∷ []) [] [] ((RAX, 0x1110) ∷ []) [] [] ∷
    -- movsx edx, cx
    row (0x0F ∷ 0xBF ∷ 0xD1 ∷ []) ((RCX, 0x8001) ∷ []) [] ((RDX, 0xFFFF8001) ∷ []) [] [] ∷
    -- movsx rcx, byte [0x403090]
    row (0x48 ∷ 0x0F ∷ 0xBE ∷ 0x0C ∷ 0x25 ∷ 0x90 ∷ 0x30 ∷ 0x40 ∷ 0 ∷ []) [] []
    ((RCX, 0xFFFFFFFFFFFFFF90) ∷ []) [] [] ∷
    -- cwde
    row (0x98 ∷ []) ((RAX, 0xFFFFFFFF00008000) ∷ []) [] ((RAX, 0xFFFF8000) ∷ []) [] [] ∷
    -- cdqe
    row (0x48 ∷ 0x98 ∷ []) ((RAX, 0x80000000) ∷ []) [] ((RAX, 0xFFFFFFFF80000000) ∷ []) [] [] ∷ []

extensions_first_rows : computed extensions_first ≡ told extensions_first
unfolding step_by word ones extensions_first
extensions_first_rows = refl

extensions_second : List Row
extensions_second =
    -- cdq
    row (0x99 ∷ []) ((RAX, 0x80000000) ∷ []) [] ((RDX, 0xFFFFFFFF) ∷ []) [] [] ∷
    -- cqo
    row (0x48 ∷ 0x99 ∷ []) [] [] ((RDX, 0) ∷ []) [] [] ∷
    -- cqo
    row (0x48 ∷ 0x99 ∷ []) ((RAX, 0x8000000000000000) ∷ []) [] ((RDX, 0xFFFFFFFFFFFFFFFF) ∷ [])
    [] [] ∷ []

extensions_second_rows : computed extensions_second ≡ told extensions_second
unfolding step_by word ones extensions_second
extensions_second_rows = refl

-- ---- CMOVcc

conditional_moves : List Row
conditional_moves =
    -- cmovc eax, ecx
    row (0x0F ∷ 0x42 ∷ 0xC1 ∷ []) [] (codes "C") ((RAX, 1) ∷ []) (codes "C") [] ∷
    -- cmovc eax, ecx
    row (0x0F ∷ 0x42 ∷ 0xC1 ∷ []) [] [] ((RAX, 7) ∷ []) [] [] ∷
    -- cmovne rdx, qword [rbx]
    row (0x48 ∷ 0x0F ∷ 0x45 ∷ 0x13 ∷ []) [] [] ((RDX, 0x1716151413121110) ∷ []) [] [] ∷
    -- cmovl edx, dword [rbx]
    row (0x0F ∷ 0x4C ∷ 0x13 ∷ []) [] (codes "SO") ((RDX, 0x80000000) ∷ []) (codes "SO") [] ∷ []

conditional_moves_rows : computed conditional_moves ≡ told conditional_moves
unfolding step_by word ones conditional_moves
conditional_moves_rows = refl

-- ---- SETcc

condition_bytes : List Row
condition_bytes =
    -- setc byte [rbx]
    row (0x0F ∷ 0x92 ∷ 3 ∷ []) [] (codes "C") [] (codes "C") ((0, 0x1716151413121101) ∷ []) ∷
    -- sete ah
    row (0x0F ∷ 0x94 ∷ 0xC4 ∷ []) [] [] [] [] [] ∷
    -- setg cl
    row (0x0F ∷ 0x9F ∷ 0xC1 ∷ []) [] [] [] [] [] ∷
    -- setbe sil
    row (0x40 ∷ 0x0F ∷ 0x96 ∷ 0xC6 ∷ []) [] (codes "Z") ((RSI, 1) ∷ []) (codes "Z") [] ∷ []

condition_bytes_rows : computed condition_bytes ≡ told condition_bytes
unfolding step_by word ones condition_bytes
condition_bytes_rows = refl

-- ---- the stack

stack_operations : List Row
stack_operations =
    -- push rsp
    row (0x54 ∷ []) [] [] ((RSP, 0x403018) ∷ []) [] ((1, 0x403020) ∷ []) ∷
    -- push -1
    row (0x6A ∷ 0xFF ∷ []) [] [] ((RSP, 0x403018) ∷ []) [] ((1, 0xFFFFFFFFFFFFFFFF) ∷ []) ∷
    -- push qword [rbx]
    row (0xFF ∷ 0x33 ∷ []) [] [] ((RSP, 0x403018) ∷ []) [] ((1, 0x1716151413121110) ∷ []) ∷
    -- push qword [rsp]
    row (0xFF ∷ 0x34 ∷ 0x24 ∷ []) [] [] ((RSP, 0x403018) ∷ []) []
    ((1, 0x2726252423222120) ∷ []) ∷
    -- pop rax
    row (0x58 ∷ []) [] [] ((RAX, 0x2726252423222120) ∷ (RSP, 0x403028) ∷ []) [] [] ∷
    -- pop rsp
    row (0x5C ∷ []) [] [] ((RSP, 0x2726252423222120) ∷ []) [] [] ∷
    -- leave
    row (0xC9 ∷ []) [] [] ((RSP, 0x403038) ∷ (RBP, 0x3736353433323130) ∷ []) [] [] ∷ []

stack_operations_rows : computed stack_operations ≡ told stack_operations
unfolding step_by word ones stack_operations
stack_operations_rows = refl

-- ---- XADD and CMPXCHG

compare_and_add : List Row
compare_and_add =
    -- xadd dword [rbx], eax
    row (0x0F ∷ 0xC1 ∷ 3 ∷ []) [] [] ((RAX, 0x13121110) ∷ []) (codes "P")
    ((0, 0x1716151413121117) ∷ []) ∷
    -- xadd rcx, rdx
    row (0x48 ∷ 0x0F ∷ 0xC1 ∷ 0xD1 ∷ []) [] []
    ((RCX, 0x7FFFFFFF80000001) ∷ (RDX, 0x8000000000000001) ∷ []) (codes "CO") [] ∷
    -- xadd eax, eax
    row (0x0F ∷ 0xC1 ∷ 0xC0 ∷ []) [] [] ((RAX, 0xE) ∷ []) [] [] ∷
    -- xadd al, ah
    row (0x0F ∷ 0xC0 ∷ 0xE0 ∷ []) ((RAX, 0x305) ∷ []) [] ((RAX, 0x508) ∷ []) [] [] ∷
    -- lock xadd byte [rbx], dl
    row (0xF0 ∷ 0x0F ∷ 0xC0 ∷ 0x13 ∷ []) [] [] ((RDX, 0xFFFFFFFF80000010) ∷ []) [] [] ∷
    -- cmpxchg dword [rbx], ecx
    row (0x0F ∷ 0xB1 ∷ 0x0B ∷ []) ((RAX, 0x13121110) ∷ []) [] [] (codes "PZ")
    ((0, 0x1716151400000001) ∷ []) ∷
    -- lock cmpxchg qword [rbx], rcx
    row (0xF0 ∷ 0x48 ∷ 0x0F ∷ 0xB1 ∷ 0x0B ∷ []) [] [] ((RAX, 0x1716151413121110) ∷ [])
    (codes "CS") [] ∷
    -- cmpxchg rdx, rcx
    row (0x48 ∷ 0x0F ∷ 0xB1 ∷ 0xCA ∷ []) ((RAX, 0xFFFFFFFF80000000) ∷ []) []
    ((RDX, 0x8000000000000001) ∷ []) (codes "PZ") [] ∷
    -- cmpxchg rdx, rcx
    row (0x48 ∷ 0x0F ∷ 0xB1 ∷ 0xCA ∷ []) [] [] ((RAX, 0xFFFFFFFF80000000) ∷ []) (codes "C") [] ∷
    -- cmpxchg byte [rbx], ah
    row (0x0F ∷ 0xB0 ∷ 0x23 ∷ []) ((RAX, 0x7710) ∷ []) [] [] (codes "PZ")
    ((0, 0x1716151413121177) ∷ []) ∷
    -- cmpxchg edx, ecx
    row (0x0F ∷ 0xB1 ∷ 0xCA ∷ []) ((RAX, 0xF80000000) ∷ []) [] ((RDX, 1) ∷ []) (codes "PZ") [] ∷ []

compare_and_add_rows : computed compare_and_add ≡ told compare_and_add
unfolding step_by word ones compare_and_add
compare_and_add_rows = refl

-- ---- no effect

without_effect : List Row
without_effect =
    -- nop
    row (0x90 ∷ []) [] [] [] [] [] ∷
    -- mfence
    row (0x0F ∷ 0xAE ∷ 0xF0 ∷ []) [] [] [] [] [] ∷
    -- nop dword [rax]
    row (0x0F ∷ 0x1F ∷ 0 ∷ []) [] [] [] [] [] ∷ []

without_effect_rows : computed without_effect ≡ told without_effect
unfolding step_by word ones without_effect
without_effect_rows = refl

-- ---- jumps and calls; RIP may become any number

branches : List Row
branches =
    -- jmp +5
    jump (0xEB ∷ 5 ∷ []) [] [] 0x401007 [] [] ∷
    -- jmp -2, to itself
    jump (0xEB ∷ 0xFE ∷ []) [] [] 0x401000 [] [] ∷
    -- jmp -0x401005: down to 0
    jump (0xE9 ∷ 0xFB ∷ 0xEF ∷ 0xBF ∷ 0xFF ∷ []) [] [] 0 [] [] ∷
    -- jmp -0x401006: the address wraps
    jump (0xE9 ∷ 0xFA ∷ 0xEF ∷ 0xBF ∷ 0xFF ∷ []) [] [] 0xFFFFFFFFFFFFFFFF [] [] ∷
    -- jne 16, taken
    jump (0x0F ∷ 0x85 ∷ 0x10 ∷ 0 ∷ 0 ∷ 0 ∷ []) [] (codes "C") 0x401016 [] [] ∷
    -- jne 16, not taken
    jump (0x75 ∷ 0x10 ∷ []) [] (codes "Z") 0x401002 [] [] ∷
    -- jmp rax leads anywhere
    jump (0xFF ∷ 0xE0 ∷ []) ((RAX, 0x8000000000000000) ∷ []) [] 0x8000000000000000 [] [] ∷
    -- jmp [rbx]
    jump (0xFF ∷ 0x23 ∷ []) [] [] 0x1716151413121110 [] [] ∷
    -- call +5
    jump (0xE8 ∷ 5 ∷ 0 ∷ 0 ∷ 0 ∷ []) [] [] 0x40100A ((RSP, 0x403018) ∷ []) ((1, 0x401005) ∷ []) ∷
    -- call rcx
    jump (0xFF ∷ 0xD1 ∷ []) [] [] 0x8000000000000001 ((RSP, 0x403018) ∷ [])
    ((1, 0x401002) ∷ []) ∷
    -- call [rsp-8]: the operand is taken before RSP is lowered
    jump (0xFF ∷ 0x54 ∷ 0x24 ∷ 0xF8 ∷ []) [] [] 0x1F1E1D1C1B1A1918 ((RSP, 0x403018) ∷ [])
    ((1, 0x401004) ∷ []) ∷
    -- call rsp
    jump (0xFF ∷ 0xD4 ∷ []) [] [] 0x403020 ((RSP, 0x403018) ∷ []) ((1, 0x401002) ∷ []) ∷
    -- ret
    jump (0xC3 ∷ []) [] [] 0x2726252423222120 ((RSP, 0x403028) ∷ []) [] ∷
    -- rdpkru clears the upper halves
    jump (0x0F ∷ 1 ∷ 0xEE ∷ []) ((RCX, 0x100000000) ∷ []) [] 0x401003
    ((RAX, 0x55555554) ∷ (RDX, 0) ∷ []) [] ∷
    -- nop [rax] reads nothing
    jump (0x0F ∷ 0x1F ∷ 0 ∷ []) [] [] 0x401003 [] [] ∷
    -- shl dword [rbx], 0 changes no flag
    jump (0xC1 ∷ 0x23 ∷ 0 ∷ []) [] (codes "CO") 0x401003 [] [] ∷ []

branches_rows : computed branches ≡ told branches
unfolding step_by word ones branches
branches_rows = refl

-- ---- no right to write is asked of what only reads; a CMPXCHG that fails writes RAX alone

readers : List Row
readers =
    -- cmp dword [0x405010], eax only reads
    row (0x39 ∷ 4 ∷ 0x25 ∷ 0x10 ∷ 0x50 ∷ 0x40 ∷ 0 ∷ []) ((RAX, 0x13121110) ∷ []) [] []
    (codes "PZ") [] ∷
    -- bt dword [0x405010], 4 only reads
    row (0x0F ∷ 0xBA ∷ 0x24 ∷ 0x25 ∷ 0x10 ∷ 0x50 ∷ 0x40 ∷ 0 ∷ 4 ∷ []) [] [] [] (codes "C") [] ∷
    -- cmpxchg edx, ecx, which fails: RDX keeps its upper half
    row (0x0F ∷ 0xB1 ∷ 0xCA ∷ []) ((RAX, 0xF00000001) ∷ []) [] ((RAX, 0x80000000) ∷ [])
    (codes "CSO") [] ∷ []

readers_rows : computed readers ≡ told readers
unfolding step_by word ones readers
readers_rows = refl

-- ---- faults: the thread and the bytes stay as they were

record FaultRow : Type 0 where
  bytes : List ℕ
  old : Thread
  cause : Cause
  addr : ℕ

-- the bytes of an instruction, the registers that aren't usual; why it faults, and where
abbrev fault : List ℕ → List (ℕ × ℕ) → Cause → ℕ → FaultRow
fault bytes before cause addr = record {
  bytes = bytes;
  old = thread_of 0x401000 (changed usual before) [];
  cause = cause;
  addr = addr;
}

abbrev faulted : FaultRow → State → State
faulted r s = record s { steps = 7; end = Some (Fault 0 0x401000 r.cause r.addr) }

faults : List FaultRow
faults =
    -- no page is mapped
    fault (0x48 ∷ 0x8B ∷ 0 ∷ []) ((RAX, 0x500123) ∷ []) Unmapped 0x500123 ∷
    -- the last page below 2^47 isn't mapped
    fault (0x48 ∷ 0x8B ∷ 0 ∷ []) ((RAX, 0x7FFFFFFFFFFC) ∷ []) Unmapped 0x7FFFFFFFFFFC ∷
    -- 2^47
    fault (0x48 ∷ 0x8B ∷ 0 ∷ []) ((RAX, 0x800000000000) ∷ []) Unmapped 0x800000000000 ∷
    -- mov rax, [rax+8] wraps
    fault (0x48 ∷ 0x8B ∷ 0x40 ∷ 8 ∷ []) ((RAX, 0xFFFFFFFFFFFFFFFC) ∷ []) Unmapped 4 ∷
    -- the first byte that fails: on the next page, which isn't mapped
    fault (0x48 ∷ 0x8B ∷ 4 ∷ 0x25 ∷ 0xFC ∷ 0x3F ∷ 0x40 ∷ 0 ∷ []) [] Unmapped 0x404000 ∷
    -- a page that is closed
    fault (0x8B ∷ 4 ∷ 0x25 ∷ 0 ∷ 0x60 ∷ 0x40 ∷ 0 ∷ []) [] Key 0x406000 ∷
    -- the lower page is open, the next is closed
    fault (0x48 ∷ 0x8B ∷ 4 ∷ 0x25 ∷ 0xFC ∷ 0x5F ∷ 0x40 ∷ 0 ∷ []) [] Key 0x406000 ∷
    -- a write to a page that can only be read
    fault (0x89 ∷ 4 ∷ 0x25 ∷ 0x10 ∷ 0x50 ∷ 0x40 ∷ 0 ∷ []) [] Write 0x405010 ∷
    -- to a published page
    fault (0x89 ∷ 4 ∷ 0x25 ∷ 0 ∷ 0x18 ∷ 0x40 ∷ 0 ∷ []) [] Write 0x401800 ∷
    -- over the end of a page that can be written
    fault (0x89 ∷ 4 ∷ 0x25 ∷ 0xFE ∷ 0x3F ∷ 0x40 ∷ 0 ∷ []) [] Unmapped 0x404000 ∷
    -- add loads and then stores
    fault (1 ∷ 4 ∷ 0x25 ∷ 0x10 ∷ 0x50 ∷ 0x40 ∷ 0 ∷ []) [] Write 0x405010 ∷
    -- shl by 0 stores
    fault (0xC1 ∷ 0x24 ∷ 0x25 ∷ 0x10 ∷ 0x50 ∷ 0x40 ∷ 0 ∷ 0 ∷ []) [] Write 0x405010 ∷
    -- cmpxchg stores also where it fails
    fault (0x0F ∷ 0xB1 ∷ 0x0C ∷ 0x25 ∷ 0x10 ∷ 0x50 ∷ 0x40 ∷ 0 ∷ []) [] Write 0x405010 ∷
    -- xchg writes no register
    fault (0x87 ∷ 4 ∷ 0x25 ∷ 0x10 ∷ 0x50 ∷ 0x40 ∷ 0 ∷ []) [] Write 0x405010 ∷
    -- nor does xadd
    fault (0x0F ∷ 0xC1 ∷ 4 ∷ 0x25 ∷ 0x10 ∷ 0x50 ∷ 0x40 ∷ 0 ∷ []) [] Write 0x405010 ∷
    -- setc
    fault (0x0F ∷ 0x92 ∷ 4 ∷ 0x25 ∷ 0x10 ∷ 0x50 ∷ 0x40 ∷ 0 ∷ []) [] Write 0x405010 ∷
    -- cmovc loads also where it fails
    fault (0x0F ∷ 0x42 ∷ 4 ∷ 0x25 ∷ 0 ∷ 0 ∷ 0x50 ∷ 0 ∷ []) [] Unmapped 0x500000 ∷
    -- push leaves RSP
    fault (0x50 ∷ []) ((RSP, 0x405018) ∷ []) Write 0x405010 ∷
    -- push wraps
    fault (0x50 ∷ []) ((RSP, 4) ∷ []) Unmapped 0xFFFFFFFFFFFFFFFC ∷
    -- pop
    fault (0x58 ∷ []) ((RSP, 0x406010) ∷ []) Key 0x406010 ∷
    -- call
    fault (0xE8 ∷ 0 ∷ 0 ∷ 0 ∷ 0 ∷ []) ((RSP, 0x405018) ∷ []) Write 0x405010 ∷
    -- call [rax]: the operand first
    fault (0xFF ∷ 0x10 ∷ []) ((RAX, 0x500000) ∷ (RSP, 0x405018) ∷ []) Unmapped 0x500000 ∷
    -- ret
    fault (0xC3 ∷ []) ((RSP, 0x500000) ∷ []) Unmapped 0x500000 ∷
    -- leave
    fault (0xC9 ∷ []) ((RBP, 0x500000) ∷ []) Unmapped 0x500000 ∷
    -- rdpkru with ECX 1
    fault (0x0F ∷ 1 ∷ 0xEE ∷ []) ((RCX, 1) ∷ []) General 0x401000 ∷ []

faults_rows :
    map (λ (r : FaultRow). step_by 0 (state_of r.old r.bytes)) faults
    ≡ map (λ (r : FaultRow). Some (faulted r (state_of r.old r.bytes))) faults
unfolding step_by faults
faults_rows = refl

-- page 0x403 can be written and not be read
abbrev unreadable : RightsMap
unreadable q = if q == 0x403
    then Some (record { read = false; write = true; exec = false; asked = 2; key = 0 })
    else small_rights q

-- mov eax, [rbx]
not_readable :
    let t = thread_of 0x401000 usual [] in
    let s = record (state_of t (0x8B ∷ 3 ∷ [])) { rights = unreadable } in
    step_by 0 s ≡ Some (faulted (fault [] [] Read 0x403010) s)
unfolding step_by
not_readable = refl

-- WD of key 0 forbids writes: mov [rbx], eax
write_disabled :
    let t = record (thread_of 0x401000 usual []) { pkru = 2 } in
    let s = state_of t (0x89 ∷ 3 ∷ []) in
    step_by 0 s ≡ Some (faulted (fault [] [] Key 0x403010) s)
unfolding step_by
write_disabled = refl

-- and no reads
write_disabled_reads :
    let t = record (thread_of 0x401000 usual []) { pkru = 2 } in
    let regs = changed usual ((RAX, 0x13121110) ∷ []) in
    let u = record (thread_of 0x401002 regs []) { pkru = 2 } in
    let s = state_of t (0x8B ∷ 3 ∷ []) in
    step_by 0 s ≡ Some (record s { steps = 7; threads = u ∷ [] })
unfolding step_by word
write_disabled_reads = refl

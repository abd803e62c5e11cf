-- The images that the program makes from a seed: a number of threads go, each a number of times,
-- through the gate and count. Own.
use Rattle.std.specs.Prelude.{ℕ, ◌+◌, ◌-◌, ◌/◌, ◌%◌, List, [], ◌∷◌, ◌++◌, replicate}
use Rattle.erim_defs.specs.declared.note.TheConstants.{TRUSTED_DATA, TRUSTED_ENTRY, TRUSTED_TEXT}
use Rattle.erim_defs.specs.Inspection.Gate.{gate_in, gate_out}
use Rattle.erim_defs.specs.Inspection.Trust.{TrustValue, plain_trust}
use Rattle.erim_defs.specs.Output.LayImage.{Part, Mark, words, laid_image}

-- ---- from a seed

-- 1 to 8
abbrev pub seed_threads : ℕ → ℕ
seed_threads seed = 1 + seed % 8

-- 1 to 1,000
abbrev pub seed_rounds : ℕ → ℕ
seed_rounds seed = 1 + seed / 8 % 1000

-- ---- code, at 0x401000

-- makes the other threads, of which there are one less
abbrev pub spawn_code : ℕ → List ℕ
spawn_code threads =
    -- mov ebx, threads - 1
    0xBB ∷ words ((threads - 1) ∷ [])
    -- again: test ebx, ebx; je count
    ++ (0x85 ∷ 0xDB ∷ 0x74 ∷ 0x16
    -- mov edi, 0x50F00; xor esi, esi; mov eax, 56; syscall (clone)
    ∷ 0xBF ∷ 0x00 ∷ 0x0F ∷ 0x05 ∷ 0x00 ∷ 0x31 ∷ 0xF6 ∷ 0xB8 ∷ 0x38 ∷ 0x00 ∷ 0x00 ∷ 0x00 ∷ 0x0F
    ∷ 0x05
    -- test eax, eax; je count; dec ebx; jmp again
    ∷ 0x85 ∷ 0xC0 ∷ 0x74 ∷ 0x04 ∷ 0xFF ∷ 0xCB ∷ 0xEB ∷ 0xE6 ∷ [])

-- each thread's work
abbrev pub count_code : ℕ → ℕ → List ℕ
count_code threads rounds =
    -- count: mov ebp, rounds
    0xBD ∷ words (rounds ∷ [])
    -- round: mov esi, 0x40102E (back); jmp 0x402000 (gate in)
    ++ (0xBE ∷ 0x2E ∷ 0x10 ∷ 0x40 ∷ 0x00 ∷ 0xE9 ∷ 0xD2 ∷ 0x0F ∷ 0x00 ∷ 0x00
    -- back: dec ebp; jne round
    ∷ 0xFF ∷ 0xCD ∷ 0x75 ∷ 0xF2
    -- mov eax, 1; lock xadd [0x403000], eax
    ∷ 0xB8 ∷ 0x01 ∷ 0x00 ∷ 0x00 ∷ 0x00 ∷ 0xF0 ∷ 0x0F ∷ 0xC1 ∷ 0x04 ∷ 0x25 ∷ 0x00 ∷ 0x30 ∷ 0x40
    ∷ 0x00
    -- cmp eax, threads - 1; je last
    ∷ 0x3D ∷ words ((threads - 1) ∷ []) ++ (0x74 ∷ 0x09
    -- xor edi, edi; mov eax, 60; syscall (exit)
    ∷ 0x31 ∷ 0xFF ∷ 0xB8 ∷ 0x3C ∷ 0x00 ∷ 0x00 ∷ 0x00 ∷ 0x0F ∷ 0x05
    -- last: jmp 0x402040 (the second gate in)
    ∷ 0xE9 ∷ 0xEB ∷ 0x0F ∷ 0x00 ∷ 0x00 ∷ []))

-- 85 bytes
unfoldable pub generated_code : ℕ → ℕ → List ℕ
generated_code threads rounds = spawn_code threads ++ count_code threads rounds

-- ---- trusted text, at 0x402000

-- what the gates write rests on no trusted part
abbrev no_trust : TrustValue
no_trust = plain_trust [] []

-- counts a round, and goes back; writes the count, and ends the process
unfoldable pub generated_text : List ℕ
generated_text =
    gate_in
    -- lock add qword [0x404000], 1
    ++ (0xF0 ∷ 0x48 ∷ 0x83 ∷ 0x04 ∷ 0x25 ∷ 0x00 ∷ 0x40 ∷ 0x40 ∷ 0x00 ∷ 0x01 ∷ [])
    ++ gate_out
    -- jmp rsi
    ++ (0xFF ∷ 0xE6 ∷ [])
    ++ replicate 14 0
    ++ gate_in
    -- mov edi, 1; mov esi, 0x404000; mov edx, 8; mov eax, 1; syscall (write)
    ++ (0xBF ∷ 0x01 ∷ 0x00 ∷ 0x00 ∷ 0x00 ∷ 0xBE ∷ 0x00 ∷ 0x40 ∷ 0x40 ∷ 0x00 ∷ 0xBA ∷ 0x08 ∷ 0x00
    ∷ 0x00 ∷ 0x00 ∷ 0xB8 ∷ 0x01 ∷ 0x00 ∷ 0x00 ∷ 0x00 ∷ 0x0F ∷ 0x05
    -- xor edi, edi; mov eax, 231; syscall (exit_group)
    ∷ 0x31 ∷ 0xFF ∷ 0xB8 ∷ 0xE7 ∷ 0x00 ∷ 0x00 ∷ 0x00 ∷ 0x0F ∷ 0x05 ∷ [])

-- ---- the image

-- the code, the trusted text, a plain page and a trusted page
abbrev pub generated_parts : ℕ → ℕ → List Part
generated_parts threads rounds =
    record { vaddr = 0x401000; flags = 5; bytes = generated_code threads rounds; memsz = 85 }
    ∷ record { vaddr = 0x402000; flags = 5; bytes = generated_text; memsz = 4096 }
    ∷ record { vaddr = 0x403000; flags = 6; bytes = []; memsz = 4096 }
    ∷ record { vaddr = 0x404000; flags = 6; bytes = []; memsz = 4096 }
    ∷ []

abbrev pub generated_marks : List Mark
generated_marks =
    record { kind = TRUSTED_TEXT; start = 0x402000; length = 4096 }
    ∷ record { kind = TRUSTED_DATA; start = 0x404000; length = 4096 }
    ∷ record { kind = TRUSTED_ENTRY; start = 0x40200C; length = 0 }
    ∷ record { kind = TRUSTED_ENTRY; start = 0x40204C; length = 0 }
    ∷ []

-- the image of a given number of threads that go a given number of rounds each
unfoldable pub generated_image : ℕ → ℕ → List ℕ
generated_image threads rounds = laid_image
    (generated_parts threads rounds) generated_marks [] 0x401000

-- the image that is made from a seed
unfoldable pub seed_image : ℕ → List ℕ
seed_image seed = generated_image (seed_threads seed) (seed_rounds seed)

-- Steps of the machine on small states, computed. SDM volume 2, MOV XOR CMP Jcc WRPKRU SYSCALL, and
-- volume 1, "EFLAGS register"; what a fault says, and which steps are defined, is own.
use Rattle.std.proofs.Common.{◌≡◌, ◌==◌, ◌||◌, List, [], ◌∷◌, Some, None, false, true, map, refl}
use Rattle.std.specs.Prelude.{if◌then◌else◌}
use Rattle.erim_defs.specs.declared.machine.Cause.{Cause}
use Rattle.erim_defs.specs.declared.machine.Cause.TheVariants.{Exec, Undefined, General}
use Rattle.erim_defs.specs.declared.machine.End.{End}
use Rattle.erim_defs.specs.declared.machine.End.TheVariants.{Exit, Fault}
use Rattle.erim_defs.specs.declared.machine.Flags.{Flags}
use Rattle.erim_defs.specs.declared.machine.Thread.{Thread}
use Rattle.erim_defs.specs.Machine.State.{State, any_live}
use Rattle.erim_defs.specs.Machine.Count.{count_below}
use Rattle.erim_defs.specs.Machine.Step.{flags_word, with_end, after_exec_fault}
use Rattle.definition_rows.proofs.SmallMachine.{step_by, state_of, thread_at, caller_at, no_flags}
use Rattle.definition_rows.proofs.SmallMachine.{published_page}

-- the state after one more step, with this thread
abbrev after : Thread → State → State
after t s = record s { steps = 7; threads = t ∷ [] }

-- the state after one more step, which ends the process
abbrev ended_after : End → State → State
ended_after e s = record s { steps = 7; end = Some e }

-- thread 0 faults at its own RIP
abbrev faulted : Cause → State → State
faulted cause s = ended_after (Fault 0 0x401000 cause 0x401000) s

-- RAX has an upper half
first : Thread
first = thread_at 0x401000 0x200000007 0 0

equal : Flags
equal = record no_flags { pf = true; zf = true }

-- CF, PF and SF
below : Flags
below = record { cf = true; pf = true; zf = false; sf = true; of = false }

-- ---- moves, arithmetic and jumps

-- mov eax, 231 clears the upper half
mov_number : let s = state_of first (0xB8 ∷ 0xE7 ∷ 0 ∷ 0 ∷ 0 ∷ []) in
    step_by 0 s ≡ Some (after (thread_at 0x401005 231 0 0) s)
unfolding step_by first
mov_number = refl

-- mov edx, -1
mov_negative : let s = state_of first (0xBA ∷ 0xFF ∷ 0xFF ∷ 0xFF ∷ 0xFF ∷ []) in
    step_by 0 s ≡ Some (after (thread_at 0x401005 0x200000007 0 0xFFFFFFFF) s)
unfolding step_by first
mov_negative = refl

-- xor eax, ebx
xor_registers : let s = state_of first (0x31 ∷ 0xD8 ∷ []) in
    step_by 0 s ≡ Some (after (thread_at 0x401002 4 0 0) s)
unfolding step_by first
xor_registers = refl

-- xor eax, eax
xor_itself : let s = state_of first (0x31 ∷ 0xC0 ∷ []) in
    step_by 0 s ≡ Some (after (record (thread_at 0x401002 0 0 0) { flags = equal }) s)
unfolding step_by first equal
xor_itself = refl

-- cmp eax, 7 writes nothing, also no upper half
cmp_number : let s = state_of first (0x3D ∷ 0x07 ∷ 0 ∷ 0 ∷ 0 ∷ []) in
    step_by 0 s ≡ Some (after (record first { rip = 0x401005; flags = equal }) s)
unfolding step_by first equal
cmp_number = refl

-- cmp ebx, eax: 3 is below 7
cmp_registers : let s = state_of first (0x39 ∷ 0xC3 ∷ []) in
    step_by 0 s ≡ Some (after (record first { rip = 0x401002; flags = below }) s)
unfolding step_by first below
cmp_registers = refl

-- je 7
jump_taken : let t = record first { flags = equal } in let s = state_of t (0x74 ∷ 0x07 ∷ []) in
    step_by 0 s ≡ Some (after (record t { rip = 0x401009 }) s)
unfolding step_by first equal
jump_taken = refl

jump_not_taken : let s = state_of first (0x74 ∷ 0x07 ∷ []) in
    step_by 0 s ≡ Some (after (record first { rip = 0x401002 }) s)
unfolding step_by first
jump_not_taken = refl

-- jne -16
jump_back : let s = state_of first (0x75 ∷ 0xF0 ∷ []) in
    step_by 0 s ≡ Some (after (record first { rip = 0x400FF2 }) s)
unfolding step_by first
jump_back = refl

-- ---- WRPKRU: the low halves of ECX and EDX are 0, the low half of RAX is taken

wrpkru_low_halves :
    let t = thread_at 0x401000 0x955555554 0x100000000 0x300000000 in
    let s = state_of t (0x0F ∷ 0x01 ∷ 0xEF ∷ []) in
    step_by 0 s ≡ Some (after (record t { rip = 0x401003 }) s)
unfolding step_by
wrpkru_low_halves = refl

-- key 1 stays closed
wrpkru_value :
    let t = thread_at 0x401000 0x5555555C 0 0 in
    let s = state_of t (0x0F ∷ 0x01 ∷ 0xEF ∷ []) in
    step_by 0 s ≡ Some (after (record t { rip = 0x401003; pkru = 0x5555555C }) s)
unfolding step_by
wrpkru_value = refl

wrpkru_with_ecx : let s = state_of (thread_at 0x401000 0x55555550 1 0) (0x0F ∷ 0x01 ∷ 0xEF ∷ []) in
    step_by 0 s ≡ Some (faulted General s)
unfolding step_by
wrpkru_with_ecx = refl

wrpkru_with_edx : let s = state_of (thread_at 0x401000 0x55555550 0 1) (0x0F ∷ 0x01 ∷ 0xEF ∷ []) in
    step_by 0 s ≡ Some (faulted General s)
unfolding step_by
wrpkru_with_edx = refl

-- ---- SYSCALL: the next RIP to RCX, RFLAGS to R11, the answer to RAX

-- write of 3 bytes
write_answered :
    let s = state_of (caller_at 0x401000 1 2 3 0x403041 1 11) (0x0F ∷ 0x05 ∷ []) in
    let t = caller_at 0x401002 3 0x401002 3 0x403041 1 0x202 in
    step_by 0 s ≡ Some (record (after t s) { output = 0x41 ∷ 0x42 ∷ 0x43 ∷ [] })
unfolding step_by
write_answered = refl

-- write to file 2: EBADF
write_refused : let s = state_of (caller_at 0x401000 1 2 3 0x403041 2 11) (0x0F ∷ 0x05 ∷ []) in
    step_by 0 s ≡ Some (after (caller_at 0x401002 0xFFFFFFFFFFFFFFF7 0x401002 3 0x403041 2 0x202) s)
unfolding step_by
write_refused = refl

-- no such call: ENOSYS; R11 has ZF and PF
no_such_call :
    let t = record (caller_at 0x401000 39 2 3 6 7 11) { flags = equal } in
    let u = record (caller_at 0x401002 0xFFFFFFFFFFFFFFDA 0x401002 3 6 7 0x246) { flags = equal } in
    let s = state_of t (0x0F ∷ 0x05 ∷ []) in
    step_by 0 s ≡ Some (after u s)
unfolding step_by equal
no_such_call = refl

-- exit_group(7)
exit_group :
    let s = state_of (caller_at 0x401000 231 2 3 6 7 11) (0x0F ∷ 0x05 ∷ []) in
    let t = caller_at 0x401002 231 0x401002 3 6 7 0x202 in
    step_by 0 s ≡ Some (record (after t s) { end = Some (Exit 7) })
unfolding step_by
exit_group = refl

-- nothing, CF, PF, ZF, SF, OF, all
some_flags : List Flags
some_flags =
    no_flags ∷
    record no_flags { cf = true } ∷
    record no_flags { pf = true } ∷
    record no_flags { zf = true } ∷
    record no_flags { sf = true } ∷
    record no_flags { of = true } ∷
    record { cf = true; pf = true; zf = true; sf = true; of = true } ∷ []

flags_words :
    map flags_word some_flags
    ≡ 0x202 ∷ 0x203 ∷ 0x206 ∷ 0x242 ∷ 0x282 ∷ 0xA02 ∷ 0xAC7 ∷ []
unfolding some_flags
flags_words = refl

-- ---- what ends the process

-- 06 is no instruction
undefined_byte : let s = state_of first (0x06 ∷ []) in step_by 0 s ≡ Some (faulted Undefined s)
unfolding step_by first
undefined_byte = refl

-- no page is mapped at RIP
unmapped_page : let s = state_of (record first { rip = 0x500123 }) [] in
    step_by 0 s ≡ Some (ended_after (Fault 0 0x500123 Exec 0x500123) s)
unfolding step_by first
unmapped_page = refl

-- an instruction goes on in a page that isn't mapped: RIP stands before the address that faults
next_unmapped_page :
    let t = record first { rip = 0x402FFE } in
    let s = record (state_of t (0xB8 ∷ 0x01 ∷ [])) {
      rights = λ q. if q == 0x402 then published_page else None;
    } in
    step_by 0 s ≡ Some (ended_after (Fault 0 0x402FFE Exec 0x403000) s)
unfolding step_by first
next_unmapped_page = refl

-- and in one that doesn't ask PROT_EXEC
next_page : let s = state_of (record first { rip = 0x402FFE }) (0xB8 ∷ 0x01 ∷ []) in
    step_by 0 s ≡ Some (ended_after (Fault 0 0x402FFE Exec 0x403000) s)
unfolding step_by first
next_page = refl

-- also a page that asks PROT_EXEC, where it isn't of user memory
above_user_memory : let s = state_of first [] in
    after_exec_fault published_page 0x800000000000 (record { number = 0; thread = first }) s
    ≡ with_end (Fault 0 0x401000 Exec 0x800000000000) s
unfolding first
above_user_memory = refl

-- ---- which thread, and which steps are defined

-- thread 1 steps, thread 0 stays
second_thread : let s = state_of first (0xB8 ∷ 0xE7 ∷ 0 ∷ 0 ∷ 0 ∷ []) in
    step_by 1 (record s { threads = thread_at 9 8 7 6 ∷ first ∷ [] })
    ≡ Some (record s { threads = thread_at 9 8 7 6 ∷ thread_at 0x401005 231 0 0 ∷ []; steps = 7 })
unfolding step_by first
second_thread = refl

fault_of_second_thread :
    let s = record (state_of first (0x06 ∷ [])) { threads = thread_at 9 8 7 6 ∷ first ∷ [] } in
    step_by 1 s ≡ Some (ended_after (Fault 1 0x401000 Undefined 0x401000) s)
unfolding step_by first
fault_of_second_thread = refl

no_such_thread : step_by 1 (state_of first (0x06 ∷ [])) ≡ None
unfolding step_by first
no_such_thread = refl

dead_thread : step_by 0 (state_of (record first { live = false }) (0x06 ∷ [])) ≡ None
unfolding step_by first
dead_thread = refl

ended_process : step_by 0 (record (state_of first (0x06 ∷ [])) { end = Some (Exit 0) }) ≡ None
unfolding step_by first
ended_process = refl

-- the budget of 100 is spent
spent_budget : step_by 0 (record (state_of first (0x06 ∷ [])) { steps = 100 }) ≡ None
unfolding step_by first
spent_budget = refl

last_of_budget : let s = record (state_of first (0x06 ∷ [])) { steps = 99 } in
    step_by 0 s ≡ Some (record s { steps = 100; end = Some (Fault 0 0x401000 Undefined 0x401000) })
unfolding step_by first
last_of_budget = refl

-- ---- who is live, and how many pages are mapped

any_live_ones : let dead : Thread = record first { live = false } in
    map any_live ([] ∷ (dead ∷ []) ∷ (dead ∷ first ∷ []) ∷ (first ∷ dead ∷ []) ∷ [])
    ≡ false ∷ false ∷ true ∷ true ∷ []
unfolding any_live first
any_live_ones = refl

mapped_pages :
    map (λ n. count_below n (λ q. (q == 1) || ((q == 4) || (q == 6)))) (0 ∷ 1 ∷ 2 ∷ 6 ∷ 7 ∷ [])
    ≡ 0 ∷ 0 ∷ 1 ∷ 2 ∷ 3 ∷ []
unfolding count_below
mapped_pages = refl

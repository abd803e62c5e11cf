-- The system calls on small states, computed. Linux on x86-64: exit_group 231, write 1; EBADF 9,
-- EFAULT 14, ENOSPC 28, ENOSYS 38; the order of refusals is own.
use Rattle.std.proofs.Common.{◌≡◌, ℕ, List, [], ◌∷◌, ◌++◌, length, map, refl}
use Rattle.erim_defs.specs.declared.machine.Thread.{Thread}
use Rattle.erim_defs.specs.Machine.Access.{opens, stop}
use Rattle.erim_defs.specs.Machine.Pages.{bytes_of_range}
use Rattle.erim_defs.specs.Machine.State.{State}
use Rattle.erim_defs.specs.Machine.CallResult.{Refusal, Answer, Quit, CallResult, no_change}
use Rattle.erim_defs.specs.Machine.Calls.{write_result, call_result}
use Rattle.definition_rows.proofs.SmallMachine.{state_of, thread_at, caller_at}

-- closed, with RAX, RDI, RSI, RDX
caller : ℕ → ℕ → ℕ → ℕ → Thread
caller rax rdi rsi rdx = caller_at 0x401002 rax 1 rdx rsi rdi 11

-- so much was written before
state : List ℕ → State
state output = record (state_of (thread_at 0x401000 0 0 0) []) { output = output }

-- what comes of a call of this thread
answer_to : Thread → CallResult
unfolding state opens stop bytes_of_range write_result call_result
answer_to t = call_result (state (0x7A ∷ [])) 0 t

-- write(fd, buf, n) of a closed thread
write : ℕ → ℕ → ℕ → CallResult
unfolding answer_to caller
write fd buf n = answer_to (caller 1 fd buf n)

-- the same, of an open one
open_write : ℕ → ℕ → ℕ → CallResult
unfolding answer_to caller
open_write fd buf n = answer_to (record (caller 1 fd buf n) { pkru = 0x55555550 })

-- an answer that only adds to the output
abbrev adds : Thread → ℕ → List ℕ → CallResult
adds t n bytes = Answer n (record (no_change (state []) t) { output = 0x7A ∷ bytes })

-- ---- exit_group: the low 8 bits of the code

exit_codes :
    map (λ code. answer_to (caller 231 code 6 2)) (0 ∷ 7 ∷ 255 ∷ 256 ∷ 0x107 ∷ [])
    ≡ Quit 0 ∷ Quit 7 ∷ Quit 255 ∷ Quit 0 ∷ Quit 7 ∷ []
unfolding answer_to caller
exit_codes = refl

-- ---- other numbers; all 64 bits of RAX count

other_numbers :
    map (λ number. answer_to (caller number 1 0x403041 3))
    (0 ∷ 2 ∷ 39 ∷ 230 ∷ 232 ∷ 0x100000001 ∷ 0x1000000E7 ∷ [])
    ≡ Refusal 38 ∷ Refusal 38 ∷ Refusal 38 ∷ Refusal 38 ∷ Refusal 38 ∷ Refusal 38 ∷ Refusal 38 ∷ []
unfolding answer_to caller
other_numbers = refl

-- ---- write

three_bytes : write 1 0x403041 3 ≡ adds (caller 1 1 0x403041 3) 3 (0x41 ∷ 0x42 ∷ 0x43 ∷ [])
unfolding write caller
three_bytes = refl

-- no byte is asked for, so none is looked at
no_byte : write 1 0x500000 0 ≡ adds (caller 1 1 0x500000 0) 0 []
unfolding write caller
no_byte = refl

-- the low 32 bits of the file number count
low_half_of_the_file :
    write 0x700000001 0x403041 1 ≡ adds (caller 1 0x700000001 0x403041 1) 1 (0x41 ∷ [])
unfolding write caller
low_half_of_the_file = refl

other_files :
    map (λ fd. write fd 0x403041 3) (0 ∷ 2 ∷ 0x100000000 ∷ 0x100000002 ∷ [])
    ≡ Refusal 9 ∷ Refusal 9 ∷ Refusal 9 ∷ Refusal 9 ∷ []
unfolding write caller
other_files = refl

-- up to the end of the page
end_of_page : write 1 0x403FFE 2 ≡ adds (caller 1 1 0x403FFE 2) 2 (0xFE ∷ 0xFF ∷ [])
unfolding write caller
end_of_page = refl

-- one byte past it, an unmapped page, a page of the trusted key, no user address
bad_buffers :
    write 1 0x403FFE 3 ∷ write 1 0x500000 1 ∷ write 1 0x406000 1 ∷ write 1 0x800000000000 1 ∷ []
    ≡ Refusal 14 ∷ Refusal 14 ∷ Refusal 14 ∷ Refusal 14 ∷ []
unfolding write caller
bad_buffers = refl

-- an open thread may read a page of the trusted key
trusted_page :
    let t = record (caller 1 1 0x406041 1) { pkru = 0x55555550 } in
    open_write 1 0x406041 1 ≡ adds t 1 (0x41 ∷ [])
unfolding open_write caller
trusted_page = refl

-- one more byte than the output has room for, and as many as it has
full_output :
    (output : List ℕ) → length output ≡ 1048576
    → write_result (state output) (caller 1 1 0x403041 1) 1 0x403041 1 ≡ Refusal 28
unfolding write_result stop opens state caller
full_output output full = rw full refl

last_byte : (output : List ℕ) → length output ≡ 1048575 → let t = caller 1 1 0x403041 1 in
    write_result (state output) t 1 0x403041 1
    ≡ Answer 1 (record (no_change (state []) t) { output = output ++ 0x41 ∷ [] })
unfolding write_result stop opens state caller bytes_of_range
last_byte output room = rw room refl

-- ---- in pairs: the file before the buffer and the room, the buffer before the room

file_before_buffer : write 2 0x500000 1 ≡ Refusal 9
unfolding write caller
file_before_buffer = refl

file_before_room :
    (output : List ℕ) → length output ≡ 1048576
    → write_result (state output) (caller 1 2 0x403041 1) 2 0x403041 1 ≡ Refusal 9
unfolding write_result stop opens state caller
file_before_room output full = refl

buffer_before_room :
    (output : List ℕ) → length output ≡ 1048576
    → write_result (state output) (caller 1 1 0x500000 1) 1 0x500000 1 ≡ Refusal 14
unfolding write_result stop opens state caller
buffer_before_room output full = refl

-- Publication, origins and escapes, computed on small states. Own, after ERIM.
use Rattle.erim_defs.specs.Inspection.Trust.{pkru_of, plain_trust}
use Rattle.std.proofs.Common.{◌≡◌, ℕ, ◌==◌, ◌≤◌, ◌^◌, ◌+◌, length, lit≤, List, [], ◌∷◌, Option}
use Rattle.std.proofs.Common.{Some, None, false, true, map, refl}
use Rattle.std.specs.Prelude.{if◌then◌else◌}
use Rattle.erim_defs.specs.declared.found.Found.{Found}
use Rattle.erim_defs.specs.declared.found.SeqKind.TheVariants.{Wrpkru}
use Rattle.erim_defs.specs.declared.machine.End.TheVariants.{Exit, Refused}
use Rattle.erim_defs.specs.declared.machine.Escape.{Escape}
use Rattle.erim_defs.specs.declared.machine.Thread.{Thread}
use Rattle.erim_defs.specs.Inspection.Check.{check_of}
use Rattle.erim_defs.specs.Inspection.Image.{image_trust, number_at, headers_from, headers}
use Rattle.erim_defs.specs.Inspection.Image.{notes_between}
use Rattle.erim_defs.specs.Inspection.Image.{notes, records_from, records_in}
use Rattle.erim_defs.specs.Inspection.Code.{Code}
use Rattle.erim_defs.specs.Inspection.Trust.{TrustValue}
use Rattle.erim_defs.specs.Inspection.Occurrence.{occurrence_at}
use Rattle.erim_defs.specs.Machine.Pages.{RightsMap, with_value_at, code_with, asks_exec}
use Rattle.erim_defs.specs.Machine.Pages.{published_rights}
use Rattle.erim_defs.specs.Inspection.Safe.{fits, unsafe_at}
use Rattle.erim_defs.specs.Machine.State.{State, code}
use Rattle.erim_defs.specs.Machine.CallResult.{Refusal, Answer, ThreadEnd, Quit, CallResult}
use Rattle.erim_defs.specs.Inspection.Unsafe.{first_unsafe}
use Rattle.erim_defs.proofs.FirstUnsafeLemmas.{first_from, first_unsafe_with, bytes_from}
use Rattle.definition_rows.proofs.SmallMachine.{step_by, state_of, thread_at, caller_at}
use Rattle.definition_rows.proofs.SmallMachine.{small_image}
use Rattle.definition_rows.proofs.SmallMachine.{call_by, page, published_page}

-- the state after one more step, with these threads
abbrev after_all : List Thread → State → State
after_all ts s = record s { steps = 7; threads = ts }

-- with this thread
abbrev after : Thread → State → State
after t s = after_all (t ∷ []) s

wrpkru : ℕ → Found
wrpkru a = record { at = a; len = 3; kind = Wrpkru }

-- RAX opens the trusted key
opening : ℕ → Thread
opening rip = thread_at rip 0x55555550 0 0

-- the trusted key is open
open_at : ℕ → Option Found → Thread
open_at rip origin = record (opening rip) { pkru = 0x55555550; origin = origin }

-- ---- origins: the sequence without its prefixes, while the thread is open outside trusted text

opened_outside : let s = state_of (opening 0x401000) (0x0F ∷ 0x01 ∷ 0xEF ∷ []) in
    step_by 0 s ≡ Some (after (open_at 0x401003 (Some (wrpkru 0x401000))) s)
unfolding step_by opening open_at wrpkru
opened_outside = refl

opened_behind_prefixes :
    let s = state_of (opening 0x401000) (0x2E ∷ 0x3E ∷ 0x0F ∷ 0x01 ∷ 0xEF ∷ []) in
    step_by 0 s ≡ Some (after (open_at 0x401005 (Some (wrpkru 0x401002))) s)
unfolding step_by opening open_at wrpkru
opened_behind_prefixes = refl

opened_in_text : let s = state_of (opening 0x402000) (0x0F ∷ 0x01 ∷ 0xEF ∷ []) in
    step_by 0 s ≡ Some (after (open_at 0x402003 None) s)
unfolding step_by opening open_at
opened_in_text = refl

-- the next instruction, mov ebx, 3, keeps it
origin_kept :
    let s = state_of (open_at 0x401003 (Some (wrpkru 0x401000))) (0xBB ∷ 0x03 ∷ 0 ∷ 0 ∷ 0 ∷ []) in
    step_by 0 s ≡ Some (after (open_at 0x401008 (Some (wrpkru 0x401000))) s)
unfolding step_by opening open_at wrpkru
origin_kept = refl

-- a second WRPKRU takes its place
origin_replaced :
    let s = state_of (open_at 0x401003 (Some (wrpkru 0x401000))) (0x0F ∷ 0x01 ∷ 0xEF ∷ []) in
    step_by 0 s ≡ Some (after (open_at 0x401006 (Some (wrpkru 0x401003))) s)
unfolding step_by opening open_at wrpkru
origin_replaced = refl

-- a WRPKRU that closes removes it
origin_removed_by_closing :
    let t = record (thread_at 0x401003 0x55555554 0 0)
    { pkru = 0x55555550; origin = Some (wrpkru 0x401000) } in
    let s = state_of t (0x0F ∷ 0x01 ∷ 0xEF ∷ []) in
    step_by 0 s ≡ Some (after (thread_at 0x401006 0x55555554 0 0) s)
unfolding step_by wrpkru
origin_removed_by_closing = refl

-- and so does a jump into trusted text, to its first byte and to its last
origin_removed_by_entering :
    let s = state_of (open_at 0x401003 (Some (wrpkru 0x401000)))
    (0x0F ∷ 0x85 ∷ 0xF7 ∷ 0x0F ∷ 0 ∷ 0 ∷ []) in
    step_by 0 s ≡ Some (after (open_at 0x402000 None) s)
unfolding step_by opening open_at wrpkru
origin_removed_by_entering = refl

origin_removed_at_the_end :
    let s = state_of (open_at 0x401003 (Some (wrpkru 0x401000)))
    (0x0F ∷ 0x85 ∷ 0xF6 ∷ 0x1F ∷ 0 ∷ 0 ∷ []) in
    step_by 0 s ≡ Some (after (open_at 0x402FFF None) s)
unfolding step_by opening open_at wrpkru
origin_removed_at_the_end = refl

-- just before trusted text it stays, and just after
origin_before_text :
    let s = state_of (open_at 0x401003 (Some (wrpkru 0x401000)))
    (0x0F ∷ 0x85 ∷ 0xF6 ∷ 0x0F ∷ 0 ∷ 0 ∷ []) in
    step_by 0 s ≡ Some (after (open_at 0x401FFF (Some (wrpkru 0x401000))) s)
unfolding step_by opening open_at wrpkru
origin_before_text = refl

origin_behind_text :
    let s = state_of (open_at 0x401003 (Some (wrpkru 0x401000)))
    (0x0F ∷ 0x85 ∷ 0xF7 ∷ 0x1F ∷ 0 ∷ 0 ∷ []) in
    step_by 0 s ≡ Some (after (open_at 0x403000 (Some (wrpkru 0x401000))) s)
unfolding step_by opening open_at wrpkru
origin_behind_text = refl

-- ---- escapes: open in trusted text before, open outside afterwards, and no WRPKRU

abbrev escape_at : ℕ → Option Escape
escape_at rip = Some (record { step = 7; thread = 0; rip = rip })

-- je that isn't taken
escape_over_the_end : let s = state_of (open_at 0x402FFE None) (0x74 ∷ 0x07 ∷ []) in
    step_by 0 s ≡ Some (record (after (open_at 0x403000 None) s) { escape = escape_at 0x403000 })
unfolding step_by opening open_at
escape_over_the_end = refl

-- jne that is taken
escape_by_a_jump :
    let s = state_of (open_at 0x402010 None) (0x0F ∷ 0x85 ∷ 0xEA ∷ 0xEF ∷ 0xFF ∷ 0xFF ∷ []) in
    step_by 0 s ≡ Some (record (after (open_at 0x401000 None) s) { escape = escape_at 0x401000 })
unfolding step_by opening open_at
escape_by_a_jump = refl

-- SYSCALL isn't free: a call that is refused, one that is answered, and the end of the process
abbrev open_thread : Thread → Thread
open_thread t = record t { pkru = 0x55555550 }

escape_by_a_refusal :
    let s = state_of (open_thread (caller_at 0x402FFE 39 2 3 6 7 11)) (0x0F ∷ 0x05 ∷ []) in
    let t = open_thread (caller_at 0x403000 0xFFFFFFFFFFFFFFDA 0x403000 3 6 7 0x202) in
    step_by 0 s ≡ Some (record (after t s) { escape = escape_at 0x403000 })
unfolding step_by
escape_by_a_refusal = refl

-- write(1, 0x403041, 1)
escape_by_an_answer :
    let s = state_of (open_thread (caller_at 0x402FFE 1 2 1 0x403041 1 11)) (0x0F ∷ 0x05 ∷ []) in
    let t = open_thread (caller_at 0x403000 1 0x403000 1 0x403041 1 0x202) in
    step_by 0 s
    ≡ Some (record (after t s) { escape = escape_at 0x403000; output = 0x41 ∷ [] })
unfolding step_by
escape_by_an_answer = refl

-- exit_group(7)
escape_by_an_exit :
    let s = state_of (open_thread (caller_at 0x402FFE 231 2 3 6 7 11)) (0x0F ∷ 0x05 ∷ []) in
    let t = open_thread (caller_at 0x403000 231 0x403000 3 6 7 0x202) in
    step_by 0 s
    ≡ Some (record (after t s) { escape = escape_at 0x403000; end = Some (Exit 7) })
unfolding step_by
escape_by_an_exit = refl

-- exit(7), of the last live thread
escape_by_the_end_of_a_thread :
    let s = state_of (open_thread (caller_at 0x402FFE 60 2 3 6 7 11)) (0x0F ∷ 0x05 ∷ []) in
    let t = open_thread (caller_at 0x403000 60 0x403000 3 6 7 0x202) in
    step_by 0 s
    ≡ Some (record (after (record t { live = false }) s)
    { escape = escape_at 0x403000; end = Some (Exit 7) })
unfolding step_by
escape_by_the_end_of_a_thread = refl

-- clone(0x50F00, 0): the caller is the escape, the new thread none
escape_by_a_clone :
    let s = state_of (open_thread (caller_at 0x402FFE 56 2 3 0 0x50F00 11)) (0x0F ∷ 0x05 ∷ []) in
    let t = open_thread (caller_at 0x403000 2 0x403000 3 0 0x50F00 0x202) in
    let u = open_thread (caller_at 0x403000 0 0x403000 3 0 0x50F00 0x202) in
    step_by 0 s ≡ Some (record (after_all (t ∷ u ∷ []) s) { escape = escape_at 0x403000 })
unfolding step_by
escape_by_a_clone = refl

-- of thread 1
escape_of_another_thread :
    let s = record (state_of (open_at 0x402FFE None) (0x74 ∷ 0x07 ∷ []))
    { threads = opening 0x401000 ∷ open_at 0x402FFE None ∷ [] } in
    step_by 1 s
    ≡ Some (record (after_all (opening 0x401000 ∷ open_at 0x403000 None ∷ []) s)
    { escape = Some (record { step = 7; thread = 1; rip = 0x403000 }) })
unfolding step_by opening open_at
escape_of_another_thread = refl

-- WRPKRU is free, and its origin is kept
no_escape_by_wrpkru : let s = state_of (open_at 0x402FFD None) (0x0F ∷ 0x01 ∷ 0xEF ∷ []) in
    step_by 0 s ≡ Some (after (open_at 0x403000 (Some (wrpkru 0x402FFD))) s)
unfolding step_by opening open_at wrpkru
no_escape_by_wrpkru = refl

no_escape_within_text : let s = state_of (open_at 0x402010 None) (0x75 ∷ 0x07 ∷ []) in
    step_by 0 s ≡ Some (after (open_at 0x402019 None) s)
unfolding step_by opening open_at
no_escape_within_text = refl

no_escape_of_a_closed_thread : let s = state_of (opening 0x402FFE) (0x74 ∷ 0x07 ∷ []) in
    step_by 0 s ≡ Some (after (opening 0x403000) s)
unfolding step_by opening
no_escape_of_a_closed_thread = refl

no_escape_outside : let s = state_of (open_at 0x401000 None) (0x74 ∷ 0x07 ∷ []) in
    step_by 0 s ≡ Some (after (open_at 0x401002 None) s)
unfolding step_by opening open_at
no_escape_outside = refl

-- the first escape stays
second_escape :
    let s = record (state_of (open_at 0x402FFE None) (0x74 ∷ 0x07 ∷ []))
    { escape = Some (record { step = 3; thread = 1; rip = 0x401234 }) } in
    step_by 0 s ≡ Some (after (open_at 0x403000 None) s)
unfolding step_by opening open_at
second_escape = refl

-- ---- threads that are made by clone(0x50F00, stack), and threads that end

-- open, before a clone
cloning : ℕ → Option Found → Thread
cloning rip origin =
    record (caller_at rip 56 2 3 0x7FFE8000 0x50F00 11) { pkru = 0x55555550; origin = origin }

-- the caller after it
maker_at : ℕ → Option Found → Thread
maker_at rip origin =
    record (caller_at rip 2 rip 3 0x7FFE8000 0x50F00 0x202) { pkru = 0x55555550; origin = origin }

-- the new thread: 0 in RAX, and its own stack
made_at : ℕ → Option Found → Thread
unfolding maker_at
made_at rip origin = record (maker_at rip origin) {
  regs = 0 ∷ rip ∷ 3 ∷ 3 ∷ 0x7FFE8000 ∷ 5 ∷ 0x7FFE8000 ∷ 0x50F00 ∷ 8 ∷ 9 ∷ 10 ∷ 0x202 ∷ 12 ∷ 13
      ∷ 14 ∷ 15 ∷ [];
}

made_in_text : let s = state_of (cloning 0x402010 None) (0x0F ∷ 0x05 ∷ []) in
    step_by 0 s ≡ Some (after_all (maker_at 0x402012 None ∷ made_at 0x402012 None ∷ []) s)
unfolding step_by cloning maker_at made_at
made_in_text = refl

-- a caller that enters trusted text by its clone: no origin, of either
made_on_entering :
    let s = state_of (cloning 0x401FFE (Some (wrpkru 0x401000))) (0x0F ∷ 0x05 ∷ []) in
    step_by 0 s ≡ Some (after_all (maker_at 0x402000 None ∷ made_at 0x402000 None ∷ []) s)
unfolding step_by cloning maker_at made_at wrpkru
made_on_entering = refl

-- outside the new thread has the caller's origin
made_outside :
    let o = Some (wrpkru 0x401000) in
    let s = state_of (cloning 0x401003 o) (0x0F ∷ 0x05 ∷ []) in
    step_by 0 s ≡ Some (after_all (maker_at 0x401005 o ∷ made_at 0x401005 o ∷ []) s)
unfolding step_by cloning maker_at made_at wrpkru
made_outside = refl

-- a thread that ends keeps its origin
abbrev dead : Thread → Thread
dead t = record t { live = false }

ended_outside :
    let o = Some (wrpkru 0x401000) in
    let t = record (caller_at 0x401003 60 2 3 6 7 11) { pkru = 0x55555550; origin = o } in
    let u = record (caller_at 0x401005 60 0x401005 3 6 7 0x202)
    { pkru = 0x55555550; origin = o } in
    let s = record (state_of t (0x0F ∷ 0x05 ∷ [])) { threads = t ∷ open_at 0x402000 None ∷ [] } in
    step_by 0 s ≡ Some (after_all (dead u ∷ open_at 0x402000 None ∷ []) s)
unfolding step_by opening open_at wrpkru
ended_outside = refl

-- a call's error, if it is refused
abbrev error_of : CallResult → Option ℕ
error_of (Refusal e) = Some e
error_of (Answer value change) = None
error_of (ThreadEnd status) = None
error_of (Quit status) = None

-- munmap(0x401000, 4096) where these are the threads
unmapping : List Thread → Option ℕ
unfolding call_by opening
unmapping ts =
    error_of (call_by (record (state_of (opening 0x401000) []) { threads = ts })
    (caller_at 0x402012 11 0 0 4096 0x401000 0))

-- EAGAIN (11) where a live thread has its origin there, also one that was made with it; an ended
-- thread pins nothing
pinned_by_live_threads :
    let t = open_at 0x401003 (Some (wrpkru 0x401000)) in
    let maker = maker_at 0x401005 (Some (wrpkru 0x401000)) in
    let made = made_at 0x401005 (Some (wrpkru 0x401000)) in
    map unmapping ((t ∷ []) ∷ (dead t ∷ []) ∷ (opening 0x401003 ∷ t ∷ [])
    ∷ (dead maker ∷ made ∷ []) ∷ (dead maker ∷ dead made ∷ []) ∷ [])
    ≡ Some 11 ∷ None ∷ Some 11 ∷ Some 11 ∷ None ∷ []
unfolding unmapping opening open_at maker_at made_at wrpkru
pinned_by_live_threads = refl

-- ---- publication

-- PROT_EXEC is bit 2
asked_exec :
    map asks_exec (0 ∷ 1 ∷ 2 ∷ 3 ∷ 4 ∷ 5 ∷ 6 ∷ 7 ∷ [])
    ≡ false ∷ false ∷ false ∷ false ∷ true ∷ true ∷ true ∷ true ∷ []
asked_exec = refl

-- it isn't writable any more, and keeps what was asked and its key
rights_once_published :
    published_rights (record { read = true; write = true; exec = false; asked = 7; key = 1 })
    ≡ record { read = true; write = false; exec = true; asked = 7; key = 1 }
rights_once_published = refl

-- page 0x40A is published; 0x40B asks to be written and executed; 0x40C asks it too
written_rights : RightsMap
written_rights q =
    if q == 0x40A then published_page
    else if q == 0x40B then page 7 0
    else if q == 0x40C then page 5 0
    else None

-- a thread, with bytes from 0x40AFFC on
written : Thread → List ℕ → State
written t bytes =
    record (state_of t []) { rights = written_rights; bytes = bytes_from 0x40AFFC bytes }

-- the code of the published pages alone, and with a page that isn't published
code_of_pages :
    map (code (written (opening 0) (1 ∷ 2 ∷ 3 ∷ 4 ∷ 5 ∷ [])))
    (0x409FFF ∷ 0x40A000 ∷ 0x40AFFC ∷ 0x40AFFF ∷ 0x40B000 ∷ 0x40C000 ∷ [])
    ≡ None ∷ Some 0 ∷ Some 1 ∷ Some 4 ∷ None ∷ None ∷ []
unfolding written written_rights
code_of_pages = refl

code_with_page :
    map (code_with written_rights (bytes_from 0x40AFFC (1 ∷ 2 ∷ 3 ∷ 4 ∷ 5 ∷ [])) 0x40B)
    (0x409FFF ∷ 0x40A000 ∷ 0x40AFFC ∷ 0x40AFFF ∷ 0x40B000 ∷ 0x40BFFF ∷ 0x40C000 ∷ [])
    ≡ None ∷ Some 0 ∷ Some 1 ∷ Some 4 ∷ Some 5 ∷ Some 0 ∷ None ∷ []
unfolding written_rights
code_with_page = refl

-- the trust of the small image
trust : TrustValue
trust = plain_trust (record { start = 0x402000; length = 4096 } ∷ []) (0x402007 ∷ [])

trust_of_image : image_trust small_image ≡ trust
unfolding trust small_image number_at headers_from headers notes_between notes records_from
    records_in image_trust
trust_of_image = refl

-- the code of the published pages and 0x40B
judged_code : List ℕ → Code
judged_code bytes = code_with written_rights (bytes_from 0x40AFFC bytes) 0x40B

-- the first unsafe sequence in it, where there is one
found_in : List ℕ → Option Found
unfolding judged_code unsafe_at occurrence_at fits check_of first_from trust written_rights
found_in bytes = first_from 0x40AFFC (length bytes) (unsafe_at trust (judged_code bytes))

-- is what is first of all addresses
found_first :
    (bytes : List ℕ) → 0x40AFFC + length bytes ≤ 2 ^ 47
    → first_unsafe (image_trust small_image) (judged_code bytes) ≡ found_in bytes
unfolding judged_code found_in
found_first bytes le =
    rw trust_of_image (first_unsafe_with trust written_rights 0x40B 0x40AFFC bytes le)

-- within the page itself
itself : List ℕ
itself = 0x90 ∷ 0x90 ∷ 0x90 ∷ 0x90 ∷ 0x90 ∷ 0x0F ∷ 0x01 ∷ 0xEF ∷ 0x90 ∷ []

-- from the page before it, on which nothing of it shows
across : List ℕ
across = 0x90 ∷ 0x90 ∷ 0x90 ∷ 0x0F ∷ 0x01 ∷ 0xEF ∷ 0x90 ∷ []

-- two of them
two : List ℕ
two = 0x90 ∷ 0x90 ∷ 0x90 ∷ 0x0F ∷ 0x01 ∷ 0xEF ∷ 0x0F ∷ 0x01 ∷ 0xEF ∷ 0x90 ∷ []

-- with its check: cmp eax, 0x55555554; je; mov eax, 231; syscall
checked : List ℕ
checked =
    0x90 ∷ 0x90 ∷ 0x90 ∷ 0x0F ∷ 0x01 ∷ 0xEF ∷ 0x3D ∷ 0x54 ∷ 0x55 ∷ 0x55 ∷ 0x55 ∷ 0x74 ∷ 0x07 ∷ 0xB8
    ∷ 0xE7 ∷ 0 ∷ 0 ∷ 0 ∷ 0x0F ∷ 0x05 ∷ []

-- nothing: mov eax, 231 from the published page into the next
harmless : List ℕ
harmless = 0x90 ∷ 0x90 ∷ 0xB8 ∷ 0xE7 ∷ 0 ∷ 0 ∷ 0 ∷ 0x90 ∷ []

found :
    map found_in (itself ∷ across ∷ two ∷ checked ∷ harmless ∷ [])
    ≡ Some (wrpkru 0x40B001) ∷ Some (wrpkru 0x40AFFF) ∷ Some (wrpkru 0x40AFFF) ∷ None ∷ None ∷ []
unfolding pkru_of found_in itself across two checked harmless wrpkru
found = refl

-- ---- exec faults on 0x40B; the thread doesn't move

-- refused for the first unsafe sequence
abbrev refused : Found → State → State
refused first s = record s { steps = 7; end = Some (Refused 0x40B first 0) }

refused_for_itself :
    let s = written (opening 0x40B000) itself in step_by 0 s ≡ Some (refused (wrpkru 0x40B001) s)
unfolding step_by found_in written opening written_rights itself wrpkru
refused_for_itself = rw (found_first itself (lit≤ tt)) refl

refused_across :
    let s = written (opening 0x40B000) across in step_by 0 s ≡ Some (refused (wrpkru 0x40AFFF) s)
unfolding step_by found_in written opening written_rights across wrpkru
refused_across = rw (found_first across (lit≤ tt)) refl

-- published: fetched from then on, and not writable any more
abbrev with_published : State → State
with_published s =
    record s {
      steps = 7;
      rights = with_value_at s.rights 0x40B (Some (record {
        read = true;
        write = false;
        exec = true;
        asked = 7;
        key = 0;
      }));
    }

published_with_check :
    let s = written (opening 0x40B000) checked in step_by 0 s ≡ Some (with_published s)
unfolding step_by found_in written opening written_rights checked
published_with_check = rw (found_first checked (lit≤ tt)) refl

-- for an instruction that began on the page before
published_for_the_next_bytes :
    let s = written (opening 0x40AFFE) harmless in step_by 0 s ≡ Some (with_published s)
unfolding step_by found_in written opening written_rights harmless
published_for_the_next_bytes = rw (found_first harmless (lit≤ tt)) refl

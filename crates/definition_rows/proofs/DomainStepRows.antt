-- Origins and escapes of threads that open some domains, the state at the start, and runs through
-- gates, computed. Own, after ERIM; the stack, its end and the first thread's values are own too.
use Rattle.std.proofs.Common.{◌≡◌, ℕ, ◌==◌, List, [], ◌∷◌, ◌++◌, map, Option, Some, None, Bool}
use Rattle.std.proofs.Common.{true, false, refl}
use Rattle.std.specs.Prelude.{if◌then◌else◌}
use Rattle.erim_defs.specs.declared.found.Found.{Found}
use Rattle.erim_defs.specs.declared.found.SeqKind.TheVariants.{Wrpkru, Xrstor}
use Rattle.erim_defs.specs.declared.machine.Cause.TheVariants.{Key}
use Rattle.erim_defs.specs.declared.machine.End.{End}
use Rattle.erim_defs.specs.declared.machine.End.TheVariants.{Exit, Fault}
use Rattle.erim_defs.specs.declared.machine.Escape.{Escape}
use Rattle.erim_defs.specs.declared.machine.Thread.{Thread}
use Rattle.erim_defs.specs.Inspection.Code.{laid_at}
use Rattle.erim_defs.specs.Inspection.Image.{Record}
use Rattle.erim_defs.specs.Inspection.Trust.{TrustValue, text_key}
use Rattle.erim_defs.specs.Machine.Access.{opens, opens_write}
use Rattle.erim_defs.specs.Machine.Domains.{is_set_but, opened_domains}
use Rattle.erim_defs.specs.Machine.Replay.{steps_of}
use Rattle.erim_defs.specs.Machine.State.{State, with_origin, is_escape}
use Rattle.definition_rows.proofs.SmallMachine.{step_by, loaded_by, page, published_page, byte_or}
use Rattle.definition_rows.proofs.SmallMachine.{thread_at, caller_at}
use Rattle.definition_rows.proofs.DomainImages.{domain_state, plain_records, integrity, standing}
use Rattle.definition_rows.proofs.DomainImages.{bare_image, image_with, note_of, mark, text}
use Rattle.definition_rows.proofs.DomainImages.{two_records, trust_of_two, no_flag, second_flag}

-- ---- origins by the words alone: text of 1 at 0x402000, of 2 at 0x403000

wrpkru : ℕ → Found
wrpkru a = record { at = a; len = 3; kind = Wrpkru }

-- the origin of a thread afterwards, where it had one, and the instruction was a WRPKRU or another
origins : TrustValue → ℕ → ℕ → List (Option Found)
unfolding opened_domains opens opens_write is_set_but text_key wrpkru
origins trust pkru rip =
    let t : Thread = record (standing pkru rip 0) { origin = Some (wrpkru 0x401000) } in
    (let u = with_origin trust (Some (wrpkru 0x401100)) t in u.origin)
    ∷ (let u = with_origin trust None t in u.origin) ∷ []

abbrev none : List (Option Found)
none = None ∷ None ∷ []

abbrev held : List (Option Found)
held =
    Some (record { at = 0x401100; len = 3; kind = Wrpkru })
    ∷ Some (record { at = 0x401000; len = 3; kind = Wrpkru }) ∷ []

abbrev three_places : List ℕ
three_places = 0x402000 ∷ 0x403000 ∷ 0x401000 ∷ []

-- closed, opens 1, 2, both; in text of 1, in text of 2, in none
origins_kept :
    map (λ pkru. map (origins (trust_of_two no_flag true) pkru) three_places)
    (0x55555554 ∷ 0x55555550 ∷ 0x55555544 ∷ 0x55555540 ∷ [])
    ≡ (none ∷ none ∷ none ∷ []) ∷ (none ∷ held ∷ held ∷ []) ∷ (held ∷ none ∷ held ∷ [])
    ∷ (held ∷ held ∷ held ∷ []) ∷ []
unfolding origins
origins_kept = refl

-- 2 is an integrity domain: who reads it is closed
origins_of_readers :
    map (λ pkru. map (origins (trust_of_two second_flag true) pkru) three_places)
    (0x55555564 ∷ 0x55555560 ∷ 0x55555544 ∷ [])
    ≡ (none ∷ none ∷ none ∷ []) ∷ (none ∷ held ∷ held ∷ []) ∷ (held ∷ none ∷ held ∷ []) ∷ []
unfolding origins
origins_of_readers = refl

-- ---- escapes by the words alone

-- from text of 1, from text of 2 and from none, to text of 1, to text of 2 and to none
escapes : TrustValue → Bool → ℕ → ℕ → List (List Bool)
unfolding opened_domains opens opens_write is_set_but text_key
escapes trust free before after =
    map (λ from. map (λ to. is_escape trust free (standing before from 0) (standing after to 0))
    three_places) three_places

abbrev nowhere : List (List Bool)
nowhere =
    (false ∷ false ∷ false ∷ []) ∷ (false ∷ false ∷ false ∷ [])
    ∷ (false ∷ false ∷ false ∷ []) ∷ []

-- opens 1 alone: from its own text into the other's, and into none
escapes_of_first :
    escapes (trust_of_two no_flag true) false 0x55555550 0x55555550
    ≡ (false ∷ true ∷ true ∷ []) ∷ (false ∷ false ∷ false ∷ [])
    ∷ (false ∷ false ∷ false ∷ []) ∷ []
unfolding escapes
escapes_of_first = refl

escapes_of_second :
    escapes (trust_of_two no_flag true) false 0x55555544 0x55555544
    ≡ (false ∷ false ∷ false ∷ []) ∷ (true ∷ false ∷ true ∷ [])
    ∷ (false ∷ false ∷ false ∷ []) ∷ []
unfolding escapes
escapes_of_second = refl

-- closed before, both open before, free, and closed afterwards: none
no_escapes :
    escapes (trust_of_two no_flag true) false 0x55555554 0x55555550
    ∷ escapes (trust_of_two no_flag true) false 0x55555540 0x55555540
    ∷ escapes (trust_of_two no_flag true) true 0x55555550 0x55555550
    ∷ escapes (trust_of_two no_flag true) false 0x55555550 0x55555554
    ∷ escapes (trust_of_two second_flag true) false 0x55555564 0x55555564 ∷ []
    ≡ nowhere ∷ nowhere ∷ nowhere ∷ nowhere ∷ nowhere ∷ []
unfolding escapes
no_escapes = refl

-- 1 before, 2 or both afterwards
escapes_with_change :
    escapes (trust_of_two no_flag true) false 0x55555550 0x55555544
    ∷ escapes (trust_of_two no_flag true) false 0x55555550 0x55555540 ∷ []
    ≡ ((true ∷ false ∷ true ∷ []) ∷ (false ∷ false ∷ false ∷ [])
    ∷ (false ∷ false ∷ false ∷ []) ∷ [])
    ∷ ((true ∷ true ∷ true ∷ []) ∷ (false ∷ false ∷ false ∷ []) ∷ (false ∷ false ∷ false ∷ []) ∷ [])
    ∷ []
unfolding escapes
escapes_with_change = refl

-- ---- steps

-- the state after one more step, with this thread
abbrev after : Thread → State → State
after t s = record s { steps = 7; threads = t ∷ [] }

abbrev escape_at : ℕ → Option Escape
escape_at rip = Some (record { step = 7; thread = 0; rip = rip })

abbrev with_origin_at : Option Found → Thread → Thread
with_origin_at o t = record t { origin = o }

abbrev wrpkru_bytes : List ℕ
wrpkru_bytes = 0x0F ∷ 0x01 ∷ 0xEF ∷ []

-- WRPKRU with this value in RAX, of a thread with this PKRU, at an address
writing : ℕ → ℕ → ℕ → State
writing value before at = domain_state plain_records (standing before at value) wrpkru_bytes

-- the thread after it
written : ℕ → ℕ → Option Found → Thread
written value rip origin = with_origin_at origin (standing value rip value)

-- in text of 1: opens 1, which is at home, opens 2, and opens both, which aren't
opened_in_text :
    step_by 0 (writing 0x55555550 0x55555554 0x402000)
    ∷ step_by 0 (writing 0x55555544 0x55555554 0x402000)
    ∷ step_by 0 (writing 0x55555540 0x55555554 0x402000) ∷ []
    ≡ Some (after (written 0x55555550 0x402003 None) (writing 0x55555550 0x55555554 0x402000))
    ∷ Some (after (written 0x55555544 0x402003 (Some (wrpkru 0x402000)))
    (writing 0x55555544 0x55555554 0x402000))
    ∷ Some (after (written 0x55555540 0x402003 (Some (wrpkru 0x402000)))
    (writing 0x55555540 0x55555554 0x402000)) ∷ []
unfolding step_by bare_image writing written wrpkru
opened_in_text = refl

-- WRPKRU is free: from 1 to 2 in text of 1, over the end of text of 1 with 1 open, where text of 2
-- begins, and to 2 there, which is at home
free_of_escape :
    step_by 0 (writing 0x55555544 0x55555550 0x402000)
    ∷ step_by 0 (writing 0x55555550 0x55555550 0x402FFD)
    ∷ step_by 0 (writing 0x55555544 0x55555550 0x402FFD) ∷ []
    ≡ Some (after (written 0x55555544 0x402003 (Some (wrpkru 0x402000)))
    (writing 0x55555544 0x55555550 0x402000))
    ∷ Some (after (written 0x55555550 0x403000 (Some (wrpkru 0x402FFD)))
    (writing 0x55555550 0x55555550 0x402FFD))
    ∷ Some (after (written 0x55555544 0x403000 None) (writing 0x55555544 0x55555550 0x402FFD)) ∷ []
unfolding step_by bare_image writing written wrpkru
free_of_escape = refl

-- closing takes the origin, in text of another and elsewhere
closed_again :
    let t = with_origin_at (Some (wrpkru 0x402000)) (standing 0x55555544 0x402003 0x55555554) in
    let s = domain_state plain_records t wrpkru_bytes in
    step_by 0 s ≡ Some (after (standing 0x55555554 0x402006 0x55555554) s)
unfolding step_by bare_image wrpkru
closed_again = refl

-- ---- je that isn't taken, from the end of text of 1 into text of 2

passing : ℕ → Option Found → State
passing pkru origin =
    domain_state plain_records (with_origin_at origin (standing pkru 0x402FFE 0)) (0x74 ∷ 0x07 ∷ [])

passed : ℕ → Option Found → Thread
passed pkru origin = with_origin_at origin (standing pkru 0x403000 0)

-- with 1 open it is an escape
escape_into_another_text :
    step_by 0 (passing 0x55555550 None)
    ≡ Some (record (after (passed 0x55555550 None) (passing 0x55555550 None)) {
      escape = escape_at 0x403000;
    })
unfolding step_by bare_image passing passed
escape_into_another_text = refl

-- with 2 open it comes home, and loses its origin; with both open it wasn't at home, and keeps it;
-- closed nothing changes
no_escape_into_another_text :
    let o = Some (wrpkru 0x402FFB) in
    step_by 0 (passing 0x55555544 o) ∷ step_by 0 (passing 0x55555540 o)
    ∷ step_by 0 (passing 0x55555554 None) ∷ []
    ≡ Some (after (passed 0x55555544 None) (passing 0x55555544 o))
    ∷ Some (after (passed 0x55555540 o) (passing 0x55555540 o))
    ∷ Some (after (passed 0x55555554 None) (passing 0x55555554 None)) ∷ []
unfolding step_by bare_image passing passed wrpkru
no_escape_into_another_text = refl

-- from the end of text of 2 into none with 2 open, and jne from text of 2 into text of 1
escapes_of_two :
    let s = domain_state plain_records (standing 0x55555544 0x403FFE 0) (0x74 ∷ 0x07 ∷ []) in
    let r = domain_state plain_records (standing 0x55555544 0x403010 0)
    (0x0F ∷ 0x85 ∷ 0xEA ∷ 0xEF ∷ 0xFF ∷ 0xFF ∷ []) in
    step_by 0 s ∷ step_by 0 r ∷ []
    ≡ Some (record (after (standing 0x55555544 0x404000 0) s) { escape = escape_at 0x404000 })
    ∷ Some (record (after (standing 0x55555544 0x402000 0) r) { escape = escape_at 0x402000 }) ∷ []
unfolding step_by bare_image
escapes_of_two = refl

-- 2 is an integrity domain: who opens 1 and reads 2 leaves 1's text by an escape, who reads 2 alone
-- doesn't leave anything
escape_of_readers :
    let records : List Record = plain_records ++ integrity 2 ∷ [] in
    let s = domain_state records (standing 0x55555560 0x402FFE 0) (0x74 ∷ 0x07 ∷ []) in
    let r = domain_state records (standing 0x55555564 0x402FFE 0) (0x74 ∷ 0x07 ∷ []) in
    step_by 0 s ∷ step_by 0 r ∷ []
    ≡ Some (record (after (standing 0x55555560 0x403000 0) s) { escape = escape_at 0x403000 })
    ∷ Some (after (standing 0x55555564 0x403000 0) r) ∷ []
unfolding step_by bare_image
escape_of_readers = refl

-- ---- XRSTOR from an area of zeros, over the end of text of 1, with 1 open

restorer : ℕ → ℕ → ℕ → Thread
restorer pkru rip rax = record (thread_at rip rax 0x408000 0) { pkru = pkru }

restoring : ℕ → State
restoring rax =
    domain_state plain_records (restorer 0x55555550 0x402FFD rax) (0x0F ∷ 0xAE ∷ 0x29 ∷ [])

-- free where bit 9 of EAX is 1: every domain is open afterwards; else an escape; its origin is the
-- XRSTOR
escape_by_xrstor :
    let o : Option Found = Some (record { at = 0x402FFD; len = 3; kind = Xrstor }) in
    step_by 0 (restoring 0x200) ∷ step_by 0 (restoring 0) ∷ []
    ≡ Some (after (with_origin_at o (restorer 0 0x403000 0x200)) (restoring 0x200))
    ∷ Some (record (after (with_origin_at o (restorer 0x55555550 0x403000 0)) (restoring 0)) {
      escape = escape_at 0x403000;
    }) ∷ []
unfolding step_by bare_image restorer restoring
escape_by_xrstor = refl

-- ---- a thread that is made by clone(0x50F00, 0) on coming home to 2: neither has an origin

made_on_entering :
    let o = Some (wrpkru 0x402FFB) in
    let before : Thread = record (caller_at 0x402FFE 56 2 3 0 0x50F00 11) {
      pkru = 0x55555544;
      origin = o;
    } in
    let s = domain_state plain_records before (0x0F ∷ 0x05 ∷ []) in
    let t : Thread = record (caller_at 0x403000 2 0x403000 3 0 0x50F00 0x202) {
      pkru = 0x55555544;
    } in
    let u : Thread = record (caller_at 0x403000 0 0x403000 3 0 0x50F00 0x202) {
      pkru = 0x55555544;
    } in
    step_by 0 s ≡ Some (record s { steps = 7; threads = t ∷ u ∷ [] })
unfolding step_by bare_image wrpkru
made_on_entering = refl

-- with 1 open both have it
made_outside :
    let o = Some (wrpkru 0x402FFB) in
    let before : Thread = record (caller_at 0x403010 56 2 3 0 0x50F00 11) {
      pkru = 0x55555550;
      origin = o;
    } in
    let s = domain_state plain_records before (0x0F ∷ 0x05 ∷ []) in
    let t : Thread = record (caller_at 0x403012 2 0x403012 3 0 0x50F00 0x202) {
      pkru = 0x55555550;
      origin = o;
    } in
    let u : Thread = record (caller_at 0x403012 0 0x403012 3 0 0x50F00 0x202) {
      pkru = 0x55555550;
      origin = o;
    } in
    step_by 0 s ≡ Some (record s { steps = 7; threads = t ∷ u ∷ [] })
unfolding step_by bare_image wrpkru
made_outside = refl

-- ---- the state at the start

loaded : ℕ → List Record → State
unfolding loaded_by image_with
loaded version rs =
    loaded_by (record { image = image_with (note_of version rs); budget = 9; frames = 64 })

-- text of both is published with key 0; data of 2, data of 1 on two pages, the heap, a page in no
-- record, the stack
loaded_pages :
    map (loaded 2 two_records).rights
    (0x401 ∷ 0x402 ∷ 0x403 ∷ 0x404 ∷ 0x405 ∷ 0x406 ∷ 0x407 ∷ 0x408 ∷ 0x409 ∷ 0x7FFE0 ∷ [])
    ≡ page 5 0 ∷ published_page ∷ published_page ∷ page 3 2 ∷ page 3 1 ∷ page 3 1 ∷ page 3 1
    ∷ page 3 0 ∷ None ∷ page 3 0 ∷ []
unfolding loaded
loaded_pages = refl

-- keys 0, 1 and those of records
loaded_keys :
    map (λ rs. map (loaded 2 rs).keys (0 ∷ 1 ∷ 2 ∷ 3 ∷ 4 ∷ 5 ∷ 15 ∷ []))
    (two_records ∷ [] ∷ (mark 2 4 0x404000 4096 ∷ []) ∷ (integrity 3 ∷ []) ∷ [])
    ≡ (true ∷ true ∷ true ∷ false ∷ false ∷ false ∷ false ∷ [])
    ∷ (true ∷ true ∷ false ∷ false ∷ false ∷ false ∷ false ∷ [])
    ∷ (true ∷ true ∷ false ∷ false ∷ true ∷ false ∷ false ∷ [])
    ∷ (true ∷ true ∷ false ∷ true ∷ false ∷ false ∷ false ∷ []) ∷ []
unfolding loaded
loaded_keys = refl

-- the first thread is closed: AD of each key, WD of an integrity domain
first_thread_of : ℕ → Thread
first_thread_of pkru = record {
  regs = 0 ∷ 0 ∷ 0 ∷ 0 ∷ 0x7FFEFFF0 ∷ 0 ∷ 0 ∷ 0 ∷ 0 ∷ 0 ∷ 0 ∷ 0 ∷ 0 ∷ 0 ∷ 0 ∷ 0 ∷ [];
  rip = 0x401000;
  flags = record { cf = false; pf = false; zf = false; sf = false; of = false };
  pkru = pkru;
  origin = None;
  live = true;
}

loaded_threads :
    map (λ rs. (loaded 2 rs).threads)
    (two_records ∷ plain_records ∷ (integrity 1 ∷ []) ∷ (integrity 3 ∷ integrity 4 ∷ []) ∷ [])
    ≡ (first_thread_of 0x55555564 ∷ []) ∷ (first_thread_of 0x55555554 ∷ [])
    ∷ (first_thread_of 0x55555558 ∷ []) ∷ (first_thread_of 0x55555694 ∷ []) ∷ []
unfolding loaded first_thread_of
loaded_threads = refl

-- ---- runs, where the page of the code is published

-- code at 0x401000, and the text of 1
running : List Record → List ℕ → List ℕ → Thread → State
running rs code text t =
    record (domain_state rs t []) {
      bytes = λ a. byte_or (laid_at 0x401000 code a) (byte_or (laid_at 0x402000 text a) 0);
    }

-- how it ended, the PKRU and origin of its threads, its escape, its steps
data Told : Type 0 where
  Ran : Option End → List ℕ → List (Option Found) → Option Escape → ℕ → Told
  Undefined : Told

abbrev pkru_in : Thread → ℕ
pkru_in t = t.pkru

abbrev origin_in : Thread → Option Found
origin_in t = t.origin

abbrev told : Option State → Told
told None = Undefined
told (Some s) = Ran s.end (map pkru_in s.threads) (map origin_in s.threads) s.escape s.steps

-- xor ecx, ecx; xor edx, edx; mov eax, OPEN of 1; wrpkru; the check with that value
first_gate : List ℕ
first_gate =
    0x31 ∷ 0xC9 ∷ 0x31 ∷ 0xD2 ∷ 0xB8 ∷ 0x50 ∷ 0x55 ∷ 0x55 ∷ 0x55 ∷ 0x0F ∷ 0x01 ∷ 0xEF
    ∷ 0x3D ∷ 0x50 ∷ 0x55 ∷ 0x55 ∷ 0x55 ∷ 0x74 ∷ 0x07 ∷ 0xB8 ∷ 0xE7 ∷ 0 ∷ 0 ∷ 0 ∷ 0x0F ∷ 0x05 ∷ []

-- mov eax, a value; jmp to the WRPKRU of the gate
into_gate : ℕ → List ℕ
into_gate low = 0xB8 ∷ low ∷ 0x55 ∷ 0x55 ∷ 0x55 ∷ 0xE9 ∷ 0xFF ∷ 0x0F ∷ 0 ∷ 0 ∷ []

run_into_gate : ℕ → ℕ → Told
unfolding step_by bare_image steps_of running first_gate into_gate
run_into_gate low steps =
    (let t : Thread = record (standing 0x55555554 0x401000 0) {
      regs = 0 ∷ 0 ∷ 0 ∷ 0 ∷ 0 ∷ 0 ∷ 0 ∷ 0 ∷ 0 ∷ 0 ∷ 0 ∷ 0 ∷ 0 ∷ 0 ∷ 0 ∷ 0 ∷ [];
    } in
    told (steps_of 0 steps (running plain_records (into_gate low) first_gate t)))

-- with the value of 2 it is outside after the WRPKRU, and ends by the check in seven steps
gate_with_another_value :
    run_into_gate 0x44 3 ∷ run_into_gate 0x44 6 ∷ run_into_gate 0x44 7 ∷ []
    ≡ Ran None (0x55555544 ∷ []) (Some (wrpkru 0x402009) ∷ []) None 9
    ∷ Ran None (0x55555544 ∷ []) (Some (wrpkru 0x402009) ∷ []) None 12
    ∷ Ran (Some (Exit 0)) (0x55555544 ∷ []) (Some (wrpkru 0x402009) ∷ []) None 13 ∷ []
unfolding run_into_gate wrpkru
gate_with_another_value = refl

-- with its own value it is at home, and goes on after the check
gate_with_its_value :
    run_into_gate 0x50 3 ∷ run_into_gate 0x50 5 ∷ []
    ≡ Ran None (0x55555550 ∷ []) (None ∷ []) None 9 ∷ Ran None (0x55555550 ∷ []) (None ∷ []) None 11
    ∷ []
unfolding run_into_gate
gate_with_its_value = refl

-- mov rax, [0x404000]; mov [0x404000], rax: 1 is an integrity domain, and 0x404000 its data
reading_code : List ℕ
reading_code =
    0x48 ∷ 0x8B ∷ 0x04 ∷ 0x25 ∷ 0 ∷ 0x40 ∷ 0x40 ∷ 0
    ∷ 0x48 ∷ 0x89 ∷ 0x04 ∷ 0x25 ∷ 0 ∷ 0x40 ∷ 0x40 ∷ 0 ∷ []

run_reading : ℕ → ℕ → ℕ → Told
unfolding step_by bare_image steps_of running reading_code
run_reading key pkru steps =
    (let s = running (mark 2 key 0x404000 4096 ∷ integrity key ∷ []) reading_code []
    (standing pkru 0x401000 0) in
    told (steps_of 0 steps (record s {
      rights = λ q. if q == 0x404 then page 3 key else s.rights q;
    })))

integrity_data :
    run_reading 1 0x55555558 1 ∷ run_reading 1 0x55555558 2 ∷ run_reading 2 0x55555564 1
    ∷ run_reading 2 0x55555564 2 ∷ []
    ≡ Ran None (0x55555558 ∷ []) (None ∷ []) None 7
    ∷ Ran (Some (Fault 0 0x401008 Key 0x404000)) (0x55555558 ∷ []) (None ∷ []) None 8
    ∷ Ran None (0x55555564 ∷ []) (None ∷ []) None 7
    ∷ Ran (Some (Fault 0 0x401008 Key 0x404000)) (0x55555564 ∷ []) (None ∷ []) None 8 ∷ []
unfolding run_reading
integrity_data = refl

-- with AD it can't even be read
closed_data :
    run_reading 1 0x55555554 1
    ≡ Ran (Some (Fault 0 0x401000 Key 0x404000)) (0x55555554 ∷ []) (None ∷ []) None 7
unfolding run_reading
closed_data = refl

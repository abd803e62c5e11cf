-- Write faults, computed: when a page's publication is taken back, what else a stop does. Own.
use Rattle.std.proofs.Common.{◌≡◌, ℕ, ◌==◌, List, [], ◌∷◌, ◌++◌, map, Option, Some, None, Bool}
use Rattle.std.proofs.Common.{true, false, refl}
use Rattle.std.specs.Prelude.{if◌then◌else◌}
use Rattle.erim_defs.specs.declared.found.Found.{Found}
use Rattle.erim_defs.specs.declared.found.SeqKind.TheVariants.{Wrpkru}
use Rattle.erim_defs.specs.declared.machine.Access.TheVariants.{Fault as Stop}
use Rattle.erim_defs.specs.declared.machine.Cause.{Cause}
use Rattle.erim_defs.specs.declared.machine.Cause.TheVariants.{Exec, Unmapped, Read, Write, Key}
use Rattle.erim_defs.specs.declared.machine.Cause.TheVariants.{Undefined, General}
use Rattle.erim_defs.specs.declared.machine.End.{End}
use Rattle.erim_defs.specs.declared.machine.End.TheVariants.{Fault}
use Rattle.erim_defs.specs.declared.machine.Rights.{Rights}
use Rattle.erim_defs.specs.declared.machine.Thread.{Thread}
use Rattle.erim_defs.specs.Machine.Access.{opens_write}
use Rattle.erim_defs.specs.Machine.MapCalls.{is_pinned}
use Rattle.erim_defs.specs.Machine.Pages.{RightsMap, taken_back_rights, published_rights}
use Rattle.erim_defs.specs.Machine.Replay.{steps_of}
use Rattle.erim_defs.specs.Machine.State.{State, code}
use Rattle.erim_defs.specs.Machine.Step.{is_write_fault}
use Rattle.erim_defs.specs.Machine.Step.{after_stop}
use Rattle.definition_rows.proofs.SmallMachine.{step_by, page, published_page}
use Rattle.definition_rows.proofs.DomainImages.{domain_state, plain_records, standing}
use Rattle.definition_rows.proofs.DomainImages.{bare_image}

-- ---- rights

abbrev rights : Bool → Bool → ℕ → ℕ → Rights
rights write exec asked key =
    record { read = true; write = write; exec = exec; asked = asked; key = key }

-- published, and asked with these bits, with a key
abbrev shown : ℕ → ℕ → Rights
shown asked key = rights false true asked key

-- it can be written and isn't fetched, and keeps the rest; a second time nothing changes
rights_once_taken_back :
    taken_back_rights (shown 7 4) ∷ taken_back_rights (taken_back_rights (shown 7 4))
    ∷ published_rights (taken_back_rights (shown 7 4)) ∷ []
    ≡ rights true false 7 4 ∷ rights true false 7 4 ∷ shown 7 4 ∷ []
rights_once_taken_back = refl

-- ---- which faults of cause Write are write faults

-- published, by what is asked: PROT_WRITE is bit 1
faults_by_asked :
    map (λ asked. is_write_fault (shown asked 0) 0x55555554) (0 ∷ 1 ∷ 2 ∷ 3 ∷ 4 ∷ 5 ∷ 6 ∷ 7 ∷ [])
    ≡ false ∷ false ∷ true ∷ true ∷ false ∷ false ∷ true ∷ true ∷ []
unfolding opens_write
faults_by_asked = refl

-- a page that isn't published
faults_unpublished :
    map (λ asked. is_write_fault (rights true false asked 0) 0x55555554) (3 ∷ 5 ∷ 7 ∷ [])
    ≡ false ∷ false ∷ false ∷ []
unfolding opens_write
faults_unpublished = refl

-- the key by which the thread may write: both bits count, whether it is a domain or not
faults_by_pkru :
    map (is_write_fault (shown 7 0)) (0x55555554 ∷ 0x55555555 ∷ 0x55555556 ∷ 0x55555557 ∷ [])
    ++ map (is_write_fault (shown 7 2)) (0x55555544 ∷ 0x55555554 ∷ 0x55555564 ∷ 0x55555574 ∷ [])
    ++ map (is_write_fault (shown 7 15)) (0x15555554 ∷ 0x55555554 ∷ 0x95555554 ∷ [])
    ≡ true ∷ false ∷ false ∷ false ∷ true ∷ false ∷ false ∷ false ∷ true ∷ false ∷ false ∷ []
unfolding opens_write
faults_by_pkru = refl

-- ---- states: page 0x404 asks all three, and so do 0x405 with key 2, 0x406 and 0x407; 0x401 and
-- 0x408 don't ask PROT_WRITE; 0x406 isn't published; 0x409 can be written, 0x40A only read

written_rights : RightsMap
written_rights q =
    if q == 0x401 then published_page
    else if q == 0x404 then Some (shown 7 0)
    else if q == 0x405 then Some (shown 7 2)
    else if q == 0x406 then page 7 0
    else if q == 0x407 then Some (shown 7 0)
    else if q == 0x408 then published_page
    else if q == 0x409 then page 3 0
    else if q == 0x40A then page 1 0
    else None

-- a thread at 0x401000, with bytes there
state : ℕ → List ℕ → State
unfolding written_rights
state pkru bytes =
    record (domain_state plain_records (standing pkru 0x401000 0) bytes) { rights = written_rights }

-- others beside it
with_others : List Thread → State → State
with_others ts s = record s { threads = s.threads ++ ts }

-- a thread whose origin is from 0x404FFE on, over the end of its page
pinning : ℕ → Bool → Thread
pinning at live = record (standing 0x55555550 0x404000 0) {
  origin = Some (record { at = at; len = 3; kind = Wrpkru });
  live = live;
}

abbrev seven_pages : List ℕ
seven_pages = 0x401 ∷ 0x404 ∷ 0x405 ∷ 0x406 ∷ 0x407 ∷ 0x408 ∷ 0x409 ∷ []

-- their rights, how it ended, the threads, the steps
data Told : Type 0 where
  Seen : List (Option Rights) → Option End → List Thread → ℕ → Told

abbrev told : State → Told
told s =
    Seen (map s.rights seven_pages) s.end s.threads s.steps

-- these pages, with the rights of 0x404, 0x405 and 0x407
abbrev pages : Option Rights → Option Rights → Option Rights → List (Option Rights)
pages a b c =
    published_page ∷ a ∷ b ∷ page 7 0 ∷ c ∷ published_page ∷ page 3 0 ∷ []

abbrev as_before : List (Option Rights)
as_before = pages (Some (shown 7 0)) (Some (shown 7 2)) (Some (shown 7 0))

-- ---- what a stop does, the thread being at 0x401000

stopped : Cause → ℕ → ℕ → Told
unfolding state written_rights opens_write is_pinned
stopped cause addr pkru =
    told (after_stop (Stop cause addr) (record { number = 0; thread = standing pkru 0x401000 0 })
    (state pkru []))

abbrev stays : ℕ → List Thread
stays pkru = standing pkru 0x401000 0 ∷ []

-- it takes back the page of the address, its first byte and its last alike, and that one alone; the
-- thread doesn't move, and nothing ends
publication_taken_back :
    map (λ addr. stopped Write addr 0x55555554) (0x404000 ∷ 0x404FFF ∷ 0x407123 ∷ [])
    ≡ Seen (pages (page 7 0) (Some (shown 7 2)) (Some (shown 7 0))) None (stays 0x55555554) 6
    ∷ Seen (pages (page 7 0) (Some (shown 7 2)) (Some (shown 7 0))) None (stays 0x55555554) 6
    ∷ Seen (pages (Some (shown 7 0)) (Some (shown 7 2)) (page 7 0)) None (stays 0x55555554) 6 ∷ []
unfolding stopped
publication_taken_back = refl

-- with the key of 2: by who opens 2 alone; with WD of it, it is a fault of cause Write all the same
taken_back_by_key :
    map (stopped Write 0x405008) (0x55555544 ∷ 0x55555554 ∷ 0x55555550 ∷ 0x55555564 ∷ [])
    ≡ Seen (pages (Some (shown 7 0)) (page 7 2) (Some (shown 7 0))) None (stays 0x55555544) 6
    ∷ Seen as_before (Some (Fault 0 0x401000 Write 0x405008)) (stays 0x55555554) 6
    ∷ Seen as_before (Some (Fault 0 0x401000 Write 0x405008)) (stays 0x55555550) 6
    ∷ Seen as_before (Some (Fault 0 0x401000 Write 0x405008)) (stays 0x55555564) 6 ∷ []
unfolding stopped
taken_back_by_key = refl

-- a page that asks no PROT_WRITE, one that isn't published, one that isn't mapped
other_write_faults :
    map (λ addr. stopped Write addr 0x55555554) (0x401000 ∷ 0x408000 ∷ 0x40A000 ∷ 0x410000 ∷ [])
    ≡ Seen as_before (Some (Fault 0 0x401000 Write 0x401000)) (stays 0x55555554) 6
    ∷ Seen as_before (Some (Fault 0 0x401000 Write 0x408000)) (stays 0x55555554) 6
    ∷ Seen as_before (Some (Fault 0 0x401000 Write 0x40A000)) (stays 0x55555554) 6
    ∷ Seen as_before (Some (Fault 0 0x401000 Write 0x410000)) (stays 0x55555554) 6 ∷ []
unfolding stopped
other_write_faults = refl

-- every other cause ends the process, on the same page
other_causes :
    map (λ cause. stopped cause 0x404000 0x55555554)
    (Unmapped ∷ Read ∷ Key ∷ Exec ∷ Undefined ∷ General ∷ [])
    ≡ map (λ cause.
    Seen as_before (Some (Fault 0 0x401000 cause 0x404000)) (stays 0x55555554) 6)
    (Unmapped ∷ Read ∷ Key ∷ Exec ∷ Undefined ∷ General ∷ [])
unfolding stopped
other_causes = refl

-- ---- pins

-- with another thread's origin from an address on, the page of it alone is kept, where it is live;
-- an origin over the end of a page pins both
taken_back_with : ℕ → Bool → ℕ → List (Option Rights)
unfolding state with_others pinning written_rights opens_write is_pinned
taken_back_with at live addr =
    (let s = after_stop (Stop Write addr)
    (record { number = 0; thread = standing 0x55555554 0x401000 0 })
    (with_others (pinning at live ∷ []) (state 0x55555554 [])) in
    map s.rights seven_pages)

pinned_pages :
    taken_back_with 0x404000 true 0x404800 ∷ taken_back_with 0x404FFD true 0x404000
    ∷ taken_back_with 0x403FFE true 0x404FFF ∷ taken_back_with 0x403FFD true 0x404FFF
    ∷ taken_back_with 0x405000 true 0x404FFF ∷ taken_back_with 0x404000 false 0x404800
    ∷ taken_back_with 0x404000 true 0x407000 ∷ []
    ≡ as_before ∷ as_before ∷ as_before
    ∷ pages (page 7 0) (Some (shown 7 2)) (Some (shown 7 0))
    ∷ pages (page 7 0) (Some (shown 7 2)) (Some (shown 7 0))
    ∷ pages (page 7 0) (Some (shown 7 2)) (Some (shown 7 0))
    ∷ pages (Some (shown 7 0)) (Some (shown 7 2)) (page 7 0) ∷ []
unfolding taken_back_with
pinned_pages = refl

-- the whole state stays where the page is pinned: no fault, no end
pinned_state :
    let s = with_others (pinning 0x404100 true ∷ []) (state 0x55555554 []) in
    after_stop (Stop Write 0x404000)
    (record { number = 0; thread = standing 0x55555554 0x401000 0 }) s
    ≡ s
unfolding state with_others pinning written_rights opens_write is_pinned
pinned_state = refl

-- ---- steps: a fault counts

-- mov byte [0x404040], 1; mov byte [0x405040], 1; mov byte [0x408040], 1
store_at : ℕ → List ℕ
store_at page = 0xC6 ∷ 0x04 ∷ 0x25 ∷ 0x40 ∷ page ∷ 0x40 ∷ 0 ∷ 0x01 ∷ []

-- the first step takes the page back, and the second writes
stored : ℕ → ℕ → ℕ → Option State
unfolding step_by bare_image steps_of state store_at written_rights
stored steps page pkru = steps_of 0 steps (state pkru (store_at page))

byte_told : Option State → ℕ → Option ℕ
byte_told None a = None
byte_told (Some s) a = Some (s.bytes a)

told_of : Option State → Option Told
told_of None = None
told_of (Some s) = Some (told s)

abbrev first_page_taken_back : List (Option Rights)
first_page_taken_back = pages (page 7 0) (Some (shown 7 2)) (Some (shown 7 0))

first_step :
    told_of (stored 1 0x40 0x55555554)
    ≡ Some (Seen first_page_taken_back None (standing 0x55555554 0x401000 0 ∷ []) 7)
unfolding stored told_of written_rights
first_step = refl

second_step :
    told_of (stored 2 0x40 0x55555554)
    ≡ Some (Seen first_page_taken_back None (standing 0x55555554 0x401008 0 ∷ []) 8)
unfolding stored told_of written_rights
second_step = refl

bytes_of_steps :
    map (λ n. byte_told (stored n 0x40 0x55555554) 0x404040) (0 ∷ 1 ∷ 2 ∷ [])
    ≡ Some 0 ∷ Some 0 ∷ Some 1 ∷ []
unfolding stored byte_told
bytes_of_steps = refl

-- to the page of 2 by a closed thread, and to pages that don't ask PROT_WRITE: the process ends
ended_steps :
    told_of (stored 1 0x50 0x55555554) ∷ told_of (stored 1 0x80 0x55555554)
    ∷ told_of (stored 1 0xA0 0x55555554) ∷ told_of (stored 2 0x50 0x55555554) ∷ []
    ≡ Some (Seen as_before (Some (Fault 0 0x401000 Write 0x405040)) (stays 0x55555554) 7)
    ∷ Some (Seen as_before (Some (Fault 0 0x401000 Write 0x408040)) (stays 0x55555554) 7)
    ∷ Some (Seen as_before (Some (Fault 0 0x401000 Write 0x40A040)) (stays 0x55555554) 7)
    ∷ None ∷ []
unfolding stored told_of written_rights
ended_steps = refl

-- who opens 2 takes its page back, and writes it
opened_steps :
    map (λ n. byte_told (stored n 0x50 0x55555544) 0x405040) (1 ∷ 2 ∷ []) ≡ Some 0 ∷ Some 1 ∷ []
unfolding stored byte_told
opened_steps = refl

-- a page that can be written is written at once
written_at_once : byte_told (stored 1 0x60 0x55555554) 0x406040 ≡ Some 1
unfolding stored byte_told
written_at_once = refl

-- trusted text doesn't ask PROT_WRITE: the process ends, also where its domain is open
store_to_text : ℕ → Told
unfolding step_by bare_image store_at told_of
store_to_text pkru =
    (let s = domain_state plain_records (standing pkru 0x401000 0) (store_at 0x20) in
    (elim (told_of (step_by 0 s)) [ None ↦ Seen [] None [] 0 | Some t ↦ t ]))

text_is_sealed :
    map store_to_text (0x55555554 ∷ 0x55555550 ∷ [])
    ≡ map (λ pkru. Seen
    (published_page ∷ page 3 2 ∷ page 3 1 ∷ None ∷ page 3 1 ∷ page 3 0 ∷ page 3 3 ∷ [])
    (Some (Fault 0 0x401000 Write 0x402040)) (stays pkru) 7) (0x55555554 ∷ 0x55555550 ∷ [])
unfolding store_to_text
text_is_sealed = refl

-- a thread at 0x401000 whose own origin is on 0x404
pinning_at_code : Thread
pinning_at_code = record (standing 0x55555550 0x401000 0) {
  origin = Some (record { at = 0x404100; len = 3; kind = Wrpkru });
}

-- while the page is pinned each step tries again, counts, and changes nothing else; the writer's
-- own origin pins too
pinned_steps : ℕ → List Thread → Option Found → Option State
unfolding step_by bare_image steps_of state store_at written_rights with_others
pinned_steps n others origin =
    (let t : Thread = record (standing 0x55555550 0x401000 0) { origin = origin } in
    let s : State = record (domain_state plain_records t (store_at 0x40)) {
      rights = written_rights;
    } in
    steps_of 0 n (with_others others s))

tried_again :
    told_of (pinned_steps 3 (pinning 0x404100 true ∷ []) None)
    ∷ told_of (pinned_steps 3 [] (Some (record { at = 0x404100; len = 3; kind = Wrpkru })))
    ∷ told_of (pinned_steps 1 (pinning 0x404100 false ∷ []) None) ∷ []
    ≡ Some (Seen as_before None (standing 0x55555550 0x401000 0 ∷ pinning 0x404100 true ∷ []) 9)
    ∷ Some (Seen as_before None (pinning_at_code ∷ []) 9)
    ∷ Some (Seen first_page_taken_back None
    (standing 0x55555550 0x401000 0 ∷ pinning 0x404100 false ∷ []) 7) ∷ []
unfolding pinned_steps told_of written_rights pinning pinning_at_code
tried_again = refl

not_written :
    byte_told (pinned_steps 3 (pinning 0x404100 true ∷ []) None) 0x404040
    ∷ byte_told (pinned_steps 2 (pinning 0x404100 false ∷ []) None) 0x404040 ∷ []
    ≡ Some 0 ∷ Some 1 ∷ []
unfolding pinned_steps byte_told pinning
not_written = refl

-- ---- a store over the end of a page: the first byte that fails says the page

-- mov [address], rax, with RAX all ones
over_end : List ℕ → ℕ → Option State
unfolding step_by bare_image steps_of state written_rights
over_end place n =
    (let s = state 0x55555554 (0x48 ∷ 0x89 ∷ 0x04 ∷ 0x25 ∷ place) in
    steps_of 0 n (record s { threads = standing 0x55555554 0x401000 0xFFFFFFFFFFFFFFFF ∷ [] }))

-- from 0x406FFC on, which can be written, into 0x407: nothing is written before that is taken back
second_page :
    map (λ n. byte_told (over_end (0xFC ∷ 0x6F ∷ 0x40 ∷ 0 ∷ []) n) 0x406FFC) (1 ∷ 2 ∷ [])
    ++ map (λ n. byte_told (over_end (0xFC ∷ 0x6F ∷ 0x40 ∷ 0 ∷ []) n) 0x407003) (1 ∷ 2 ∷ [])
    ≡ Some 0 ∷ Some 0xFF ∷ Some 0 ∷ Some 0xFF ∷ []
unfolding over_end byte_told
second_page = refl

second_page_taken_back :
    told_of (over_end (0xFC ∷ 0x6F ∷ 0x40 ∷ 0 ∷ []) 1)
    ≡ Some (Seen (pages (Some (shown 7 0)) (Some (shown 7 2)) (page 7 0)) None
    (standing 0x55555554 0x401000 0xFFFFFFFFFFFFFFFF ∷ []) 7)
unfolding over_end told_of
second_page_taken_back = refl

-- from 0x404FFC on into the page of 2: the first is taken back, and the second try ends at the
-- second
into_closed :
    map (λ n. told_of (over_end (0xFC ∷ 0x4F ∷ 0x40 ∷ 0 ∷ []) n)) (1 ∷ 2 ∷ [])
    ≡ Some (Seen first_page_taken_back None
    (standing 0x55555554 0x401000 0xFFFFFFFFFFFFFFFF ∷ []) 7)
    ∷ Some (Seen first_page_taken_back (Some (Fault 0 0x401000 Write 0x405000))
    (standing 0x55555554 0x401000 0xFFFFFFFFFFFFFFFF ∷ []) 8) ∷ []
unfolding over_end told_of
into_closed = refl

-- ---- a page that stores into itself isn't fetched any more; its thread is where it was

own_page : Option State
unfolding step_by bare_image state written_rights store_at
own_page =
    (let s : State = record (domain_state plain_records (standing 0x55555554 0x404010 0)
    (store_at 0x40)) { rights = written_rights } in
    step_by 0 s)

code_told : Option State → List (Option ℕ)
code_told None = []
code_told (Some s) = map (code s) (0x401000 ∷ 0x404010 ∷ 0x404040 ∷ 0x405010 ∷ [])

own_code : code_told own_page ≡ Some 0 ∷ None ∷ None ∷ Some 0 ∷ []
unfolding own_page code_told written_rights
own_code = refl

own_thread :
    told_of own_page
    ≡ Some (Seen first_page_taken_back None (standing 0x55555554 0x404010 0 ∷ []) 7)
unfolding own_page told_of
own_thread = refl

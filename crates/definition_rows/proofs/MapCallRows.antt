-- The calls on pages and protection keys on small states, computed. Linux on x86-64: mmap 9,
-- mprotect 10, munmap 11, pkey_mprotect 329, pkey_alloc 330, pkey_free 331; EPERM 1, EAGAIN 11,
-- ENOMEM 12, EINVAL 22, ENOSPC 28; the order of refusals is own.
use Rattle.std.proofs.Common.{◌≡◌, ℕ, nat_lt, ◌==◌, not, Bool}
use Rattle.std.proofs.Common.{List, [], ◌∷◌, map, Option, Some, None, true, false, refl}
use Rattle.erim_defs.specs.declared.found.Found.{Found}
use Rattle.erim_defs.specs.declared.found.SeqKind.TheVariants.{Wrpkru}
use Rattle.erim_defs.specs.declared.machine.Rights.{Rights}
use Rattle.erim_defs.specs.declared.machine.Thread.{Thread}
use Rattle.erim_defs.specs.Machine.CallResult.{Refusal, Answer, ThreadEnd, Quit, CallResult}
use Rattle.erim_defs.specs.Machine.Count.{mapped_pages, count_below}
use Rattle.erim_defs.specs.Machine.MapCalls.{mmap_anywhere, mmap_at, range_of}
use Rattle.erim_defs.specs.Machine.MapCalls.{is_pinned}
use Rattle.erim_defs.specs.Machine.Least.{any_below}
use Rattle.erim_defs.specs.Machine.Access.{opens}
use Rattle.erim_defs.specs.Inspection.Image.{number_at, headers_from, headers, loadable_segments}
use Rattle.erim_defs.specs.Inspection.Image.{notes_between, notes, records_from, records_in}
use Rattle.erim_defs.specs.Inspection.Image.{image_trust}
use Rattle.definition_rows.proofs.CallAnswers.{Told, Refused, Pages, Keys, taken, keys_of}
use Rattle.definition_rows.proofs.SmallMachine.{small_image}
use Rattle.erim_defs.specs.Machine.State.{State}
use Rattle.definition_rows.proofs.SmallMachine.{call_by, state_of, thread_at, page, published_page}

-- ---- what is said of a call

-- the rights of pages 0x401 to 0x406 and the bytes at 0x403041 and 0x406041
abbrev six_pages : List ℕ
six_pages = 0x401 ∷ 0x402 ∷ 0x403 ∷ 0x404 ∷ 0x405 ∷ 0x406 ∷ []

abbrev pages_of : CallResult → Told
pages_of (Refusal e) = Refused e
pages_of (Answer v c) =
    Pages v (map c.rights six_pages) (map c.bytes (0x403041 ∷ 0x406041 ∷ []))
pages_of (ThreadEnd status) = Refused 0
pages_of (Quit status) = Refused 0

-- ---- the state, and its callers

-- closed, with RAX, RDI, RSI, RDX and R10
caller : ℕ → ℕ → ℕ → ℕ → ℕ → Thread
caller rax rdi rsi rdx r10 = record (thread_at 0x401002 0 0 0) {
  regs = rax ∷ 1 ∷ rdx ∷ 3 ∷ 4 ∷ 5 ∷ rsi ∷ rdi ∷ 8 ∷ 9 ∷ r10 ∷ 11 ∷ 12 ∷ 13 ∷ 14 ∷ 15 ∷ [];
}

open_caller : ℕ → ℕ → ℕ → ℕ → ℕ → Thread
open_caller rax rdi rsi rdx r10 = record (caller rax rdi rsi rdx r10) { pkru = 0x55555550 }

-- nothing is pinned
still : State
still = state_of (thread_at 0x401000 0 0 0) []

-- a thread has this origin
with_origin_of : Found → State
with_origin_of o = state_of (record (thread_at 0x401003 0 0 0) { origin = Some o }) []

-- over both published pages: 0F 01 at 0x401FFE, EF at 0x402000
pinning : State
pinning = with_origin_of (record { at = 0x401FFE; len = 3; kind = Wrpkru })

-- what they say
still_pages : Thread → Told
unfolding call_by still
still_pages t = pages_of (call_by still t)

pinned_pages : Thread → Told
unfolding call_by pinning with_origin_of
pinned_pages t = pages_of (call_by pinning t)

-- ---- munmap

munmap : ℕ → ℕ → Told
unfolding still_pages caller
munmap addr len = still_pages (caller 11 addr len 0 0)

-- a page in the middle; a byte of the next page takes that too; pages that aren't mapped
unmapped_pages :
    munmap 0x403000 4096 ∷ munmap 0x403000 4097 ∷ munmap 0x404000 1 ∷ munmap 0x404000 8192 ∷ []
    ≡ Pages 0 (published_page ∷ published_page ∷ None ∷ None ∷ page 1 0 ∷ page 3 1 ∷ [])
    (0 ∷ 0x41 ∷ [])
    ∷ Pages 0 (published_page ∷ published_page ∷ None ∷ None ∷ page 1 0 ∷ page 3 1 ∷ [])
    (0 ∷ 0x41 ∷ [])
    ∷ Pages 0 (published_page ∷ published_page ∷ page 3 0 ∷ None ∷ page 1 0 ∷ page 3 1 ∷ [])
    (0x41 ∷ 0x41 ∷ [])
    ∷ Pages 0 (published_page ∷ published_page ∷ page 3 0 ∷ None ∷ None ∷ page 3 1 ∷ [])
    (0x41 ∷ 0x41 ∷ []) ∷ []
unfolding munmap
unmapped_pages = refl

-- no multiple of 4096, no length, past 2^47; each also on trusted text, since EINVAL comes first
munmap_invalid :
    munmap 0x403001 4096 ∷ munmap 0x403000 0 ∷ munmap 0x7FFFFFFFF000 4097
    ∷ munmap 0x402001 1 ∷ munmap 0x402000 0 ∷ munmap 0xFFFFFFFFFFFFF000 1 ∷ []
    ≡ Refused 22 ∷ Refused 22 ∷ Refused 22 ∷ Refused 22 ∷ Refused 22 ∷ Refused 22 ∷ []
unfolding munmap
munmap_invalid = refl

-- trusted text as the last page and as the first, and a page of key 1 for a closed caller
munmap_protected :
    munmap 0x401000 4097 ∷ munmap 0x402000 8192 ∷ munmap 0x405000 8192 ∷ []
    ≡ Refused 1 ∷ Refused 1 ∷ Refused 1 ∷ []
unfolding munmap
munmap_protected = refl

-- an open caller may unmap a page of key 1, but no trusted text
munmap_open :
    map (λ addr. still_pages (open_caller 11 addr 4096 0 0)) (0x406000 ∷ 0x402000 ∷ [])
    ≡ Pages 0 (published_page ∷ published_page ∷ page 3 0 ∷ None ∷ page 1 0 ∷ None ∷ [])
    (0x41 ∷ 0 ∷ []) ∷ Refused 1 ∷ []
unfolding still_pages open_caller caller
munmap_open = refl

-- the page with the first byte of an origin; that with its last is trusted text, and EPERM is first
munmap_pinned :
    map (λ addr. pinned_pages (caller 11 addr 4096 0 0)) (0x401000 ∷ 0x402000 ∷ 0x403000 ∷ [])
    ≡ Refused 11 ∷ Refused 1
    ∷ Pages 0 (published_page ∷ published_page ∷ None ∷ None ∷ page 1 0 ∷ page 3 1 ∷ [])
    (0 ∷ 0x41 ∷ []) ∷ []
unfolding pinned_pages caller
munmap_pinned = refl

-- ---- mprotect

mprotect : ℕ → ℕ → ℕ → Told
unfolding still_pages caller
mprotect addr len prot = still_pages (caller 10 addr len prot 0)

-- the rights of a page that isn't published: it asks nothing, or to be written alone
no_access : Option Rights
no_access = Some (record { read = false; write = false; exec = false; asked = 0; key = 0 })

write_only : Option Rights
write_only = Some (record { read = true; write = true; exec = false; asked = 2; key = 0 })

-- the bytes stay, and so does what isn't in the range; a published page stays so with PROT_EXEC
asked_pages :
    mprotect 0x403000 4096 0 ∷ mprotect 0x403000 1 2 ∷ mprotect 0x401000 4096 5
    ∷ mprotect 0x401000 4096 7 ∷ mprotect 0x401000 4096 3 ∷ mprotect 0x403000 0 7 ∷ []
    ≡ Pages 0 (published_page ∷ published_page ∷ no_access ∷ None ∷ page 1 0 ∷ page 3 1 ∷ [])
    (0x41 ∷ 0x41 ∷ [])
    ∷ Pages 0 (published_page ∷ published_page ∷ write_only ∷ None ∷ page 1 0 ∷ page 3 1 ∷ [])
    (0x41 ∷ 0x41 ∷ [])
    ∷ Pages 0 (published_page ∷ published_page ∷ page 3 0 ∷ None ∷ page 1 0 ∷ page 3 1 ∷ [])
    (0x41 ∷ 0x41 ∷ [])
    ∷ Pages 0 (Some (record { read = true; write = false; exec = true; asked = 7; key = 0 })
    ∷ published_page ∷ page 3 0 ∷ None ∷ page 1 0 ∷ page 3 1 ∷ []) (0x41 ∷ 0x41 ∷ [])
    ∷ Pages 0 (page 3 0 ∷ published_page ∷ page 3 0 ∷ None ∷ page 1 0 ∷ page 3 1 ∷ [])
    (0x41 ∷ 0x41 ∷ [])
    ∷ Pages 0 (published_page ∷ published_page ∷ page 3 0 ∷ None ∷ page 1 0 ∷ page 3 1 ∷ [])
    (0x41 ∷ 0x41 ∷ []) ∷ []
unfolding mprotect no_access write_only
asked_pages = refl

-- EINVAL, EPERM and ENOMEM, and in pairs for their order; a length of 0 touches nothing, trusted
-- text neither
mprotect_refused :
    mprotect 0x403001 4096 1 ∷ mprotect 0x403000 4096 8 ∷ mprotect 0x7FFFFFFFF000 4097 1
    ∷ mprotect 0x402000 4096 8 ∷ mprotect 0x402000 4096 1 ∷ mprotect 0x406000 4096 1
    ∷ mprotect 0x402000 12288 1 ∷ mprotect 0x403000 8192 1 ∷ mprotect 0x404000 4096 1
    ∷ mprotect 0x800000000001 0 1 ∷ mprotect 0x800000001000 0 1 ∷ []
    ≡ Refused 22 ∷ Refused 22 ∷ Refused 22 ∷ Refused 22 ∷ Refused 1 ∷ Refused 1 ∷ Refused 1
    ∷ Refused 12 ∷ Refused 12 ∷ Refused 22 ∷ Refused 22 ∷ []
unfolding mprotect
mprotect_refused = refl

no_length :
    mprotect 0x402000 0 0
    ≡ Pages 0 (published_page ∷ published_page ∷ page 3 0 ∷ None ∷ page 1 0 ∷ page 3 1 ∷ [])
    (0x41 ∷ 0x41 ∷ [])
unfolding mprotect
no_length = refl

-- a pinned page loses no PROT_EXEC, and may be asked with it; ENOMEM is before EAGAIN
mprotect_pinned :
    map (λ prot. pinned_pages (caller 10 0x401000 4096 prot 0)) (0 ∷ 1 ∷ 3 ∷ 4 ∷ [])
    ≡ Refused 11 ∷ Refused 11 ∷ Refused 11
    ∷ Pages 0 (Some (record { read = true; write = false; exec = true; asked = 4; key = 0 })
    ∷ published_page ∷ page 3 0 ∷ None ∷ page 1 0 ∷ page 3 1 ∷ []) (0x41 ∷ 0x41 ∷ []) ∷ []
unfolding pinned_pages caller
mprotect_pinned = refl

-- ---- pkey_mprotect

pkey_mprotect : ℕ → ℕ → ℕ → ℕ → Told
unfolding still_pages caller
pkey_mprotect addr len prot key = still_pages (caller 329 addr len prot key)

-- 0xFFFFFFFF leaves the keys of pages, whatever stands above the low 32 bits; key 0 is another
keys_of_pages :
    still_pages (open_caller 329 0x406000 4096 1 0xFFFFFFFF)
    ∷ still_pages (open_caller 329 0x406000 4096 1 0x1FFFFFFFF)
    ∷ still_pages (open_caller 329 0x406000 4096 1 0)
    ∷ still_pages (open_caller 329 0x403000 4096 3 1) ∷ []
    ≡ Pages 0 (published_page ∷ published_page ∷ page 3 0 ∷ None ∷ page 1 0 ∷ page 1 1 ∷ [])
    (0x41 ∷ 0x41 ∷ [])
    ∷ Pages 0 (published_page ∷ published_page ∷ page 3 0 ∷ None ∷ page 1 0 ∷ page 1 1 ∷ [])
    (0x41 ∷ 0x41 ∷ [])
    ∷ Pages 0 (published_page ∷ published_page ∷ page 3 0 ∷ None ∷ page 1 0 ∷ page 1 0 ∷ [])
    (0x41 ∷ 0x41 ∷ [])
    ∷ Pages 0 (published_page ∷ published_page ∷ page 3 1 ∷ None ∷ page 1 0 ∷ page 3 1 ∷ [])
    (0x41 ∷ 0x41 ∷ []) ∷ []
unfolding still_pages open_caller caller
keys_of_pages = refl

-- a key that isn't taken is EINVAL, before protection; the trusted key is closed to a closed
-- caller, and so are its pages, also for key 0
pkey_mprotect_refused :
    pkey_mprotect 0x403000 4096 1 2 ∷ pkey_mprotect 0x403000 4096 1 16
    ∷ pkey_mprotect 0x402000 4096 1 2 ∷ pkey_mprotect 0x403000 4096 1 1
    ∷ pkey_mprotect 0x403000 4096 1 0x100000001 ∷ pkey_mprotect 0x406000 4096 3 0
    ∷ pkey_mprotect 0x404000 4096 1 1 ∷ pkey_mprotect 0x404000 4096 1 0 ∷ []
    ≡ Refused 22 ∷ Refused 22 ∷ Refused 22 ∷ Refused 1 ∷ Refused 1 ∷ Refused 1 ∷ Refused 1
    ∷ Refused 12 ∷ []
unfolding pkey_mprotect
pkey_mprotect_refused = refl

-- ---- keys

keys_told : State → Thread → Told
unfolding call_by taken
keys_told s t = keys_of (call_by s t)

-- with these keys taken
with_taken : (ℕ → Bool) → State
unfolding still
with_taken keys = record still { keys = keys }

-- the least key from 2 on; its AD and WD become bits 0 and 1, and the other keys' stay
allocated_keys :
    map (λ bits. keys_told (with_taken (λ k. nat_lt k 2)) (caller 330 0 bits 0 0))
    (0 ∷ 1 ∷ 2 ∷ 3 ∷ [])
    ≡ Keys 2 (2 ∷ 1 ∷ 0 ∷ []) 0x55555544 ∷ Keys 2 (2 ∷ 1 ∷ 0 ∷ []) 0x55555554
    ∷ Keys 2 (2 ∷ 1 ∷ 0 ∷ []) 0x55555564 ∷ Keys 2 (2 ∷ 1 ∷ 0 ∷ []) 0x55555574 ∷ []
unfolding keys_told with_taken still caller taken
allocated_keys = refl

-- a hole, the last key, none
key_holes :
    keys_told (with_taken (λ k. not (k == 5))) (caller 330 0 0 0 0)
    ∷ keys_told (with_taken (λ k. nat_lt k 15)) (caller 330 0 2 0 0)
    ∷ keys_told (with_taken (λ k. nat_lt k 16)) (caller 330 0 0 0 0) ∷ []
    ≡ Keys 5 (15 ∷ 14 ∷ 13 ∷ 12 ∷ 11 ∷ 10 ∷ 9 ∷ 8 ∷ 7 ∷ 6 ∷ 5 ∷ 4 ∷ 3 ∷ 2 ∷ 1 ∷ 0 ∷ []) 0x55555154
    ∷ Keys 15 (15 ∷ 14 ∷ 13 ∷ 12 ∷ 11 ∷ 10 ∷ 9 ∷ 8 ∷ 7 ∷ 6 ∷ 5 ∷ 4 ∷ 3 ∷ 2 ∷ 1 ∷ 0 ∷ []) 0x95555554
    ∷ Refused 28 ∷ []
unfolding keys_told with_taken still caller taken
key_holes = refl

-- flags that aren't 0, also above 32 bits; rights above 3; before there is no key
alloc_refused :
    map (λ (t : Thread). keys_told (with_taken (λ k. nat_lt k 16)) t)
    (caller 330 1 0 0 0 ∷ caller 330 0x100000000 0 0 0 ∷ caller 330 0 4 0 0 ∷ [])
    ≡ Refused 22 ∷ Refused 22 ∷ Refused 22 ∷ []
unfolding keys_told with_taken still caller taken
alloc_refused = refl

-- keys 0 and 1 stay, and what isn't taken can't be freed; the low 32 bits count
freed_keys :
    map (λ key. keys_told (with_taken (λ k. nat_lt k 4)) (caller 331 key 0 0 0))
    (0 ∷ 1 ∷ 2 ∷ 3 ∷ 4 ∷ 15 ∷ 16 ∷ 0x100000003 ∷ 0x100000001 ∷ [])
    ≡ Refused 22 ∷ Refused 22 ∷ Keys 0 (3 ∷ 1 ∷ 0 ∷ []) 0x55555554
    ∷ Keys 0 (2 ∷ 1 ∷ 0 ∷ []) 0x55555554 ∷ Refused 22 ∷ Refused 22 ∷ Refused 22
    ∷ Keys 0 (2 ∷ 1 ∷ 0 ∷ []) 0x55555554 ∷ Refused 22 ∷ []
unfolding keys_told with_taken still caller taken
freed_keys = refl

-- ---- mmap

mmap : ℕ → ℕ → ℕ → ℕ → Told
unfolding still_pages caller
mmap addr len prot flags = still_pages (caller 9 addr len prot flags)

-- no length, prot above 7, other flags (MAP_SHARED, without MAP_ANONYMOUS, above 32 bits); with
-- MAP_FIXED no multiple of 4096, below 0x10000, past 2^47; EINVAL is before EPERM
mmap_invalid :
    mmap 0 0 3 0x22 ∷ mmap 0 4096 8 0x22 ∷ mmap 0 4096 3 0x21 ∷ mmap 0 4096 3 0x02
    ∷ mmap 0 4096 3 0x100000022 ∷ mmap 0x403001 4096 3 0x32 ∷ mmap 0xF000 4096 3 0x32
    ∷ mmap 0x7FFFFFFFF000 4097 3 0x32 ∷ mmap 0x402000 0 3 0x32 ∷ mmap 0x402000 4096 8 0x32 ∷ []
    ≡ Refused 22 ∷ Refused 22 ∷ Refused 22 ∷ Refused 22 ∷ Refused 22 ∷ Refused 22 ∷ Refused 22
    ∷ Refused 22 ∷ Refused 22 ∷ Refused 22 ∷ []
unfolding mmap
mmap_invalid = refl

-- fixed on trusted text, and on a page of the trusted key for a closed caller
mmap_protected :
    mmap 0x402000 4096 3 0x32 ∷ mmap 0x405000 4097 3 0x32 ∷ [] ≡ Refused 1 ∷ Refused 1 ∷ []
unfolding mmap
mmap_protected = refl

-- a given number of pages are mapped in the place of small_rights' five
mapped_as : State → ℕ → ℕ → Told
mapped_as s count prot = pages_of (mmap_anywhere s (thread_at 0x401000 0 0 0) count prot)

fixed_as : State → ℕ → ℕ → ℕ → Told
fixed_as s addr len prot =
    pages_of (mmap_at s (thread_at 0x401000 0 0 0) addr (range_of addr len) prot)

-- 64 frames: the 59 that are free suffice for 59 pages; with MAP_FIXED each mapped page counts too
out_of_frames :
    (m : mapped_pages still.rights ≡ 5)
    → mapped_as still 60 3 ≡ Refused 12
unfolding mapped_as still
out_of_frames m = rw m refl

fixed_frames :
    (m : mapped_pages still.rights ≡ 5)
    → fixed_as still 0x500000 245760 3 ∷ fixed_as still 0x500000 241664 3 ∷ []
    ≡ Refused 12
    ∷ Pages 0x500000 (published_page ∷ published_page ∷ page 3 0 ∷ None ∷ page 1 0 ∷ page 3 1 ∷ [])
    (0x41 ∷ 0x41 ∷ []) ∷ []
unfolding fixed_as still opens any_below is_pinned count_below small_image number_at headers_from
    headers loadable_segments notes_between notes records_from records_in image_trust
fixed_frames m = rw m refl

-- with 5 frames: a page that is mapped gives its own back, another has none; a pinned page comes
-- after the frames
few_frames : State → State
few_frames s = record s { setup = record { image = small_image; budget = 100; frames = 5 } }

fixed_pages :
    (m : mapped_pages still.rights ≡ 5)
    → fixed_as (few_frames still) 0x403000 4096 5
    ∷ fixed_as (few_frames still) 0x404000 4096 5
    ∷ fixed_as (few_frames still) 0x403000 4097 5
    ∷ fixed_as (few_frames pinning) 0x401000 4096 5
    ∷ fixed_as (few_frames pinning) 0x400000 8192 5 ∷ []
    ≡ Pages 0x403000
    (published_page ∷ published_page
    ∷ Some (record { read = true; write = false; exec = false; asked = 5; key = 0 }) ∷ None
    ∷ page 1 0 ∷ page 3 1 ∷ []) (0 ∷ 0x41 ∷ [])
    ∷ Refused 12 ∷ Refused 12 ∷ Refused 11 ∷ Refused 12 ∷ []
unfolding fixed_as few_frames still pinning with_origin_of opens any_below is_pinned count_below
    small_image number_at headers_from headers loadable_segments notes_between notes records_from
    records_in image_trust
fixed_pages m = rw m refl

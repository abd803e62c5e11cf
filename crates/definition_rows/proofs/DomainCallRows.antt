-- Calls by threads that open some domains, on small states, computed. Linux on x86-64: write 1,
-- mmap 9, mprotect 10, munmap 11, pkey_mprotect 329, pkey_alloc 330, pkey_free 331; EPERM 1,
-- ENOMEM 12, EFAULT 14, EINVAL 22, ENOSPC 28. Own: talloc 1000, tfree 1001, and which are refused.
use Rattle.std.proofs.Common.{◌≡◌, ℕ, ◌==◌, ◌||◌, nat_lt, Bool, List, [], ◌∷◌, ◌++◌, map}
use Rattle.std.proofs.Common.{Option, None, refl}
use Rattle.erim_defs.specs.declared.machine.Rights.{Rights}
use Rattle.erim_defs.specs.declared.machine.Thread.{Thread}
use Rattle.erim_defs.specs.Machine.Access.{opens, opens_write}
use Rattle.erim_defs.specs.Machine.CallResult.{Refusal, Answer, ThreadEnd, Quit, CallResult}
use Rattle.erim_defs.specs.Machine.Count.{mapped_pages, count_below}
use Rattle.erim_defs.specs.Machine.Domains.{opened_domains}
use Rattle.erim_defs.specs.Machine.Least.{any_below}
use Rattle.erim_defs.specs.Machine.MapCalls.{is_pinned, mmap_at, range_of}
use Rattle.erim_defs.specs.Machine.State.{State}
use Rattle.definition_rows.proofs.CallAnswers.{Told, Refused, Pages, Keys, Wrote, Blocks, taken}
use Rattle.definition_rows.proofs.CallAnswers.{keys_of}
use Rattle.definition_rows.proofs.SmallMachine.{call_by, page, published_page}
use Rattle.definition_rows.proofs.DomainImages.{domain_state, domain_rights, plain_records}
use Rattle.definition_rows.proofs.DomainImages.{integrity, standing, bare_image, mark, span}

-- ---- what is said of a call

-- the rights of pages 0x403 to 0x405, 0x408 and 0x409
abbrev pages_of : CallResult → Told
pages_of (Refusal e) = Refused e
pages_of (Answer v c) =
    Pages v (map c.rights (0x403 ∷ 0x404 ∷ 0x405 ∷ 0x408 ∷ 0x409 ∷ [])) []
pages_of (ThreadEnd status) = Refused 0
pages_of (Quit status) = Refused 0

abbrev output_of : CallResult → Told
output_of (Refusal e) = Refused e
output_of (Answer v c) = Wrote v c.output
output_of (ThreadEnd status) = Refused 0
output_of (Quit status) = Refused 0

abbrev blocks_of : CallResult → Told
blocks_of (Refusal e) = Refused e
blocks_of (Answer v c) = Blocks v c.blocks
blocks_of (ThreadEnd status) = Refused 0
blocks_of (Quit status) = Refused 0

-- ---- the states and their callers

-- RAX, RDI, RSI, RDX, R10
caller : ℕ → ℕ → ℕ → ℕ → ℕ → ℕ → Thread
caller pkru rax rdi rsi rdx r10 = record (standing pkru 0x401002 rax) {
  regs = rax ∷ 1 ∷ rdx ∷ 3 ∷ 4 ∷ 5 ∷ rsi ∷ rdi ∷ 8 ∷ 9 ∷ r10 ∷ 11 ∷ 12 ∷ 13 ∷ 14 ∷ 15 ∷ [];
}

-- two domains; the second or the first is an integrity domain
plain : State
plain = domain_state plain_records (standing 0x55555554 0x401000 0) []

second_integrity : State
second_integrity =
    domain_state (plain_records ++ integrity 2 ∷ []) (standing 0x55555564 0x401000 0) []

first_integrity : State
first_integrity =
    domain_state (plain_records ++ integrity 1 ∷ []) (standing 0x55555558 0x401000 0) []

pages_told : State → Thread → Told
unfolding call_by bare_image opened_domains opens_write
pages_told s t = pages_of (call_by s t)

-- closed, opens 1 alone, 2 alone, both
abbrev callers : List ℕ
callers = 0x55555554 ∷ 0x55555550 ∷ 0x55555544 ∷ 0x55555540 ∷ []

-- the second can be read alone: closed; opens 1; the second has both bits, opens 1; opens 2
abbrev readers : List ℕ
readers = 0x55555564 ∷ 0x55555560 ∷ 0x55555570 ∷ 0x55555544 ∷ []

-- the pages at the start, and with a page in the place of 0x404, 0x405, 0x408, 0x409
abbrev with_second : Option Rights → Told
with_second r = Pages 0 (published_page ∷ r ∷ page 3 1 ∷ page 3 0 ∷ page 3 3 ∷ []) []

abbrev with_first : Option Rights → Told
with_first r = Pages 0 (published_page ∷ page 3 2 ∷ r ∷ page 3 0 ∷ page 3 3 ∷ []) []

abbrev with_plain : Option Rights → Told
with_plain r = Pages 0 (published_page ∷ page 3 2 ∷ page 3 1 ∷ r ∷ page 3 3 ∷ []) []

abbrev with_third : Option Rights → Told
with_third r = Pages 0 (published_page ∷ page 3 2 ∷ page 3 1 ∷ page 3 0 ∷ r ∷ []) []

-- ---- munmap

munmap : State → ℕ → ℕ → ℕ → Told
unfolding pages_told plain second_integrity first_integrity caller
munmap s addr len pkru = pages_told s (caller pkru 11 addr len 0 0)

-- of a page of 2, of a page of 1, of both
unmapped :
    map (munmap plain 0x404000 4096) callers ++ map (munmap plain 0x405000 4096) callers
    ++ map (munmap plain 0x404000 8192) callers
    ≡ Refused 1 ∷ Refused 1 ∷ with_second None ∷ with_second None
    ∷ Refused 1 ∷ with_first None ∷ Refused 1 ∷ with_first None
    ∷ Refused 1 ∷ Refused 1 ∷ Refused 1
    ∷ Pages 0 (published_page ∷ None ∷ None ∷ page 3 0 ∷ page 3 3 ∷ []) [] ∷ []
unfolding munmap
unmapped = refl

-- text of 1 and of 2 by whoever opens them; a page without a domain by whoever doesn't
unmapped_text :
    map (λ addr. munmap plain addr 4096 0x55555540) (0x402000 ∷ 0x403000 ∷ [])
    ++ map (λ addr. munmap plain addr 4096 0x55555554) (0x408000 ∷ 0x409000 ∷ [])
    ≡ Refused 1 ∷ Refused 1 ∷ with_plain None ∷ with_third None ∷ []
unfolding munmap
unmapped_text = refl

-- reading an integrity domain isn't opening it
unmapped_integrity :
    map (munmap second_integrity 0x404000 4096) readers
    ++ map (munmap first_integrity 0x405000 4096) (0x55555558 ∷ 0x55555550 ∷ [])
    ≡ Refused 1 ∷ Refused 1 ∷ Refused 1 ∷ with_second None ∷ Refused 1 ∷ with_first None ∷ []
unfolding munmap
unmapped_integrity = refl

-- WD of a domain that isn't an integrity domain is no matter
unmapped_without_writing :
    map (munmap plain 0x404000 4096) (0x55555564 ∷ 0x55555574 ∷ [])
    ≡ with_second None ∷ Refused 1 ∷ []
unfolding munmap
unmapped_without_writing = refl

-- ---- mprotect

mprotect : State → ℕ → ℕ → ℕ → ℕ → Told
unfolding pages_told plain second_integrity first_integrity caller
mprotect s addr len prot pkru = pages_told s (caller pkru 10 addr len prot 0)

-- the key of a page stays
protected :
    map (mprotect plain 0x404000 4096 1) callers ++ map (mprotect plain 0x405000 4096 1) callers
    ++ map (mprotect second_integrity 0x404000 4096 1) readers
    ≡ Refused 1 ∷ Refused 1 ∷ with_second (page 1 2) ∷ with_second (page 1 2)
    ∷ Refused 1 ∷ with_first (page 1 1) ∷ Refused 1 ∷ with_first (page 1 1)
    ∷ Refused 1 ∷ Refused 1 ∷ Refused 1 ∷ with_second (page 1 2) ∷ []
unfolding mprotect
protected = refl

-- ---- pkey_mprotect

keyed : State → ℕ → ℕ → ℕ → Told
unfolding pages_told plain second_integrity first_integrity caller
keyed s addr key pkru = pages_told s (caller pkru 329 addr 4096 3 key)

-- a page without a domain, to key 2 and to key 1
keyed_to_domains :
    map (keyed plain 0x408000 2) callers ++ map (keyed plain 0x408000 1) callers
    ≡ Refused 1 ∷ Refused 1 ∷ with_plain (page 3 2) ∷ with_plain (page 3 2)
    ∷ Refused 1 ∷ with_plain (page 3 1) ∷ Refused 1 ∷ with_plain (page 3 1) ∷ []
unfolding keyed
keyed_to_domains = refl

-- to key 3, which is taken and no domain, to key 0, and to keys that aren't taken
keyed_to_others :
    map (λ key. keyed plain 0x408000 key 0x55555554) (3 ∷ 0 ∷ 4 ∷ 15 ∷ 16 ∷ [])
    ≡ with_plain (page 3 3) ∷ with_plain (page 3 0) ∷ Refused 22 ∷ Refused 22 ∷ Refused 22 ∷ []
unfolding keyed
keyed_to_others = refl

-- a page of 2 to key 0, to key 1, and with its own key
keyed_from_second :
    map (keyed plain 0x404000 0) callers ++ map (keyed plain 0x404000 1) callers
    ++ map (keyed plain 0x404000 0xFFFFFFFF) callers
    ≡ Refused 1 ∷ Refused 1 ∷ with_second (page 3 0) ∷ with_second (page 3 0)
    ∷ Refused 1 ∷ Refused 1 ∷ Refused 1 ∷ with_second (page 3 1)
    ∷ Refused 1 ∷ Refused 1 ∷ with_second (page 3 2) ∷ with_second (page 3 2) ∷ []
unfolding keyed
keyed_from_second = refl

-- reading alone doesn't give the key of an integrity domain; the low 32 bits of a key count
keyed_to_integrity :
    map (keyed second_integrity 0x408000 2) readers
    ++ map (keyed plain 0x408000 0x100000002) callers
    ≡ Refused 1 ∷ Refused 1 ∷ Refused 1 ∷ with_plain (page 3 2)
    ∷ Refused 1 ∷ Refused 1 ∷ with_plain (page 3 2) ∷ with_plain (page 3 2) ∷ []
unfolding keyed
keyed_to_integrity = refl

-- EINVAL, EPERM, ENOMEM: a key that isn't taken on a page that is denied; a key that is denied on a
-- page that isn't mapped, and one that isn't
keyed_in_order :
    keyed plain 0x404000 4 0x55555550 ∷ keyed plain 0x410000 2 0x55555550
    ∷ keyed plain 0x410000 2 0x55555544 ∷ keyed plain 0x410000 3 0x55555554 ∷ []
    ≡ Refused 22 ∷ Refused 1 ∷ Refused 12 ∷ Refused 12 ∷ []
unfolding keyed
keyed_in_order = refl

-- ---- mmap with MAP_FIXED (0x32), where a given number of pages are mapped

mmap : State → ℕ → ℕ → Told
unfolding call_by bare_image opened_domains opens opens_write any_below is_pinned count_below plain
    second_integrity caller
mmap s addr pkru =
    pages_of (mmap_at s (caller pkru 9 addr 4096 1 0x32) addr (range_of addr 4096) 1)

-- anew, it has key 0
abbrev anew : Option Rights
anew = page 1 0

mapped_anew :
    (m : mapped_pages domain_rights ≡ 8)
    → map (mmap plain 0x404000) callers ++ map (mmap plain 0x405000) callers
    ++ map (mmap second_integrity 0x404000) readers
    ≡ Refused 1 ∷ Refused 1
    ∷ Pages 0x404000 (published_page ∷ anew ∷ page 3 1 ∷ page 3 0 ∷ page 3 3 ∷ []) []
    ∷ Pages 0x404000 (published_page ∷ anew ∷ page 3 1 ∷ page 3 0 ∷ page 3 3 ∷ []) []
    ∷ Refused 1 ∷ Pages 0x405000 (published_page ∷ page 3 2 ∷ anew ∷ page 3 0 ∷ page 3 3 ∷ []) []
    ∷ Refused 1 ∷ Pages 0x405000 (published_page ∷ page 3 2 ∷ anew ∷ page 3 0 ∷ page 3 3 ∷ []) []
    ∷ Refused 1 ∷ Refused 1 ∷ Refused 1
    ∷ Pages 0x404000 (published_page ∷ anew ∷ page 3 1 ∷ page 3 0 ∷ page 3 3 ∷ []) [] ∷ []
unfolding mmap
mapped_anew m = rw m refl

mapped_refused :
    map (λ pkru. pages_told plain (caller pkru 9 0x404000 4096 1 0x32))
    (0x55555554 ∷ 0x55555550 ∷ [])
    ++ map (λ addr. pages_told plain (caller 0x55555540 9 addr 4096 1 0x32))
    (0x402000 ∷ 0x403000 ∷ [])
    ≡ Refused 1 ∷ Refused 1 ∷ Refused 1 ∷ Refused 1 ∷ []
unfolding pages_told plain caller
mapped_refused = refl

-- ---- keys

keys_told : State → (ℕ → Bool) → Thread → Told
unfolding call_by bare_image opened_domains opens_write taken
keys_told s keys t = keys_of (call_by (record s { keys = keys }) t)

-- keys 0 to 3 are taken: key 0 and the domains stay taken, also for who opens them, and what isn't
-- taken can't be freed; the low 32 bits count
freed :
    map (λ key. keys_told plain (λ k. nat_lt k 4) (caller 0x55555540 331 key 0 0 0))
    (0 ∷ 1 ∷ 2 ∷ 3 ∷ 4 ∷ 15 ∷ 16 ∷ 0x100000002 ∷ 0x100000003 ∷ [])
    ≡ Refused 22 ∷ Refused 22 ∷ Refused 22 ∷ Keys 0 (2 ∷ 1 ∷ 0 ∷ []) 0x55555540 ∷ Refused 22
    ∷ Refused 22 ∷ Refused 22 ∷ Refused 22 ∷ Keys 0 (2 ∷ 1 ∷ 0 ∷ []) 0x55555540 ∷ []
unfolding keys_told plain caller taken
freed = refl

-- domains 1 and 4 are no domains 2 and 3
far_domain : State
far_domain = domain_state (mark 2 4 0x404000 4096 ∷ []) (standing 0x55555554 0x401000 0) []

freed_around :
    map (λ key. keys_told far_domain (λ k. nat_lt k 6) (caller 0x55555554 331 key 0 0 0))
    (1 ∷ 2 ∷ 3 ∷ 4 ∷ 5 ∷ [])
    ≡ Refused 22 ∷ Keys 0 (5 ∷ 4 ∷ 3 ∷ 1 ∷ 0 ∷ []) 0x55555554
    ∷ Keys 0 (5 ∷ 4 ∷ 2 ∷ 1 ∷ 0 ∷ []) 0x55555554 ∷ Refused 22
    ∷ Keys 0 (4 ∷ 3 ∷ 2 ∷ 1 ∷ 0 ∷ []) 0x55555554 ∷ []
unfolding keys_told far_domain caller taken
freed_around = refl

-- the least key that isn't taken, with its AD and WD; those of the domains stay
allocated :
    keys_told plain (λ k. nat_lt k 3) (caller 0x55555550 330 0 0 0 0)
    ∷ keys_told plain (λ k. nat_lt k 3) (caller 0x55555550 330 0 3 0 0)
    ∷ keys_told plain (λ k. nat_lt k 4) (caller 0x55555554 330 0 2 0 0)
    ∷ keys_told far_domain (λ k. nat_lt k 2 || k == 4) (caller 0x55555554 330 0 0 0 0)
    ∷ keys_told far_domain (λ k. nat_lt k 5) (caller 0x55555554 330 0 0 0 0)
    ∷ keys_told plain (λ k. nat_lt k 16) (caller 0x55555540 330 0 0 0 0) ∷ []
    ≡ Keys 3 (3 ∷ 2 ∷ 1 ∷ 0 ∷ []) 0x55555510 ∷ Keys 3 (3 ∷ 2 ∷ 1 ∷ 0 ∷ []) 0x555555D0
    ∷ Keys 4 (4 ∷ 3 ∷ 2 ∷ 1 ∷ 0 ∷ []) 0x55555654 ∷ Keys 2 (4 ∷ 2 ∷ 1 ∷ 0 ∷ []) 0x55555544
    ∷ Keys 5 (5 ∷ 4 ∷ 3 ∷ 2 ∷ 1 ∷ 0 ∷ []) 0x55555154 ∷ Refused 28 ∷ []
unfolding keys_told plain far_domain caller taken
allocated = refl

-- ---- write(1, buf, 1): it reads by PKRU, so the page of an integrity domain is read by all

written : State → ℕ → ℕ → Told
unfolding call_by bare_image plain second_integrity caller
written s buf pkru = output_of (call_by s (caller pkru 1 1 buf 1 0))

read_by_write :
    map (written plain 0x404041) callers ++ map (written second_integrity 0x404041) readers
    ≡ Refused 14 ∷ Refused 14 ∷ Wrote 1 (0 ∷ []) ∷ Wrote 1 (0 ∷ [])
    ∷ Wrote 1 (0 ∷ []) ∷ Wrote 1 (0 ∷ []) ∷ Refused 14 ∷ Wrote 1 (0 ∷ []) ∷ []
unfolding written
read_by_write = refl

-- ---- the trusted heap is of domain 1

heap_told : State → ℕ → ℕ → ℕ → Told
unfolding call_by bare_image opened_domains opens_write plain second_integrity first_integrity
    caller
heap_told s call arg pkru =
    blocks_of (call_by (record s { blocks = span 0x407000 16 ∷ [] }) (caller pkru call arg 0 0 0))

-- who may ask is said EINVAL, for a length of 0 and where no block begins; others EPERM
heap_callers :
    map (heap_told plain 1000 0) callers ++ map (heap_told plain 1001 0x407008) callers
    ≡ Refused 1 ∷ Refused 22 ∷ Refused 1 ∷ Refused 22
    ∷ Refused 1 ∷ Refused 22 ∷ Refused 1 ∷ Refused 22 ∷ []
unfolding heap_told
heap_callers = refl

freed_blocks :
    map (heap_told plain 1001 0x407000) callers
    ≡ Refused 1 ∷ Blocks 0 [] ∷ Refused 1 ∷ Blocks 0 [] ∷ []
unfolding heap_told
freed_blocks = refl

-- 1 is an integrity domain: closed, opens it, reads it and opens 2
heap_of_integrity :
    map (heap_told first_integrity 1001 0x407000)
    (0x55555558 ∷ 0x55555550 ∷ 0x55555548 ∷ 0x55555540 ∷ [])
    ++ map (heap_told first_integrity 1000 0) (0x55555558 ∷ 0x55555550 ∷ [])
    ≡ Refused 1 ∷ Blocks 0 [] ∷ Refused 1 ∷ Blocks 0 [] ∷ Refused 1 ∷ Refused 22 ∷ []
unfolding heap_told
heap_of_integrity = refl

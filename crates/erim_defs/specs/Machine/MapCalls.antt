-- The calls on pages and protection keys. Linux: mmap(2), munmap(2), mprotect(2), pkeys(7). What is
-- protected and what is pinned is own, after ERIM, whose monitor keeps trusted memory and the code
-- that was inspected from such calls.
use Rattle.std.specs.Prelude.{ℕ, ◌+◌, ◌-◌, ◌*◌, ◌/◌, ◌%◌, ◌^◌, ◌==◌, ◌&&◌, ◌||◌, not, nat_lt}
use Rattle.std.specs.Prelude.{nat_le, Bool, false, Option, Some, None, is_none, is_some}
use Rattle.std.specs.Prelude.{List, [], ◌∷◌, option_map, if◌then◌else◌}
use Rattle.erim_defs.specs.declared.found.Found.{Found}
use Rattle.erim_defs.specs.declared.linux.TheConstants.{EPERM, EAGAIN, ENOMEM, EINVAL, ENOSPC}
use Rattle.erim_defs.specs.declared.linux.TheConstants.{MAP_ANYWHERE, MAP_AT, LOWEST_FIXED}
use Rattle.erim_defs.specs.declared.linux.TheConstants.{LOWEST_FREE_PAGE, KEYS, ANY_KEY}
use Rattle.erim_defs.specs.declared.machine.Rights.{Rights}
use Rattle.erim_defs.specs.declared.machine.Thread.{Thread}
use Rattle.erim_defs.specs.declared.page.TheConstants.{PLAIN_KEY, TRUSTED_KEY}
use Rattle.erim_defs.specs.Inspection.Trust.{TrustValue, in_text_of, is_domain}
use Rattle.erim_defs.specs.Machine.Pages.{RightsMap, asks_exec, published_rights}
use Rattle.erim_defs.specs.Machine.Count.{last_page, count_below, mapped_pages}
use Rattle.erim_defs.specs.Machine.Domains.{is_denied}
use Rattle.erim_defs.specs.Machine.State.{State, trust_of}
use Rattle.erim_defs.specs.Machine.Start.{unpublished_rights}
use Rattle.erim_defs.specs.Machine.CallResult.{Change, CallResult, Refusal, Answer, no_change}
use Rattle.erim_defs.specs.Machine.CallResult.{or_refuse}
use Rattle.erim_defs.specs.Machine.Least.{any_below, least_below}

-- ---- ranges of pages

-- a given number of pages from a page on
pub record PageRange : Type 0 where
  pub first : ℕ
  pub count : ℕ

-- the pages from an address on that a given number of bytes cover, rounded up
abbrev pub range_of : ℕ → ℕ → PageRange
range_of addr len = record { first = addr / 4096; count = (len + 4095) / 4096 }

abbrev pub is_in : PageRange → ℕ → Bool
is_in r q = nat_le r.first q && nat_lt q (r.first + r.count)

-- it ends past user memory
abbrev pub ends_past_user : PageRange → Bool
ends_past_user r = nat_lt (2 ^ 35) (r.first + r.count)

-- a test holds of a page of a range
abbrev pub any_page : PageRange → (ℕ → Bool) → Bool
any_page r test = any_below r.count (λ k. test (r.first + k))

-- ---- what a call may not touch

abbrev pub has_key : Option Rights → ℕ → Bool
has_key None key = false
has_key (Some rights) key = rights.key == key

-- the key of a page is a domain that a caller with this PKRU doesn't open
abbrev pub is_denied_page : TrustValue → ℕ → Option Rights → Bool
is_denied_page trust pkru None = false
is_denied_page trust pkru (Some rights) = is_denied trust pkru rights.key

-- a range touches trusted text, or a page of a domain that a caller with this PKRU doesn't open
abbrev pub is_protected : TrustValue → RightsMap → ℕ → PageRange → Bool
is_protected trust rights pkru r =
    any_page r (λ q. in_text_of trust (4096 * q))
    || any_page r (λ q. is_denied_page trust pkru (rights q))

abbrev pub has_byte_on : Option Found → ℕ → Bool
has_byte_on None q = false
has_byte_on (Some o) q = nat_le (o.at / 4096) q && nat_le q ((o.at + o.len - 1) / 4096)

-- a page that holds a byte of the origin of a live thread
unfoldable pub is_pinned : List Thread → ℕ → Bool
is_pinned [] q = false
is_pinned (t ∷ ts) q = (t.live && has_byte_on t.origin q) || is_pinned ts q

-- a page of the range is pinned
abbrev pub has_pin : State → PageRange → Bool
has_pin s r = any_page r (is_pinned s.threads)

-- ---- mmap and munmap

-- the pages of a range with these rights, or unmapped, and zeros on them
abbrev pub with_pages : State → Thread → PageRange → Option Rights → Change
with_pages s t r rights = (let c = no_change s t in record c {
  rights = λ q. if is_in r q then rights else s.rights q;
  bytes = λ a. if is_in r (a / 4096) then 0 else s.bytes a;
})

-- how many pages of a range are mapped
abbrev pub mapped_in : RightsMap → PageRange → ℕ
mapped_in rights r = count_below r.count (λ k. is_some (rights (r.first + k)))

-- no page of a range is mapped, and it lies where ranges are mapped without MAP_FIXED
abbrev pub is_free_range : RightsMap → PageRange → Bool
is_free_range rights r =
    nat_le LOWEST_FREE_PAGE r.first
    && (not (ends_past_user r) && not (any_page r (λ q. is_some (rights q))))

-- the lowest page from which on a given number are free
abbrev pub lowest_free : RightsMap → ℕ → Option ℕ
lowest_free rights count =
    least_below last_page (λ p. is_free_range rights (record { first = p; count = count }))

abbrev pub new_rights : ℕ → Option Rights
new_rights prot = Some (unpublished_rights prot PLAIN_KEY)

-- ENOMEM never comes here: at most 4,096 pages are mapped, so that there is a free range below 2^47
-- wherever frames suffice
abbrev pub mmap_from : State → Thread → ℕ → ℕ → Option ℕ → CallResult
mmap_from s t count prot None = Refusal ENOMEM
mmap_from s t count prot (Some first) =
    Answer (4096 * first)
    (with_pages s t (record { first = first; count = count }) (new_rights prot))

-- without MAP_FIXED: the lowest free pages
abbrev pub mmap_anywhere : State → Thread → ℕ → ℕ → CallResult
mmap_anywhere s t count prot =
    or_refuse (nat_lt s.setup.frames (mapped_pages s.rights + count)) ENOMEM
    (mmap_from s t count prot (lowest_free s.rights count))

-- with MAP_FIXED: the pages of the range, mapped anew; each that is mapped gives its frame back
abbrev pub mmap_at : State → Thread → ℕ → PageRange → ℕ → CallResult
mmap_at s t addr r prot =
    or_refuse (not (addr % 4096 == 0) || (nat_lt addr LOWEST_FIXED || ends_past_user r)) EINVAL
    (or_refuse (is_protected (trust_of s) s.rights t.pkru r) EPERM
    (or_refuse (nat_lt (s.setup.frames + mapped_in s.rights r)
    (mapped_pages s.rights + r.count)) ENOMEM
    (or_refuse (has_pin s r) EAGAIN
    (Answer addr (with_pages s t r (new_rights prot))))))

-- mmap(addr, len, prot, flags)
unfoldable pub mmap_result : State → Thread → ℕ → ℕ → ℕ → ℕ → CallResult
mmap_result s t addr len prot flags =
    or_refuse
    (len == 0 || (nat_lt 7 prot || not (flags == MAP_ANYWHERE || flags == MAP_AT))) EINVAL
    (if flags == MAP_AT then mmap_at s t addr (range_of addr len) prot
    else mmap_anywhere s t (range_of addr len).count prot)

-- munmap(addr, len)
unfoldable pub munmap_result : State → Thread → ℕ → ℕ → CallResult
munmap_result s t addr len =
    let r = range_of addr len in
    or_refuse (not (addr % 4096 == 0) || (len == 0 || ends_past_user r)) EINVAL
    (or_refuse (is_protected (trust_of s) s.rights t.pkru r) EPERM
    (or_refuse (has_pin s r) EAGAIN
    (Answer 0 (with_pages s t r None))))

-- ---- mprotect and pkey_mprotect

-- the rights of a page that is asked anew: a published page stays so where PROT_EXEC is asked
abbrev pub asked_anew : ℕ → ℕ → Rights → Rights
asked_anew prot key rights =
    if rights.exec && asks_exec prot then published_rights (unpublished_rights prot key)
    else unpublished_rights prot key

abbrev pub key_or : ℕ → Option ℕ → ℕ
key_or old None = old
key_or old (Some key) = key

-- the pages of a range asked anew, with another key where there is one
abbrev pub with_prot : State → Thread → PageRange → ℕ → Option ℕ → Change
with_prot s t r prot key = (let c = no_change s t in record c {
  rights = λ q. if is_in r q
      then option_map (λ rights. asked_anew prot (key_or rights.key key) rights) (s.rights q)
      else s.rights q;
})

abbrev pub is_taken : State → ℕ → Bool
is_taken s key = nat_lt key KEYS && s.keys key

abbrev pub is_foreign : State → Option ℕ → Bool
is_foreign s None = false
is_foreign s (Some key) = not (is_taken s key)

-- the key is a domain that the caller doesn't open
abbrev pub is_denied_key : TrustValue → ℕ → Option ℕ → Bool
is_denied_key trust pkru None = false
is_denied_key trust pkru (Some key) = is_denied trust pkru key

abbrev pub protect : State → Thread → ℕ → PageRange → ℕ → Option ℕ → CallResult
protect s t addr r prot key =
    or_refuse (not (addr % 4096 == 0) || (nat_lt 7 prot || (ends_past_user r
    || is_foreign s key))) EINVAL
    (or_refuse (is_protected (trust_of s) s.rights t.pkru r
    || is_denied_key (trust_of s) t.pkru key) EPERM
    (or_refuse (any_page r (λ q. is_none (s.rights q))) ENOMEM
    (or_refuse (not (asks_exec prot) && has_pin s r) EAGAIN
    (Answer 0 (with_prot s t r prot key)))))

-- mprotect(addr, len, prot)
unfoldable pub mprotect_result : State → Thread → ℕ → ℕ → ℕ → CallResult
mprotect_result s t addr len prot = protect s t addr (range_of addr len) prot None

-- pkey_mprotect(addr, len, prot, key); the key is looked at in its low 32 bits
unfoldable pub pkey_mprotect_result : State → Thread → ℕ → ℕ → ℕ → ℕ → CallResult
pkey_mprotect_result s t addr len prot key =
    protect s t addr (range_of addr len) prot
    (if key % 2 ^ 32 == ANY_KEY then None else Some (key % 2 ^ 32))

-- ---- keys

-- AD and WD of a key become bits 0 and 1 of a number below 4
unfoldable pub with_key_rights : ℕ → ℕ → ℕ → ℕ
with_key_rights pkru key bits =
    pkru % 2 ^ (2 * key) + 2 ^ (2 * key) * (bits + 4 * (pkru / 2 ^ (2 * key + 2)))

-- key 0 and the domains are always taken, key 1 among them
abbrev pub least_free_key : State → Option ℕ
least_free_key s = least_below KEYS (λ key. nat_lt TRUSTED_KEY key && not (s.keys key))

abbrev pub alloc_key : State → Thread → ℕ → Option ℕ → CallResult
alloc_key s t bits None = Refusal ENOSPC
alloc_key s t bits (Some key) =
    Answer key (let c = no_change s t in record c {
      keys = λ k. k == key || s.keys k;
      pkru = with_key_rights t.pkru key bits;
    })

-- pkey_alloc(flags, rights)
unfoldable pub pkey_alloc_result : State → Thread → ℕ → ℕ → CallResult
pkey_alloc_result s t flags bits =
    or_refuse (not (flags == 0) || nat_lt 3 bits) EINVAL (alloc_key s t bits (least_free_key s))

-- pkey_free(key); the key is looked at in its low 32 bits
unfoldable pub pkey_free_result : State → Thread → ℕ → CallResult
pkey_free_result s t key =
    let k = key % 2 ^ 32 in
    or_refuse (k == PLAIN_KEY || (is_domain (trust_of s) k || not (is_taken s k))) EINVAL
    (Answer 0 (let c = no_change s t in record c { keys = λ j. not (j == k) && s.keys j }))

-- What each step of each run is held to: who touches trusted memory, how a thread comes to open a
-- domain or is made, and how a page is published or refused. Own, after ERIM.
use Rattle.std.specs.Prelude.{◌≡◌, ◌≢◌, ◌⊎◌, ◌↔◌, ◌<◌, ◌≤◌, ◌+◌, ◌/◌, ◌%◌, ℕ, true}
use Rattle.std.specs.Prelude.{false, Some, None, List, [], ◌∷◌, length, slice_get}
use Rattle.erim_defs.specs.declared.linux.TheConstants.{SYS_CLONE, SYS_EXIT_GROUP, SYS_WRITE}
use Rattle.erim_defs.specs.declared.machine.Thread.{Thread}
use Rattle.erim_defs.specs.declared.machine.Rights.{Rights}
use Rattle.erim_defs.specs.declared.machine.Entry.{Entry}
use Rattle.erim_defs.specs.declared.machine.End.TheVariants.{Exit, Refused}
use Rattle.erim_defs.specs.declared.found.Found.{Found}
use Rattle.erim_defs.specs.declared.insn.Insn.{Insn}
use Rattle.erim_defs.specs.declared.register.TheConstants.{RAX, RDI, RDX, RSI}
use Rattle.erim_defs.specs.declared.insn.Insn.TheVariants.{Syscall}
use Rattle.erim_defs.specs.declared.insn.FetchOutcome.TheVariants.{Runs, Need}
use Rattle.erim_defs.specs.Machine.Pages.{ByteMap, word, is_published, code_with, asks_exec}
use Rattle.erim_defs.specs.Machine.Access.{Seen, stop, whole}
use Rattle.erim_defs.specs.Inspection.Occurrence.{occurrence_at}
use Rattle.erim_defs.specs.Inspection.Safe.{opens_gate, fits}
use Rattle.erim_defs.specs.Inspection.Unsafe.{unsafe_list}
use Rattle.erim_defs.specs.Machine.Plan.{Plan, Ask, Give, Refuse, Call, Called, Stopped, effect}
use Rattle.erim_defs.specs.Machine.Step.{is_write_fault}
use Rattle.erim_defs.specs.declared.machine.Access.TheVariants.{Fault}
use Rattle.erim_defs.specs.declared.machine.Cause.TheVariants.{Write as WriteCause}
use Rattle.erim_defs.specs.Machine.Registers.{register}
use Rattle.erim_defs.specs.Machine.Meaning.{plan}
use Rattle.erim_defs.specs.Machine.State.{Setup, State, code, is_outside, trust_of}
use Rattle.erim_defs.specs.Machine.Domains.{opened_domains, opens_domain}
use Rattle.erim_defs.specs.Inspection.Trust.{TrustValue, is_domain}
use Rattle.erim_defs.specs.Inspection.Trust.{is_integrity}
use Rattle.erim_defs.specs.Inspection.Trust.{text_key}
use Rattle.std.specs.Prelude.{Bool}
use Rattle.erim_defs.specs.Machine.CallResult.{Change, Answer}
use Rattle.erim_defs.specs.Machine.Calls.{call_result}
use Rattle.erim_defs.specs.Machine.MapCalls.{has_key}
use Rattle.erim_defs.specs.Machine.Step.{step, sequence_of, after_syscall, fetch}
use Rattle.erim_defs.specs.Machine.Replay.{replay}
use Rattle.erim_defs.specs.Machine.Isolation.{IsInCheck}
use Rattle.erim_defs.specs.Inspection.Check.{check_of, Leave, check_insn}

-- ---- what an open thread that isn't at home does

-- a step of thread t from old
pub data ChecksOn (s new : State) (t : ℕ) (old : Thread) : Type 0 where
  -- an exec fault
  Faults : (x : ℕ) → fetch (code s) old.rip ≡ Need x → ChecksOn s new t old
  -- the instruction of its check where it stands, and on to the next
  GoesOn : (check : IsInCheck (trust_of s) (code s) old) (len : ℕ) (after : Thread)
      → check.position ≢ Leave
      → fetch (code s) old.rip
      ≡ Runs (check_insn (trust_of s) check.origin.kind (check.origin.at + check.origin.len)
      check.position) len 0 → slice_get new.threads t ≡ Some after → after.rip ≡ old.rip + len
      → ChecksOn s new t old
  -- exit_group, the last one
  Ends : (len : ℕ) → fetch (code s) old.rip ≡ Runs Syscall len 0 → register old RAX ≡ SYS_EXIT_GROUP
      → new.end ≡ Some (Exit (register old RDI % 256)) → ChecksOn s new t old

-- ---- who touches trusted memory

-- an instruction reads the byte at x, or writes it
abbrev pub Reaches : Bool → Plan → Seen → ByteMap → ℕ → ℕ → Type 0
Reaches write (Ask a n k) seen bytes pkru x = (stop seen false pkru a n ≡ None)
    × (((write ≡ false) × (a ≤ x) × (x < a + n)) ⊎ Reaches write (k
    (word bytes a n)) seen bytes pkru
    x)
Reaches write (Give t None) seen bytes pkru x = ⊥
Reaches write (Give t (Some w)) seen bytes pkru x = (stop seen true pkru w.addr w.count ≡ None)
    × (write ≡ true) × (w.addr ≤ x) × (x < w.addr + w.count)
Reaches write Refuse seen bytes pkru x = ⊥
Reaches write Call seen bytes pkru x = ⊥

-- reading the pages of an integrity domain isn't touching
abbrev pub Counts : TrustValue → Bool → ℕ → Type 0
Counts trust write domain = (write ≡ true) ⊎ (is_integrity trust domain ≡ false)

-- a call that isn't refused changes the page q, or a byte of it
pub data Changes (s : State) (c : Change) (q : ℕ) : Type 0 where
  PageRights : c.rights q ≢ s.rights q → Changes s c q
  PageBytes : (a : ℕ) → a / 4096 ≡ q → c.bytes a ≢ s.bytes a → Changes s c q

-- the instruction at which a thread stands is a call that isn't refused
pub record MakesCall (s : State) (t : ℕ) (old : Thread) (value : ℕ) (change : Change) (len : ℕ) :
    Type 0 where
  pub insn : Insn
  pub skip : ℕ
  pub runs : fetch (code s) old.rip ≡ Runs insn len skip
  pub called : effect (plan insn len old) (whole s.rights) s.bytes old.pkru old.rip ≡ Called
  pub answered : call_result s t (after_syscall len old) ≡ Answer value change

-- a step touches memory of a domain: by its instruction, by what write reads, by what a call
-- changes, by a write fault
pub data Touches (s : State) (t : ℕ) (old : Thread) (domain : ℕ) : Type 0 where
  ByInsn : (write : Bool) (insn : Insn) (len skip x : ℕ)
      → fetch (code s) old.rip ≡ Runs insn len skip
      → Reaches write (plan insn len old) (whole s.rights) s.bytes old.pkru x
      → Counts (trust_of s) write domain
      → has_key (s.rights (x / 4096)) domain ≡ true → Touches s t old domain
  ByWrite : (len value x : ℕ) (c : Change) → MakesCall s t old value c len
      → register old RAX ≡ SYS_WRITE
      → register old RSI ≤ x → x < register old RSI + register old RDX
      → Counts (trust_of s) false domain
      → has_key (s.rights (x / 4096)) domain ≡ true
      → Touches s t old domain
  ByCall : (len value q : ℕ) (c : Change) → MakesCall s t old value c len → Changes s c q
      → (has_key (s.rights q) domain ≡ true) ⊎ (has_key (c.rights q) domain ≡ true)
      → Touches s t old domain
  -- a write fault, which may take the publication of the page back
  ByFault : (insn : Insn) (len skip x : ℕ) (held : Rights)
      → fetch (code s) old.rip ≡ Runs insn len skip
      → effect (plan insn len old) (whole s.rights) s.bytes old.pkru old.rip
      ≡ Stopped (Fault WriteCause x)
      → s.rights (x / 4096) ≡ Some held → is_write_fault held old.pkru ≡ true
      → held.key ≡ domain → Touches s t old domain

-- before an escape, a thread that opened the domain, in its text, alone
abbrev pub IsOwner : TrustValue → Thread → ℕ → Type 0
IsOwner trust t domain =
    (opens_domain trust t.pkru domain ≡ true) × (text_key trust t.rip ≡ domain)

-- ---- how a thread opens

-- thread i comes to open a domain that it didn't open, from a to b, in a step of thread t
pub record IsOpening (s : State) (t i : ℕ) (a b : Thread) : Type 0 where
  pub own : i ≡ t
  pub insn : Insn
  pub len : ℕ
  pub skip : ℕ
  pub origin : Found
  pub runs : fetch (code s) a.rip ≡ Runs insn len skip
  pub sequence : sequence_of (record { insn = insn; len = len; skip = skip }) a.rip ≡ Some origin
  pub occurs : occurrence_at (code s) origin.at ≡ Some origin
  pub rip : b.rip ≡ origin.at + origin.len
  -- an entry follows, or nothing contradicts the check
  pub follows : (opens_gate (trust_of s) origin.kind b.rip ≡ true)
      ⊎ (fits (code s) b.rip (check_of (trust_of s) origin.kind b.rip) ≡ true)

-- ---- a thread that clone makes

-- old, which is thread t of s, makes the thread u of this number; new is the state after that step
pub record IsClone (s new : State) (t number : ℕ) (old u : Thread) : Type 0 where
  -- the system call clone
  pub insn : Insn
  pub len : ℕ
  pub skip : ℕ
  pub runs : fetch (code s) old.rip ≡ Runs insn len skip
  pub called : effect (plan insn len old) (whole s.rights) s.bytes old.pkru old.rip ≡ Called
  pub clone : register old RAX ≡ SYS_CLONE
  -- the next number
  pub next : number ≡ length s.threads
  -- its maker after that step: it stands where its maker stands, and opens what its maker opens
  pub maker : Thread
  pub at : slice_get new.threads t ≡ Some maker
  pub rip : u.rip ≡ maker.rip
  pub key : opened_domains (trust_of new) u.pkru ≡ opened_domains (trust_of new) maker.pkru
  pub live : u.live ≡ true
  pub from : u.origin ≡ maker.origin
  -- none where it is closed or at home
  pub origin : is_outside (trust_of new) u ≡ false → u.origin ≡ None
  -- as it is until an escape
  pub inside : new.escape ≡ None → is_outside (trust_of new) u ≡ false

-- ---- how a page is published

-- an exec fault on a mapped page q that asks PROT_EXEC, with nothing unsafe in the code with that
-- page
pub record IsPublication (s : State) (q : ℕ) (old : Thread) : Type 0 where
  pub x : ℕ
  pub rights : Rights
  pub needs : fetch (code s) old.rip ≡ Need x
  pub page : x / 4096 ≡ q
  pub mapped : s.rights q ≡ Some rights
  pub asks : asks_exec rights.asked ≡ true
  pub safe : unsafe_list (trust_of s) (code_with s.rights s.bytes q) ≡ []

-- the same, but with found the first that is unsafe in that code
pub record IsRefusal (s : State) (q : ℕ) (found : Found) (old : Thread) : Type 0 where
  pub x : ℕ
  pub rights : Rights
  pub rest : List Found
  pub needs : fetch (code s) old.rip ≡ Need x
  pub page : x / 4096 ≡ q
  pub mapped : s.rights q ≡ Some rights
  pub asks : asks_exec rights.asked ≡ true
  pub unsafe : unsafe_list (trust_of s) (code_with s.rights s.bytes q) ≡ found ∷ rest

-- ---- all of it, of one step and of each step of each run

-- a step of thread t leads from s to new, and old is that thread before it
pub record IsLawful (t : ℕ) (s new : State) : Type 0 where
  pub old : Thread
  pub at : slice_get s.threads t ≡ Some old
  pub live : old.live ≡ true
  -- before an escape, who touches memory of a domain opened it and stands in its text
  pub touches : (domain : ℕ) → s.escape ≡ None → is_domain (trust_of s) domain ≡ true
      → Touches s t old domain → IsOwner (trust_of s) old domain
  -- before an escape, what an open thread that isn't at home does
  pub checks : s.escape ≡ None → is_outside (trust_of s) old ≡ true → ChecksOn s new t old
  -- how a thread that was there comes to open a domain
  pub opens : (i domain : ℕ) (a b : Thread) → slice_get s.threads i ≡ Some a
      → slice_get new.threads i ≡ Some b → opens_domain (trust_of s) a.pkru domain ≡ false
      → opens_domain (trust_of s) b.pkru domain ≡ true → IsOpening s t i a b
  -- how a thread is made
  pub makes : (number : ℕ) (u : Thread) → slice_get s.threads number ≡ None
      → slice_get new.threads number ≡ Some u → IsClone s new t number old u
  -- when a page is published
  pub publishes : (q : ℕ) → is_published (s.rights q) ≡ false
      → ((is_published (new.rights q) ≡ true) ↔ IsPublication s q old)
  -- when a page is refused
  pub refuses : (u q : ℕ) (found : Found)
      → ((new.end ≡ Some (Refused q found u)) ↔ ((u ≡ t) × IsRefusal s q found old))

-- each step of each run from a setup
abbrev pub AreLawful : Setup → Type 0
AreLawful setup = (entries : List Entry) (s new : State) (t : ℕ) → replay setup entries ≡ Some s
    → step t s ≡ Some new → IsLawful t s new

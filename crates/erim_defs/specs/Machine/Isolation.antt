-- The isolation invariant. Own, after ERIM: while no thread has escaped, each open thread stands in
-- the text of the one domain that it opens, or in the check after the sequence that opened it, and
-- no published sequence that writes PKRU is unsafe.
use Rattle.std.specs.Prelude.{◌≡◌, ◌≢◌, ◌⊎◌, ℕ, ◌+◌, ◌*◌, ◌/◌, ◌==◌, ◌≤◌, ◌^◌, not, true}
use Rattle.std.specs.Prelude.{false, Some, None, List, [], ◌∷◌, length, Bool}
use Rattle.erim_defs.specs.declared.machine.Rights.{Rights}
use Rattle.erim_defs.specs.declared.machine.Thread.{Thread}
use Rattle.erim_defs.specs.declared.machine.Entry.{Entry}
use Rattle.erim_defs.specs.declared.found.Found.{Found}
use Rattle.erim_defs.specs.declared.found.SeqKind.{SeqKind}
use Rattle.erim_defs.specs.declared.found.SeqKind.TheVariants.{Wrpkru, Xrstor}
use Rattle.erim_defs.specs.declared.linux.TheConstants.{SYS_EXIT_GROUP}
use Rattle.erim_defs.specs.declared.register.TheConstants.{RAX}
use Rattle.erim_defs.specs.Inspection.Code.{Code}
use Rattle.erim_defs.specs.Inspection.Occurrence.{occurrence_at}
use Rattle.erim_defs.specs.Inspection.Safe.{opens_gate, unsafe_at}
use Rattle.erim_defs.specs.Inspection.Image.{IsAccepted, trusted_code, image_trust}
use Rattle.erim_defs.specs.Machine.Pages.{RightsMap, ByteMap, IsSound, asks_exec, asks_write}
use Rattle.erim_defs.specs.Encoding.Parts.{AreBytes}
use Rattle.erim_defs.specs.Machine.Registers.{eax, register}
use Rattle.erim_defs.specs.Machine.State.{Setup, State, code, trust_of, is_outside}
use Rattle.erim_defs.specs.Machine.Start.{image_byte, frames_needed}
use Rattle.erim_defs.specs.Machine.Replay.{replay}
use Rattle.erim_defs.specs.Bits.{has_bit}
use Rattle.erim_defs.specs.Inspection.Check.{compared_value, pkru_bit, Position, Compare, Branch}
use Rattle.erim_defs.specs.Inspection.Check.{Number, Leave}
use Rattle.erim_defs.specs.Inspection.Check.{position_start}
use Rattle.erim_defs.specs.Inspection.Trust.{TrustValue, in_text_of, is_domain}

-- a code without unsafe sequences. Every address is asked, and not those below 2^47 alone, as the
-- unsafe list does: where nothing is mapped above, both say the same.
abbrev pub IsSafeCode : TrustValue → Code → Type 0
IsSafeCode trust c = (a : ℕ) → unsafe_at trust c a ≡ None

-- ---- in its check

-- what is known of a thread that stands at an instruction of its check, so that it can only go on
-- to the end of the process
abbrev pub PositionFact : TrustValue → SeqKind → ℕ → Position → Thread → Type 0
PositionFact trust Wrpkru next Compare t = eax t ≢ compared_value trust next
PositionFact trust Wrpkru next Branch t = t.flags.zf ≡ false
PositionFact trust Wrpkru next Number t = Unit {0}
PositionFact trust Wrpkru next Leave t = register t RAX ≡ SYS_EXIT_GROUP
PositionFact trust Xrstor next Compare t = has_bit (eax t) pkru_bit ≡ true
PositionFact trust Xrstor next Branch t = t.flags.cf ≡ true
PositionFact trust Xrstor next Number t = Unit {0}
PositionFact trust Xrstor next Leave t = register t RAX ≡ SYS_EXIT_GROUP

-- a thread with this origin, after which no entry is enough, stands at an instruction of its check
pub record IsInCheck (trust : TrustValue) (c : Code) (t : Thread) : Type 0 where
  pub origin : Found
  pub position : Position
  pub from : t.origin ≡ Some origin
  pub occurs : occurrence_at c origin.at ≡ Some origin
  pub gate : opens_gate trust origin.kind (origin.at + origin.len) ≡ false
  pub rip : t.rip ≡ origin.at + origin.len + position_start trust origin.kind
      (origin.at + origin.len) position
  pub fact : PositionFact trust origin.kind (origin.at + origin.len) position t

-- closed, or at home, or in its check
abbrev pub Stands : TrustValue → Code → Thread → Type 0
Stands trust c t = (is_outside trust t ≡ false) ⊎ IsInCheck trust c t

-- ---- the invariant

-- the rules of a page's rights
pub record IsRuled (r : Rights) : Type 0 where
  -- a published page isn't writable, and asks PROT_EXEC
  pub sealed : r.exec ≡ true → r.write ≡ false
  pub exec : r.exec ≡ true → asks_exec r.asked ≡ true
  -- readable where anything is asked
  pub read : r.read ≡ not (r.asked == 0)
  -- a page that isn't published is writable where it asks PROT_WRITE
  pub write : r.exec ≡ false → r.write ≡ asks_write r.asked
  -- keys are below 16, and protection bits below 8
  pub sound : IsSound r

-- a page of trusted text is mapped, published, doesn't ask PROT_WRITE, and has key 0 and the bytes
-- that were loaded
pub record KeepsText (setup : Setup) (rights : RightsMap) (bytes : ByteMap) (q : ℕ) : Type 0 where
  pub held : Rights
  pub mapped : rights q ≡ Some held
  pub exec : held.exec ≡ true
  pub asks : asks_write held.asked ≡ false
  pub key : held.key ≡ 0
  pub same : (a : ℕ) → a / 4096 ≡ q → bytes a ≡ image_byte setup.image a

abbrev pub Each : (Thread → Type 0) → List Thread → Type 0
Each P [] = Unit {0}
Each P (t ∷ ts) = P t × Each P ts

-- key 0 and every domain are taken
abbrev pub HasTaken : TrustValue → (ℕ → Bool) → Type 0
HasTaken trust keys = (keys 0 ≡ true) × ((key : ℕ) → is_domain trust key ≡ true → keys key ≡ true)

pub record IsKept (s : State) : Type 0 where
  pub ruled : (q : ℕ) (r : Rights) → s.rights q ≡ Some r → IsRuled r
  pub safe : IsSafeCode (trust_of s) (code s)
  pub text : (q : ℕ) → in_text_of (trust_of s) (4096 * q) ≡ true
      → KeepsText s.setup s.rights s.bytes q
  -- key 0 and every domain are taken
  pub keys : HasTaken (trust_of s) s.keys
  -- a thread that is closed or at home has no origin
  pub origins : Each (λ t. is_outside (trust_of s) t ≡ false → t.origin ≡ None) s.threads
  -- before an end and before an escape every live thread stands
  pub stand : s.end ≡ None → s.escape ≡ None
      → Each (λ t. t.live ≡ true → Stands (trust_of s) (code s) t) s.threads
  -- 16 registers
  pub regs : Each (λ t. length t.regs ≡ 16) s.threads
  -- no page is mapped past user memory
  pub low : (q : ℕ) → 2 ^ 35 ≤ q → s.rights q ≡ None
  -- the byte of an unmapped page is 0
  pub zeros : (a : ℕ) → s.rights (a / 4096) ≡ None → s.bytes a ≡ 0

-- a setup that can be started
pub record IsStartable (setup : Setup) : Type 0 where
  pub accepted : IsAccepted setup.image
  pub bytes : AreBytes setup.image
  pub safe : IsSafeCode (image_trust setup.image) (trusted_code setup.image)
  pub room : frames_needed setup.image ≤ setup.frames

-- in every state that a legal list of entries leads to; a prefix of such a list is one itself
abbrev pub AlwaysKept : Type 0
AlwaysKept = (setup : Setup) (entries : List Entry) (s : State) → IsStartable setup
    → replay setup entries ≡ Some s → IsKept s

-- the same of one setup: every state of each of its runs keeps the invariant
abbrev pub IsIsolated : Setup → Type 0
IsIsolated setup = (entries : List Entry) (s : State) → replay setup entries ≡ Some s → IsKept s

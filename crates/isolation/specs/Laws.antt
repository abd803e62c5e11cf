-- Laws of every run beside the isolation invariant. Own, after ERIM.
use Rattle.std.specs.Prelude.{◌≡◌, ◌↔◌, ◌≤◌, ◌==◌, ◌&&◌, not, ℕ, true}
use Rattle.std.specs.Prelude.{false, Some, None, List, [], ◌∷◌, slice_get}
use Rattle.erim_defs.specs.declared.machine.Thread.{Thread}
use Rattle.erim_defs.specs.declared.machine.Rights.{Rights}
use Rattle.erim_defs.specs.declared.machine.Entry.{Entry}
use Rattle.erim_defs.specs.declared.machine.End.TheVariants.{Refused}
use Rattle.erim_defs.specs.declared.found.Found.{Found}
use Rattle.erim_defs.specs.declared.found.SeqKind.TheVariants.{Wrpkru}
use Rattle.erim_defs.specs.Machine.Pages.{is_published}
use Rattle.erim_defs.specs.Machine.Access.{opens}
use Rattle.erim_defs.specs.Inspection.Safe.{opens_gate}
use Rattle.erim_defs.specs.Inspection.Image.{IsAccepted, has_domains, image_trust}
use Rattle.erim_defs.specs.Encoding.Parts.{AreBytes}
use Rattle.erim_defs.specs.Machine.State.{Setup, State, is_open, is_outside, trust_of}
use Rattle.erim_defs.specs.Machine.Domains.{is_denied, opens_domain}
use Rattle.erim_defs.specs.Inspection.Trust.{TrustValue, in_text_of, is_domain, is_entry_of}
use Rattle.erim_defs.specs.Machine.Step.{step}
use Rattle.erim_defs.specs.Machine.Start.{frames_needed, is_keyed, first_state, page_key}
use Rattle.erim_defs.specs.Machine.Start.{trusted_unsafe}
use Rattle.erim_defs.specs.Machine.Replay.{replay}
use Rattle.erim_defs.specs.Machine.Isolation.{IsStartable}
use Rattle.erim_defs.specs.Inspection.Check.{check_of, closed_value}
use Rattle.erim_defs.specs.Machine.Lawful.{ChecksOn, Touches, IsOwner, IsOpening, IsClone}
use Rattle.erim_defs.specs.Machine.Lawful.{IsPublication, IsRefusal, AreLawful}

-- ---- what can be started

-- what is found without running is enough: an accepted image of bytes, nothing unsafe in its
-- trusted text by itself, frames
abbrev pub StartLaw : Type 0
StartLaw = (setup : Setup) → IsAccepted setup.image → AreBytes setup.image
    → trusted_unsafe setup.image ≡ None → frames_needed setup.image ≤ setup.frames
    → IsStartable setup

-- at the start the pages of trusted data and of trusted heaps are mapped with the key of their
-- record, and aren't published
pub record IsKeyedPage (setup : Setup) (q : ℕ) : Type 0 where
  pub held : Rights
  pub mapped : (first_state setup).rights q ≡ Some held
  pub key : held.key ≡ page_key setup.image q
  -- which is that of a domain
  pub domain : is_domain (image_trust setup.image) held.key ≡ true
  pub hidden : held.exec ≡ false

abbrev pub KeyLaw : Type 0
KeyLaw = (setup : Setup) (q : ℕ) → IsStartable setup → is_keyed setup.image q ≡ true
    → IsKeyedPage setup q

-- ---- one domain

-- a trust with one domain, of key 1: a thread is open where AD of key 1 is 0, and outside where it
-- is open and not in trusted text; an entry after a WRPKRU is enough, and the check compares with
-- 0x55555554; only key 1 is denied, to closed threads
pub record HasOneDomain (trust : TrustValue) : Type 0 where
  pub closed : closed_value trust ≡ 0x55555554
  pub opens_one : (pkru : ℕ) → is_open trust pkru ≡ opens pkru 1
  pub outside : (t : Thread) → is_outside trust t
      ≡ (opens t.pkru 1 && not (in_text_of trust t.rip))
  pub entry : (next : ℕ) → opens_gate trust Wrpkru next ≡ is_entry_of trust next
  pub check : (next : ℕ) → check_of trust Wrpkru next
      ≡ 0x3D ∷ 0x54 ∷ 0x55 ∷ 0x55 ∷ 0x55 ∷ 0x74 ∷ 0x07 ∷ 0xB8 ∷ 0xE7 ∷ 0 ∷ 0 ∷ 0 ∷ 0x0F ∷ 0x05 ∷ []
  pub denied : (pkru key : ℕ) → is_denied trust pkru key ≡ (key == 1 && not (opens pkru 1))

-- a note of version 1 means that
abbrev pub PlainLaw : Type 0
PlainLaw = (image : List ℕ) → IsAccepted image → has_domains image ≡ false
    → HasOneDomain (image_trust image)

-- ---- a thread that can step

-- s is a state of a run that hasn't ended, and old its thread t, which is live
pub record CanStep (s : State) (t : ℕ) (old : Thread) : Type 0 where
  pub setup : Setup
  pub entries : List Entry
  pub startable : IsStartable setup
  pub reached : replay setup entries ≡ Some s
  pub going : s.end ≡ None
  pub at : slice_get s.threads t ≡ Some old
  pub live : old.live ≡ true

-- ---- what an open thread that isn't at home does

abbrev pub ChecksLaw : Type 0
ChecksLaw = (s new : State) (t : ℕ) (old : Thread) → CanStep s t old → s.escape ≡ None
    → is_outside (trust_of s) old ≡ true → step t s ≡ Some new → ChecksOn s new t old

-- ---- who touches trusted memory

abbrev pub TouchLaw : Type 0
TouchLaw = (s : State) (t : ℕ) (old : Thread) (domain : ℕ) → CanStep s t old → s.escape ≡ None
    → is_domain (trust_of s) domain ≡ true → Touches s t old domain
    → IsOwner (trust_of s) old domain

-- ---- how a thread opens

abbrev pub OpenLaw : Type 0
OpenLaw = (s new : State) (t i domain : ℕ) (a b old : Thread) → CanStep s t old
    → step t s ≡ Some new → slice_get s.threads i ≡ Some a → slice_get new.threads i ≡ Some b
    → opens_domain (trust_of s) a.pkru domain ≡ false
    → opens_domain (trust_of s) b.pkru domain ≡ true → IsOpening s t i a b

-- ---- a thread that is made

abbrev pub CloneLaw : Type 0
CloneLaw = (s new : State) (t number : ℕ) (old u : Thread) → CanStep s t old → step t s ≡ Some new
    → slice_get s.threads number ≡ None → slice_get new.threads number ≡ Some u
    → IsClone s new t number old u

-- ---- how a page is published

-- a page that wasn't published is so afterwards exactly then
abbrev pub PublishLaw : Type 0
PublishLaw = (s new : State) (t q : ℕ) (old : Thread) → CanStep s t old → step t s ≡ Some new
    → is_published (s.rights q) ≡ false
    → ((is_published (new.rights q) ≡ true) ↔ IsPublication s q old)

-- a run ends as refused exactly so
abbrev pub RefuseLaw : Type 0
RefuseLaw = (s new : State) (t u q : ℕ) (found : Found) (old : Thread) → CanStep s t old
    → step t s ≡ Some new → ((new.end ≡ Some (Refused q found u)) ↔ ((u ≡ t)
    × IsRefusal s q found old))

-- ---- all of it, of one step and of each step of each run

abbrev pub LawfulLaw : Type 0
LawfulLaw = (setup : Setup) → IsStartable setup → AreLawful setup

-- The state of the machine. Own, after ERIM: a thread is open where a domain is open to it, else
-- closed.
use Rattle.std.specs.Prelude.{ℕ, ◌&&◌, ◌||◌, not, Option, Some, None, List, [], ◌∷◌, Bool, false}
use Rattle.std.specs.Prelude.{if◌then◌else◌}
use Rattle.erim_defs.specs.declared.machine.Thread.{Thread}
use Rattle.erim_defs.specs.declared.found.Found.{Found}
use Rattle.erim_defs.specs.declared.machine.End.{End}
use Rattle.erim_defs.specs.declared.machine.Escape.{Escape}
use Rattle.erim_defs.specs.declared.trust.Span.{Span}
use Rattle.erim_defs.specs.Inspection.Code.{Code, or_else}
use Rattle.erim_defs.specs.Machine.Pages.{RightsMap, ByteMap, published_code}
use Rattle.erim_defs.specs.Machine.Domains.{opened_domains, is_set_but}
use Rattle.erim_defs.specs.Inspection.Trust.{TrustValue, text_key}
use Rattle.erim_defs.specs.Inspection.Image.{image_trust}

-- what a process is started with
pub record Setup : Type 0 where
  -- the bytes of an accepted image
  pub image : List ℕ
  -- the most steps
  pub budget : ℕ
  -- the most pages that may be mapped
  pub frames : ℕ

pub record State : Type 0 where
  -- what the process was started with
  pub setup : Setup
  -- the rights of each mapped page, by its number
  pub rights : RightsMap
  -- the byte at each address, 0 where no page is mapped
  pub bytes : ByteMap
  -- the threads by their numbers, ended ones among them
  pub threads : List Thread
  -- which protection keys are allocated
  pub keys : ℕ → Bool
  -- the live blocks of the trusted heap, by rising address
  pub blocks : List Span
  -- what was written
  pub output : List ℕ
  -- how the process ended, if it has
  pub end : Option End
  -- how many steps were made
  pub steps : ℕ
  -- the first escape, if there was one
  pub escape : Option Escape

-- the bytes that can be fetched
abbrev pub code : State → Code
code s = published_code s.rights s.bytes

-- the trusted part of the image that runs
abbrev pub trust_of : State → TrustValue
trust_of s = image_trust s.setup.image

-- ---- open threads

-- a thread with this PKRU is open: it opens a domain
abbrev pub is_open : TrustValue → ℕ → Bool
is_open trust pkru = is_set_but 0 (opened_domains trust pkru)

-- open, and not at home: it opens another domain than the one in whose text it stands
abbrev pub is_outside : TrustValue → Thread → Bool
is_outside trust t = is_set_but (text_key trust t.rip) (opened_domains trust t.pkru)

-- open, and at home
abbrev pub is_inside : TrustValue → Thread → Bool
is_inside trust t = is_open trust t.pkru && not (is_outside trust t)

-- the thread with its origin after a step: the sequence that the instruction executed, if it is
-- one, else the one before; none where the thread is closed or at home
abbrev pub with_origin : TrustValue → Option Found → Thread → Thread
with_origin trust executed t =
    record t { origin = (if is_outside trust t then or_else executed t.origin else None) }

-- the thread was open and at home and is afterwards open and not at home; no step that is free of
-- it
abbrev pub is_escape : TrustValue → Bool → Thread → Thread → Bool
is_escape trust free before after = not free && (is_inside trust before && is_outside trust after)

-- the first escape is kept
abbrev pub first_escape : Option Escape → Bool → Escape → Option Escape
first_escape first escapes now = or_else first (if escapes then Some now else None)

unfoldable pub any_live : List Thread → Bool
any_live [] = false
any_live (t ∷ ts) = t.live || any_live ts

-- What an instruction wants, before any page is known, and what comes of it. Own: an instruction
-- loads, one number after the other, and then gives its result with at most one write; the first
-- access that isn't allowed stops it, and nothing has changed.
use Rattle.std.specs.Prelude.{ℕ, true, false, Option, Some, None}
use Rattle.erim_defs.specs.declared.machine.Thread.{Thread}
use Rattle.erim_defs.specs.declared.machine.Access.{Access}
use Rattle.erim_defs.specs.declared.machine.Access.TheVariants.{Fault}
use Rattle.erim_defs.specs.declared.machine.Cause.TheVariants.{General}
use Rattle.erim_defs.specs.Machine.Pages.{ByteMap, word, with_number}
use Rattle.erim_defs.specs.Machine.Access.{Seen, stop}

pub record Write : Type 0 where
  pub addr : ℕ
  pub count : ℕ
  pub value : ℕ

-- What an instruction asks for: a load, after which it goes on with the value; a result, with at
-- most one write; cause General; a system call.
pub data Plan : Type 0 where
  Ask : (addr n : ℕ) → (ℕ → Plan) → Plan
  Give : (thread : Thread) → Option Write → Plan
  Refuse : Plan
  Call : Plan

-- what comes of it
pub data Effect : Type 0 where
  Done : Thread → Option Write → Effect
  Stopped : Access → Effect
  Called : Effect

abbrev pub unless : Option Access → Effect → Effect
unless None d = d
unless (Some a) d = Stopped a

abbrev pub effect_of_write : Thread → Option Write → Seen → ℕ → Effect
effect_of_write t None seen pkru = Done t None
effect_of_write t (Some w) seen pkru = unless (stop seen true pkru w.addr w.count) (Done t (Some w))

-- each load that is allowed gives its value, and the write is made where it is allowed
unfoldable pub effect : Plan → Seen → ByteMap → ℕ → ℕ → Effect
effect (Ask a n k) seen bytes pkru rip =
    unless (stop seen false pkru a n) (effect (k (word bytes a n)) seen bytes pkru rip)
effect (Give t w) seen bytes pkru rip = effect_of_write t w seen pkru
effect Refuse seen bytes pkru rip = Stopped (Fault General rip)
effect Call seen bytes pkru rip = Called

abbrev pub bytes_after_write : Option Write → ByteMap → ByteMap
bytes_after_write None bytes = bytes
bytes_after_write (Some w) bytes = with_number bytes w.addr w.count w.value

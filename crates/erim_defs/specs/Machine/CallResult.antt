-- What comes of a system call. Linux: a refusal is the negated error number.
use Rattle.std.specs.Prelude.{ℕ, Option, None, List, Bool, if◌then◌else◌}
use Rattle.erim_defs.specs.declared.machine.Thread.{Thread}
use Rattle.erim_defs.specs.declared.trust.Span.{Span}
use Rattle.erim_defs.specs.Machine.Pages.{RightsMap, ByteMap}
use Rattle.erim_defs.specs.Machine.State.{State}

-- what a call that isn't refused may change
pub record Change : Type 0 where
  pub rights : RightsMap
  pub bytes : ByteMap
  pub keys : ℕ → Bool
  pub blocks : List Span
  pub output : List ℕ
  -- the caller's PKRU
  pub pkru : ℕ
  -- a new thread
  pub clone : Option Thread

-- a refusal with its error number, an answer with its change, the end of the thread with the status
-- that the process has where it was the last, the end of the process with its status
pub data CallResult : Type 0 where
  Refusal : ℕ → CallResult
  Answer : ℕ → Change → CallResult
  ThreadEnd : ℕ → CallResult
  Quit : ℕ → CallResult

-- s is the state before the call, t the caller as it goes on after SYSCALL
abbrev pub no_change : State → Thread → Change
no_change s t = record {
  rights = s.rights;
  bytes = s.bytes;
  keys = s.keys;
  blocks = s.blocks;
  output = s.output;
  pkru = t.pkru;
  clone = None;
}

-- the refusals of a row, left to right
abbrev pub or_refuse : Bool → ℕ → CallResult → CallResult
or_refuse b e rest = if b then Refusal e else rest

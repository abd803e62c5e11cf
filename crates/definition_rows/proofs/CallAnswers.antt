-- What rows say of a system call: what came of it, as far as a row looks.
use Rattle.std.proofs.Common.{ℕ, zero, suc, Bool, List, [], ◌∷◌, Option}
use Rattle.std.specs.Prelude.{if◌then◌else◌}
use Rattle.erim_defs.specs.declared.machine.Rights.{Rights}
use Rattle.erim_defs.specs.declared.trust.Span.{Span}
use Rattle.erim_defs.specs.Machine.CallResult.{Refusal, Answer, ThreadEnd, Quit, CallResult}

-- a refusal; an answer with the rights of some pages and some bytes; or with the keys that are taken
-- and the caller's PKRU; or with what was written; or with the blocks of the heap
pub data Told : Type 0 where
  Refused : ℕ → Told
  Pages : ℕ → List (Option Rights) → List ℕ → Told
  Keys : ℕ → List ℕ → ℕ → Told
  Wrote : ℕ → List ℕ → Told
  Blocks : ℕ → List Span → Told

unfoldable pub taken : (ℕ → Bool) → ℕ → List ℕ
taken keys zero = []
taken keys (suc n) = if keys n then n ∷ taken keys n else taken keys n

abbrev pub keys_of : CallResult → Told
keys_of (Refusal e) = Refused e
keys_of (Answer v c) = Keys v (taken c.keys 16) c.pkru
keys_of (ThreadEnd status) = Refused 0
keys_of (Quit status) = Refused 0

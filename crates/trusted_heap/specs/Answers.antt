-- What a call on the trusted heap answers. Own.
use Rattle.std.specs.Prelude.{ℕ, List, Result, Ok, Err}
use Rattle.erim_defs.specs.declared.machine.Thread.{Thread}
use Rattle.erim_defs.specs.declared.trust.Span.{Span}
use Rattle.erim_defs.specs.Machine.CallResult.{CallResult, Refusal, Answer, no_change}
use Rattle.erim_defs.specs.Machine.State.{State}

-- what came of a call: an error, or an answer with these blocks
abbrev pub heap_answer : State → Thread → List Span → Result ℕ ℕ → CallResult
heap_answer s t blocks (Err e) = Refusal e
heap_answer s t blocks (Ok v) = Answer v (let c = no_change s t in record c { blocks = blocks })

-- What a call answers. Own.
use Rattle.std.specs.Prelude.{ℕ, List, Some, Result, Ok, Err}
use Rattle.erim_defs.specs.declared.machine.Thread.{Thread}
use Rattle.erim_defs.specs.Machine.CallResult.{CallResult, Refusal, Answer, no_change}
use Rattle.erim_defs.specs.Machine.State.{State}
use Rattle.erim_defs.specs.Machine.ThreadCalls.{new_thread}

-- what came of write: an error, or an answer with this output
abbrev pub wrote : State → Thread → List ℕ → Result ℕ ℕ → CallResult
wrote s t output (Err e) = Refusal e
wrote s t output (Ok v) = Answer v (let c = no_change s t in record c { output = output })

-- what came of clone: an error, or an answer with a new thread that has this stack
abbrev pub clone_answer : State → Thread → ℕ → Result ℕ ℕ → CallResult
clone_answer s t stack (Err e) = Refusal e
clone_answer s t stack (Ok v) =
    Answer v (let c = no_change s t in record c { clone = Some (new_thread t stack) })

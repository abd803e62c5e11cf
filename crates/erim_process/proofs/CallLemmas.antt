-- What a call makes of the state of a machine.
use Rattle.std.proofs.Common.{◌≡◌, ◌<◌, ◌++◌, ◌∷◌, [], ℕ, List, length, Result, Ok, Err}
use Rattle.std.proofs.Common.{None, false, OnErr, IfOk, refl, ap, ◌∙◌, sym, arith}
use Rattle.std.proofs.lemmas.List.{set-append_left, length-append}
use Rattle.erim_defs.specs.declared.machine.Keys.{Keys}
use Rattle.erim_defs.specs.declared.machine.Thread.{Thread}
use Rattle.erim_defs.specs.Inspection.Trust.{TrustValue}
use Rattle.erim_defs.specs.Machine.Pages.{ByteMap}
use Rattle.erim_defs.specs.Machine.Access.{Seen}
use Rattle.erim_defs.specs.Machine.CallResult.{CallResult}
use Rattle.erim_defs.specs.Machine.Registers.{with_register}
use Rattle.erim_defs.specs.Machine.State.{Setup, State, trust_of, with_origin}
use Rattle.erim_defs.specs.Machine.Step.{Runner, after_call, after_move}
use Rattle.erim_defs.specs.Machine.ThreadCalls.{new_thread}
use Rattle.map_calls.specs.KeyAnswers.{key_answer}
use Rattle.erim_defs.specs.Machine.Access.{rights_in}
use Rattle.page_store.specs.declared.memory.Memory.{Ghosts}
use Rattle.sys_calls.specs.Answers.{clone_answer, wrote}
use Rattle.erim_process.specs.declared.machine.Machine.{Machine}
use Rattle.erim_process.specs.Machine.{machine_state, rax_of, SamePages}

-- a machine whose pages alone were looked at is the same state
pub same_machine : {P : Type 0} (g : Ghosts P) (setup : Setup) (m m' : Machine P)
    → m' ≡ record m { pages = m'.pages } → SamePages g m.pages m'.pages
    → machine_state g setup m' ≡ machine_state g setup m
same_machine g setup m m' e same =
    ap (machine_state g setup) e
    ∙ ap (λ (seen : Seen). let s = machine_state g setup (record m { pages = m'.pages }) in
    record s { rights = rights_in seen }) same.0
    ∙ ap (λ (bytes : ByteMap). let s = machine_state g setup m in record s { bytes = bytes }) same.1

-- the caller goes on with this in RAX
abbrev pub goes_on : Runner → Thread → ℕ → State → State
goes_on r t value = after_move (record {
  runner = r;
  after = with_register t 0 value;
  executed = None;
  free = false;
})

-- a call on keys
pub key_call : {P : Type 0} (g : Ghosts P) (setup : Setup) (m : Machine P) (keys : Keys) (pkru : ℕ)
    (r : Runner) (t : Thread) (outcome : Result ℕ ℕ) (value : ℕ) (call : CallResult)
    → call ≡ key_answer (machine_state g setup m) t keys pkru outcome
    → OnErr outcome (keys ≡ m.keys) → OnErr outcome (pkru ≡ t.pkru) → value ≡ rax_of outcome
    → goes_on r (record t { pkru = pkru }) value (machine_state g setup (record m { keys = keys }))
    ≡ after_call call r t (machine_state g setup m)
key_call g setup m keys pkru r t (Ok v) value call told kept same e = rw (told, e) refl
key_call g setup m keys pkru r t (Err x) value call told kept same e =
    rw (told, e, kept, same) refl

-- write
pub write_call : {P : Type 0} (g : Ghosts P) (setup : Setup) (m : Machine P) (pages : P)
    (output : List ℕ) (r : Runner) (t : Thread) (outcome : Result ℕ ℕ) (value : ℕ)
    (call : CallResult)
    → call ≡ wrote (machine_state g setup m) t output outcome → OnErr outcome (output ≡ m.output)
    → SamePages g m.pages pages → value ≡ rax_of outcome
    → goes_on r t value (machine_state g setup (record m { pages = pages; output = output }))
    ≡ after_call call r t (machine_state g setup m)
write_call g setup m pages output r t outcome value call told kept same e =
    ap (goes_on r t value) (same_machine g setup (record m { output = output })
    (record m { pages = pages; output = output }) refl same)
    ∙ by_outcome outcome told kept e
  where
    by_outcome : (o : Result ℕ ℕ) → call ≡ wrote (machine_state g setup m) t output o
        → OnErr o (output ≡ m.output) → value ≡ rax_of o
        → goes_on r t value (machine_state g setup (record m { output = output }))
        ≡ after_call call r t (machine_state g setup m)
    by_outcome (Ok v) told kept e = rw (told, e) refl
    by_outcome (Err x) told kept e = rw (told, e, kept) refl

-- clone: the new thread stands after the others
pub clone_call : {P : Type 0} (g : Ghosts P) (setup : Setup) (m : Machine P)
    (trust : TrustValue) (threads : List Thread) (r : Runner) (t : Thread) (stack : ℕ)
    (outcome : Result ℕ ℕ) (value : ℕ) (call : CallResult)
    → call ≡ clone_answer (machine_state g setup m) t stack outcome
    → IfOk outcome (λ _. threads
    ≡ m.threads ++ with_origin trust None (new_thread t stack) ∷ [])
    → OnErr outcome (threads ≡ m.threads) → trust_of (machine_state g setup m) ≡ trust
    → r.number < length m.threads → value ≡ rax_of outcome
    → goes_on r t value (machine_state g setup (record m { threads = threads }))
    ≡ after_call call r t (machine_state g setup m)
clone_call g setup m trust threads r t stack (Err x) value call told grown kept same there e =
    rw (told, e, kept) refl
clone_call g setup m trust threads r t stack (Ok v) value call told grown kept same there e =
    let s : State = machine_state g setup m in
    let caller : Thread = with_origin (trust_of s) None (with_register t 0 v) in
    let made : Thread = with_origin (trust_of s) None (new_thread t stack) in
    let grows : threads ≡ m.threads ++ made ∷ [] =
    grown ∙ ap (λ (x : TrustValue). m.threads ++ with_origin x None (new_thread t stack) ∷ [])
    (sym same) in
    rw (told, e, grows)
    (ap (λ (ts : List Thread). let x = goes_on r t v s in record x { threads = ts })
    (set-append_left m.threads (made ∷ []) r.number caller there))

-- the caller is still there
pub clone_there : (old new more : List Thread) (t : ℕ) (outcome : Result ℕ ℕ)
    → IfOk outcome (λ _. new ≡ old ++ more) → OnErr outcome (new ≡ old) → t < length old
    → t < length new
clone_there old new more t (Ok v) grown kept there =
    rw (grown, length-append old more) (omega (arith, there))
clone_there old new more t (Err x) grown kept there = rw kept there

pub on_err : {P : Type 0} (outcome : Result ℕ ℕ) → P → OnErr outcome P
on_err (Ok v) p = tt
on_err (Err x) p = p

-- The contract of every function that executes. Own.
use Rattle.std.specs.Prelude.{◌≡◌, ℕ, Option, Some, None, Result, Ok, Err, List}
use Rattle.erim_defs.specs.declared.machine.Thread.{Thread}
use Rattle.erim_defs.specs.declared.machine.Access.{Access}
use Rattle.erim_defs.specs.Machine.Pages.{ByteMap}
use Rattle.erim_defs.specs.Machine.Plan.{Plan, Write, Effect, Done, Stopped, Called, effect}
use Rattle.erim_defs.specs.Machine.Plan.{bytes_after_write}
use Rattle.page_store.specs.Notes.{Notes}
use Rattle.page_store.specs.declared.memory.Memory.{Ghosts}
use Rattle.x86_step.specs.Looked.{looked_addresses}

abbrev pub write_of : Effect → Option Write
write_of (Done t w) = w
write_of (Stopped a) = None
write_of Called = None

-- a result, a thread and the bytes are what an effect makes of a thread and bytes
abbrev pub Comes : Result (Unit {0}) Access → Effect → Thread → Thread → ByteMap → ByteMap → Type 0
Comes (Ok u) d from to before after =
    (d ≡ Done to (write_of d)) × (after ≡ bytes_after_write (write_of d) before)
Comes (Err a) d from to before after = (d ≡ Stopped a) × (to ≡ from) × (after ≡ before)

-- what an execution leaves as it is
pub record Keeps {M : Type 0} (g : Ghosts M) (memory after : M) : Type 0 where
  pub seen : g.seen after ≡ g.seen memory
  pub frames : g.frames after ≡ g.frames memory
  pub first : g.first after ≡ g.first memory

-- a thread and a memory went from one state to another as a plan says
pub record Executes {M : Type 0} (g : Ghosts M) (p : Plan) (from to : Thread) (memory after : M)
    (result : Result (Unit {0}) Access) : Type 0 where
  pub comes : Comes result (effect p (g.seen memory) (g.bytes memory) from.pkru from.rip) from to
      (g.bytes memory) (g.bytes after)
  pub keeps : Keeps g memory after
  pub notes : Notes (g.seen memory) (g.notes memory) (g.notes after)
      (looked_addresses p (g.seen memory) (g.bytes memory) from.pkru)

-- A number was got: a plan that goes on with it is executed by what comes after. An access that
-- stopped stops the plan.
abbrev pub Gets : {M : Type 0} → Ghosts M → ((ℕ → Plan) → Plan) → Thread → M → M
    → Result ℕ Access → Type 0
Gets {M} g on t memory after (Ok v) =
    (k : ℕ → Plan) (to : Thread) (last : M) (r : Result (Unit {0}) Access)
    → Executes g (k v) t to after last r → Executes g (on k) t to memory last r
Gets g on t memory after (Err a) = (k : ℕ → Plan) → Executes g (on k) t t memory after (Err a)

-- Numbers were got, one after the other, alike.
abbrev pub GetsNumbers : {M : Type 0} → Ghosts M → ((List ℕ → Plan) → Plan) → Thread → M → M
    → Result (List ℕ) Access → Type 0
GetsNumbers {M} g on t memory after (Ok xs) =
    (k : List ℕ → Plan) (to : Thread) (last : M) (r : Result (Unit {0}) Access)
    → Executes g (k xs) t to after last r → Executes g (on k) t to memory last r
GetsNumbers g on t memory after (Err a) =
    (k : List ℕ → Plan) → Executes g (on k) t t memory after (Err a)

-- A result was stored, where it is to be, and the thread has still to become what it is to be: that
-- executes a plan. An access that stopped stops it.
abbrev pub Puts : {M : Type 0} → Ghosts M → (Thread → Plan) → (Thread → Thread) → Thread → M → M
    → Result (Unit {0}) Access → Type 0
Puts g on to t memory after (Ok u) =
    (next last : Thread) → last ≡ to next → Executes g (on next) t last memory after (Ok u)
Puts g on to t memory after (Err a) =
    (next : Thread) → Executes g (on next) t t memory after (Err a)

abbrev pub write_at : ℕ → ℕ → ℕ → Option Write
write_at a n value = Some (record { addr = a; count = n; value = value })

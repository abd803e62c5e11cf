-- Whose steps a journal has, after runs by workers.
use Rattle.std.proofs.Common.{◌≡◌, ◌++◌, ◌∷◌, ◌&&◌, ℕ, List, [], true, subst, sym, arith}
use Rattle.std.specs.Prelude.{nat_le, nat_lt}
use Rattle.std.proofs.lemmas.Bool.{and_parts, leb-true}
use Rattle.erim_defs.specs.declared.machine.Entry.{Entry}
use Rattle.erim_defs.specs.Machine.Replay.{AreAlone}
use Rattle.erim_process.specs.ProcessValue.{ProcessValue}
use Rattle.publish_lock.specs.Rules.{are_of_workers}
use Rattle.thread_runner.specs.Running.{AreWithin, LeadsBySlices}

-- workers from 1 to a number are none above it
pub workers_within : (most : ℕ) (entries : List Entry) → are_of_workers most entries ≡ true
    → AreWithin most entries
workers_within most [] h = tt
workers_within most (e ∷ entries) h =
    let parts = and_parts (nat_lt 0 e.worker && nat_le e.worker most) (are_of_workers most entries)
    h in (
      leb-true e.worker most (and_parts (nat_lt 0 e.worker) (nat_le e.worker most) parts.0).1,
      workers_within most entries parts.1,
    )

alone_within : (most : ℕ) (entries : List Entry) → AreAlone entries → AreWithin most entries
alone_within most [] h = tt
alone_within most (e ∷ entries) h =
    (let zero = h.0 in omega (arith, zero), alone_within most entries h.1)

within_and : (most : ℕ) (old added : List Entry) → AreWithin most old → AreAlone added
    → AreWithin most (old ++ added)
within_and most [] added within alone = alone_within most added alone
within_and most (e ∷ old) added within alone =
    (within.0, within_and most old added within.1 alone)

-- and steps of worker 0 add none
pub within_more : (most quantum : ℕ) (old new : ProcessValue) → AreWithin most old.journal
    → LeadsBySlices quantum old new → AreWithin most new.journal
within_more most quantum old new within leads =
    subst (AreWithin most) (sym leads.1.journal)
    (within_and most old.journal leads.1.added within leads.1.alone)

-- a process that was just started has no steps
pub within_none : (most : ℕ) (entries : List Entry) → entries ≡ [] → AreWithin most entries
within_none most entries none = subst (AreWithin most) (sym none) tt

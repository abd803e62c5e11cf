-- The state that a machine holds.
use Rattle.std.specs.Prelude.{◌≡◌, ℕ, ◌-◌, ◌^◌, slice_set, Bool, Result}
use Rattle.std.specs.Prelude.{Ok, Err}
use Rattle.erim_defs.specs.declared.insn.FetchOutcome.{FetchOutcome}
use Rattle.erim_defs.specs.declared.insn.FetchOutcome.TheVariants.{Runs, Need, Wrong}
use Rattle.erim_defs.specs.Bits.{has_bit}
use Rattle.erim_defs.specs.Inspection.Trust.{TrustValue}
use Rattle.erim_defs.specs.Inspection.Image.{image_heaps, image_trust}
use Rattle.erim_defs.specs.declared.machine.Thread.{Thread}
use Rattle.erim_defs.specs.Machine.State.{Setup, State, first_escape}
use Rattle.erim_defs.specs.Machine.Access.{rights_in}
use Rattle.page_store.specs.declared.memory.Memory.{Ghosts}
use Rattle.x86_step.specs.Reach.{IsInReach}
use Rattle.erim_process.specs.declared.machine.Machine.{Machine}

abbrev pub machine_state : {P : Type 0} → Ghosts P → Setup → Machine P → State
machine_state g setup m = record {
  setup = setup;
  rights = rights_in (g.seen m.pages);
  bytes = g.bytes m.pages;
  threads = m.threads;
  keys = λ k. has_bit m.keys.taken k;
  blocks = m.heap.blocks;
  output = m.output;
  end = m.end;
  steps = m.steps;
  escape = m.escape;
}

-- the machine of an image with this trust and these ranges of trusted heap, whose pages have the
-- setup's frames, becomes, as a state, what a function makes of its state
abbrev pub Becomes : {P : Type 0} → Ghosts P → TrustValue → Machine P → Machine P → (State → State)
    → Type 0
Becomes g trust old new f =
    (setup : Setup) → image_trust setup.image ≡ trust → setup.frames ≡ g.frames old.pages
    → image_heaps setup.image ≡ old.heap.heaps
    → machine_state g setup new ≡ f (machine_state g setup old)

-- the steps, the ranges of trusted heap and the frames stay
pub record KeepsLimits {P : Type 0} (g : Ghosts P) (old new : Machine P) : Type 0 where
  pub steps : new.steps ≡ old.steps
  pub heaps : new.heap.heaps ≡ old.heap.heaps
  pub frames : g.frames new.pages ≡ g.frames old.pages

-- thread t is another from now on, and the first escape is kept
abbrev pub with_thread : ℕ → Thread → Bool → State → State
with_thread t thread escaped s = record s {
  threads = slice_set s.threads t thread;
  escape = first_escape s.escape escaped
      (record { step = s.steps; thread = t; rip = thread.rip });
}

-- where an instruction that was fetched stands, and how long it may be
abbrev pub IsBounded : FetchOutcome → ℕ → Type 0
IsBounded (Runs insn len skip) rip = IsInReach rip len skip
IsBounded (Need addr) rip = Unit {0}
IsBounded Wrong rip = Unit {0}

-- two memories say the same
abbrev pub SamePages : {P : Type 0} → Ghosts P → P → P → Type 0
SamePages g old new = (g.seen new ≡ g.seen old) × (g.bytes new ≡ g.bytes old)
    × (g.frames new ≡ g.frames old)

-- what RAX gets of a call
abbrev pub rax_of : Result ℕ ℕ → ℕ
rax_of (Ok v) = v
rax_of (Err e) = 2 ^ 64 - e

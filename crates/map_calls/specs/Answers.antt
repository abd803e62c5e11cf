-- What a mapping call sees and answers. Own.
use Rattle.std.specs.Prelude.{◌≡◌, ℕ, List, Result, Ok, Err}
use Rattle.erim_defs.specs.declared.machine.Thread.{Thread}
use Rattle.erim_defs.specs.Inspection.Trust.{TrustValue}
use Rattle.erim_defs.specs.Machine.CallResult.{CallResult, Refusal, Answer, no_change}
use Rattle.erim_defs.specs.Machine.State.{State, trust_of}
use Rattle.erim_defs.specs.Machine.Access.{rights_in}
use Rattle.page_store.specs.declared.memory.Memory.{Ghosts}

-- the state that a call sees
pub record Sees {P : Type 0} (g : Ghosts P) (text : TrustValue) (pages : P) (ts : List Thread)
    (s : State) : Type 0 where
  pub rights : s.rights ≡ rights_in (g.seen pages)
  pub bytes : s.bytes ≡ g.bytes pages
  pub frames : s.setup.frames ≡ g.frames pages
  pub threads : s.threads ≡ ts
  pub trust : trust_of s ≡ text

-- what it gave, with the pages afterwards
abbrev pub map_answer : {P : Type 0} → Ghosts P → State → Thread → P → Result ℕ ℕ → CallResult
map_answer g s t new (Err e) = Refusal e
map_answer g s t new (Ok v) = Answer v (let c = no_change s t in record c {
  rights = rights_in (g.seen new);
  bytes = g.bytes new;
})

-- the pages say the same
abbrev pub SayTheSame : {P : Type 0} → Ghosts P → P → P → Type 0
SayTheSame g old new = (g.seen new ≡ g.seen old) × (g.bytes new ≡ g.bytes old)

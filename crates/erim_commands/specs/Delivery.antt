-- How a reply is delivered, and how a plan is carried out. Own.
use Rattle.std.specs.Prelude.{◌≡◌, ◌⊎◌, ◌≤◌, ◌<◌, ℕ, Option, Some, None, List, [], ◌∷◌, ◌++◌}
use Rattle.std.specs.Prelude.{length, codes}
use Rattle.std.specs.Io.KnownBytes.{Appends, Keeps}
use Rattle.erim_io.specs.Store.{Name, Files, Holds, holding, KeepsOthers}
use Rattle.erim_io.specs.Sink.{HasRisen, AppendsPart}
use Rattle.erim_io.specs.declared.store.Store.{Ghosts as StoreMeanings}
use Rattle.erim_io.specs.declared.sink.Sink.{Ghosts as SinkMeanings}
use Rattle.erim_defs.specs.Encoding.Parts.{AreBytes}
use Rattle.erim_defs.specs.Output.Texts.{error_line}
use Rattle.erim_commands.specs.Statuses.{code_of}
use Rattle.erim_commands.specs.Replies.{Saved, Reply}
use Rattle.erim_commands.specs.Plans.{Plan, Ask, Tell}

-- what store and sink say at a moment
pub record World : Type 0 where
  pub held : Option Files
  pub failed_loads : List Name
  pub failed_saves : List Name
  pub written : Option (List ℕ)
  pub faults : ℕ

abbrev pub world : {S K : Type 0} → StoreMeanings S → SinkMeanings K → S → K → World
world of_store of_sink store out = record {
  held = of_store.held store;
  failed_loads = of_store.failed_loads store;
  failed_saves = of_store.failed_saves store;
  written = of_sink.written out;
  faults = of_sink.faults out;
}

-- ---- files

-- what is held once a reply's file is saved
abbrev pub held_after : Option Saved → Option Files → Option Files
held_after None held = held
held_after (Some file) held = holding file.name file.bytes held

-- what is held is that file more, and the lists of faults stay
pub record KeepsStore (save : Option Saved) (old new : World) : Type 0 where
  pub held : new.held ≡ held_after save old.held
  pub loads : new.failed_loads ≡ old.failed_loads
  pub saves : new.failed_saves ≡ old.failed_saves

-- ---- how a call ends

-- the reply was written whole and its file saved, and nothing failed
pub record IsAnswered (reply : Reply) (old new : World) : Type 0 where
  pub text : Appends old.written new.written reply.text
  pub store : KeepsStore reply.save old new
  pub puts : new.faults ≡ old.faults

-- a put failed: the count rose; a prefix of the reply was written, and its file is saved
pub record IsCutShort (reply : Reply) (old new : World) : Type 0 where
  pub text : AppendsPart old.written new.written reply.text
  pub store : KeepsStore reply.save old new
  pub puts : HasRisen old.faults new.faults

-- a line was put whole, or a prefix of it where the count rose
abbrev pub PutsLine : List ℕ → World → World → Type 0
PutsLine text old new =
    (Appends old.written new.written text × (new.faults ≡ old.faults))
    ⊎ (AppendsPart old.written new.written text × HasRisen old.faults new.faults)

-- the load of a name failed: it joined the list, and a line says so
pub record HasNotLoaded (name : Name) (old new : World) : Type 0 where
  pub loads : new.failed_loads ≡ old.failed_loads ++ name ∷ []
  pub saves : new.failed_saves ≡ old.failed_saves
  pub held : new.held ≡ old.held
  pub line : PutsLine (error_line (codes "load failed")) old new

-- the save under a name failed: it joined the list, and a line says so
pub record HasNotSaved (name : Name) (old new : World) : Type 0 where
  pub loads : new.failed_loads ≡ old.failed_loads
  pub saves : new.failed_saves ≡ old.failed_saves ++ name ∷ []
  pub held : KeepsOthers name old.held new.held
  pub line : PutsLine (error_line (codes "save failed")) old new

-- the save of a reply's file failed
abbrev pub HasNotKept : Option Saved → World → World → Type 0
HasNotKept None old new = ⊥
HasNotKept (Some file) old new = HasNotSaved file.name old new

-- nothing was written, nothing saved, and nothing failed
pub record IsUntouched (old new : World) : Type 0 where
  pub text : Keeps old.written new.written
  pub store : KeepsStore None old new
  pub puts : new.faults ≡ old.faults

-- a reply was delivered: whole, with its status; 4 where its save or a put of it failed; 5 where
-- memory ran out
abbrev pub Delivers : Reply → World → World → ℕ → Type 0
Delivers reply old new status =
    ((status ≡ code_of reply.status) × IsAnswered reply old new)
    ⊎ (((status ≡ 4) × (HasNotKept reply.save old new ⊎ IsCutShort reply old new))
    ⊎ ((status ≡ 5) × IsUntouched old new))

-- ---- how a plan is carried out, by the replies that its end may have

-- a file of more bytes than the limit is held under a name
abbrev pub HoldsMore : Name → ℕ → Option Files → Type 0
HoldsMore name limit held =
    (bytes : List ℕ) × Holds held name (Some bytes) × (limit < length bytes)

-- a reply of an answer was delivered
abbrev pub Answers : {A : Type 0} → (A → Reply → Type 0) → A → World → World → ℕ → Type 0
Answers IsAnswer a old new status =
    (reply : Reply) × IsAnswer a reply × Delivers reply old new status

-- a plan was carried out. A store that says nothing of its files holds any bytes under each name
-- (`Holds None` is ⊤): over it that a file was loaded means only that there are some bytes, within
-- the limit, by which the plan went on, and that one was too large only that some are larger
abbrev pub Carries : {A : Type 0} → (A → Reply → Type 0) → Plan A → World → World → ℕ → Type 0
Carries IsAnswer (Tell a) old new status =
    -- its end was answered
    Answers IsAnswer a old new status
    -- memory ran out
    ⊎ ((status ≡ 5) × IsUntouched old new)
Carries IsAnswer (Ask name limit too_large next) old new status =
    -- the file was loaded, and the plan went on
    ((bytes : List ℕ)
    × Holds old.held name (Some bytes)
    × (length bytes ≤ limit)
    × AreBytes bytes
    × Carries IsAnswer (next bytes) old new status)
    -- it was too large
    ⊎ ((HoldsMore name limit old.held × Answers IsAnswer too_large old new status)
    -- its load failed
    ⊎ (((status ≡ 4) × HasNotLoaded name old new)
    -- memory ran out
    ⊎ ((status ≡ 5) × IsUntouched old new)))

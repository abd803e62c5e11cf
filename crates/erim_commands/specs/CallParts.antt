-- What the parts of a call do: a put, a save, a load, and the steps of a plan. Own.
use Rattle.std.specs.Prelude.{◌≡◌, ◌⊎◌, ◌≤◌, ⊤, ℕ, Option, Some, None, Result, Ok, Err, List}
use Rattle.std.specs.Prelude.{length, Vec}
use Rattle.std.specs.Io.KnownBytes.{Appends}
use Rattle.erim_io.specs.Store.{Name, Files, Holds, noted_save, LeavesHeld}
use Rattle.erim_io.specs.Sink.{HasRisen, AppendsPart}
use Rattle.erim_io.specs.declared.store.SaveFault.{SaveFault}
use Rattle.erim_defs.specs.declared.fault.ImageFault.TheVariants as faults
use Rattle.erim_defs.specs.declared.memory.NoMemory.{NoMemory}
use Rattle.erim_defs.specs.Encoding.Parts.{AreBytes}
use Rattle.erim_defs.specs.Rewriting.Rewriting.{Fault, NotImage}
use Rattle.erim_defs.specs.Rewriting.Rewriting as definitions
use Rattle.overlap_rewrite.specs.declared.rewriting.RewriteFault.{RewriteFault}
use Rattle.overlap_rewrite.specs.declared.rewriting.RewriteFault.TheVariants.{Image, Cannot}
use Rattle.overlap_rewrite.specs.declared.rewriting.RewriteFault.TheVariants.{NoRoom, Memory}
use Rattle.erim_commands.specs.declared.reply.Reply.{Reply as CodeReply}
use Rattle.erim_commands.specs.declared.reply.Save.{Save as File}
use Rattle.erim_commands.specs.Replies.{Saved, Reply, Answer, IsAnswer}
use Rattle.erim_commands.specs.Plans.{Plan, Ask, Tell}
use Rattle.erim_commands.specs.Delivery.{World, IsUntouched, HasNotLoaded, Delivers, HoldsMore}
use Rattle.erim_commands.specs.Delivery.{Carries}

-- ---- a reply of the code

abbrev pub save_of : Option File → Option Saved
save_of None = None
save_of (Some file) = Some (record { name = file.name.now; bytes = file.bytes.items })

abbrev pub reply_of : CodeReply → Reply
reply_of r = record { status = r.status; text = r.text.items; save = save_of r.save }

-- ---- a cause of the code

-- for which an image isn't rewritten; out of memory is never said
abbrev pub fault_of : RewriteFault → Fault
fault_of (Image fault) = NotImage fault
fault_of (Cannot at why) = definitions.Cannot at why
fault_of (NoRoom at) = definitions.NoRoom at
fault_of Memory = NotImage faults.Memory

-- ---- puts, saves and loads

-- a text was put: whole, and the count of faults stays, with its status; or a prefix with status 4,
-- and the count rose
abbrev pub Puts : ℕ → List ℕ → Option (List ℕ) → Option (List ℕ) → ℕ → ℕ → ℕ → Type 0
Puts status text old new faults_old faults_new result =
    ((result ≡ status) × Appends old new text × (faults_new ≡ faults_old))
    ⊎ ((result ≡ 4) × AppendsPart old new text × HasRisen faults_old faults_new)

-- a reply's file was to be saved
abbrev pub SavesHeld : Option Saved → Result (Unit {0}) SaveFault → Option Files → Option Files
    → Type 0
SavesHeld None result old new = (result ≡ Ok tt) × (new ≡ old)
SavesHeld (Some file) result old new = LeavesHeld result file.name file.bytes old new

-- the names of the failed saves then
abbrev pub noted_file : Option Saved → Result (Unit {0}) SaveFault → List Name → List Name
noted_file None result names = names
noted_file (Some file) result names = noted_save result file.name names

-- a file was loaded, which changed nothing; or the call ended without it
abbrev pub Loads : {Z : Type 0} → Name → ℕ → Reply → World → World → Result (Vec ℕ Z) ℕ → Type 0
Loads name limit too_large old new (Ok bytes) =
    (new ≡ old) × Holds old.held name (Some bytes.items) × (length bytes.items ≤ limit)
    × AreBytes bytes.items
Loads name limit too_large old new (Err status) =
    (HoldsMore name limit old.held × Delivers too_large old new status)
    ⊎ (((status ≡ 4) × HasNotLoaded name old new)
    ⊎ ((status ≡ 5) × IsUntouched old new))

-- ---- steps of plans

-- the plan loads nothing more, and may answer this
abbrev pub EndsAs : Plan Answer → Reply → Type 0
EndsAs (Tell a) reply = IsAnswer a reply
EndsAs (Ask name limit too_large next) reply = ⊥

-- a reply with which the plan may end, or out of memory
abbrev pub IsReplyFor : Plan Answer → Result CodeReply NoMemory → Type 0
IsReplyFor plan (Ok reply) = EndsAs plan (reply_of reply)
IsReplyFor plan (Err none) = ⊤

-- a step that loads and reads a file: it gave what was read and changed nothing, and what then
-- carries out the rest carries out the whole; or it carried out the whole, whatever was to follow
abbrev pub Passes : {X : Type 0} → ((X → Plan Answer) → Plan Answer) → World → World → Result X ℕ
    → Type 0
Passes {X = X} step old new (Ok x) =
    (new ≡ old)
    × ((next : X → Plan Answer) (later : World) (status : ℕ)
    → Carries IsAnswer (next x) old later status
    → Carries IsAnswer (step next) old later status)
Passes {X = X} step old new (Err status) =
    (next : X → Plan Answer) → Carries IsAnswer (step next) old new status

-- What the end of a call says, status by status: of each plan, and of each command.
use Rattle.std.specs.Prelude.{◌≡◌, ◌≢◌, ◌⊎◌, ◌↔◌, nat_lt, ℕ, Option, Some, None, List, []}
use Rattle.std.specs.Prelude.{◌∷◌, ◌++◌, length, Result, Ok, Err, if◌then◌else◌}
use Rattle.std.specs.Option.{option_map}
use Rattle.std.specs.Io.KnownBytes.{Appends}
use Rattle.erim_io.specs.Store.{Name, Files, holding}
use Rattle.erim_io.specs.Sink.{HasRisen}
use Rattle.erim_defs.specs.declared.limits.TheConstants.{USUAL_WORKERS}
use Rattle.erim_defs.specs.declared.machine.Entry.{Entry}
use Rattle.erim_defs.specs.Encoding.Disasm.{disasm_text}
use Rattle.erim_defs.specs.Inspection.Code.{or_else}
use Rattle.erim_defs.specs.Inspection.Image.{IsAccepted}
use Rattle.erim_defs.specs.Inspection.Unsafe.{image_list}
use Rattle.erim_defs.specs.Machine.State.{Setup, State}
use Rattle.erim_defs.specs.Output.Journal.{IsJournal, journal_of, journal_text}
use Rattle.erim_defs.specs.Output.GeneratedImage.{seed_image}
use Rattle.erim_defs.specs.Output.GeneratedTexts.{gen_line, soak_line}
use Rattle.erim_defs.specs.Output.Report.{report}
use Rattle.erim_defs.specs.Output.Texts.{inspect_text}
use Rattle.erim_defs.specs.Output.RewriteTexts.{rewrite_text, rewrote_line}
use Rattle.erim_defs.specs.Output.Words.{Command, Inspect, Disasm, Run, Replay, Rewrite, Gen, Soak}
use Rattle.erim_defs.specs.Rewriting.Rewriting.{Fault, Rewritten, rewriting}
use Rattle.erim_defs.specs.Machine.ReplayFaults.{replay_fault}
use Rattle.erim_commands.specs.declared.reply.Status.{Status}
use Rattle.erim_commands.specs.declared.reply.Status.TheVariants.{ImageRefused, JournalRefused}
use Rattle.erim_commands.specs.declared.reply.Status.TheVariants.{RewriteRefused}
use Rattle.erim_commands.specs.Statuses.{code_of}
use Rattle.erim_commands.specs.Replies.{Answer, IsAnswer, Reply, line_reply, start_refusal}
use Rattle.erim_commands.specs.Replies.{break_status, break_text, list_status, end_status}
use Rattle.erim_commands.specs.Replies.{run_journal, IsWholeRun, IsOwnRun, replay_reply}
use Rattle.erim_commands.specs.Replies.{rewrite_status}
use Rattle.erim_commands.specs.Plans.{Plan, end_of}
use Rattle.erim_commands.specs.Commands.{Format, image_format, journal_format, plan_for, plan_of}
use Rattle.erim_commands.specs.Commands.{replay_setup, run_setup, soak_setup}
use Rattle.erim_commands.specs.Delivery.{World, Carries, IsAnswered, IsUntouched}

-- ---- of each plan

-- neither a fault nor out of memory ended the call
abbrev pub IsReplying : ℕ → Type 0
IsReplying status = (status ≢ 4) × (status ≢ 5)

-- a reply of this end of a plan was delivered whole, with its status
pub record IsReplied {A : Type 0} (IsAnswer : A → Reply → Type 0) (a : A) (old new : World)
    (status : ℕ) : Type 0 where
  pub reply : Reply
  pub answer : IsAnswer a reply
  pub code : status ≡ code_of reply.status
  pub whole : IsAnswered reply old new

-- over files that the store says, a status but 4 and 5 is that of the plan's end
abbrev pub TellsEnd : {A : Type 0} → (A → Reply → Type 0) → Plan A → World → World → ℕ → Type 0
TellsEnd {A = A} IsAnswer plan old new status =
    (files : Files) → old.held ≡ Some files → IsReplying status
    → (a : A) × (end_of plan files ≡ Some a) × IsReplied IsAnswer a old new status

-- no load, no save and no put failed
pub record IsFaultless (old new : World) : Type 0 where
  pub loads : new.failed_loads ≡ old.failed_loads
  pub saves : new.failed_saves ≡ old.failed_saves
  pub puts : new.faults ≡ old.faults

-- 4 always where something failed
abbrev pub TellsFaultless : World → World → ℕ → Type 0
TellsFaultless old new status = status ≢ 4 → IsFaultless old new

-- 5 where nothing was written, nothing saved, and nothing failed
abbrev pub TellsMemory : World → World → ℕ → Type 0
TellsMemory old new status = status ≡ 5 → IsUntouched old new

-- ---- words

-- 2 exactly where the words mean no command
abbrev pub TellsWords : Option Command → ℕ → Type 0
TellsWords words status = IsReplying status → ((status ≡ 2) ↔ (words ≡ None))

-- ---- what each command refuses

-- by the bytes of a file, where it is there
abbrev pub of_file : {B : Type 0} → Option (List ℕ) → (List ℕ → Option B) → Option B
of_file None f = None
of_file (Some bytes) f = f bytes

-- why bytes are no file of a format: they are too many, or have a fault
abbrev pub reading_refusal : {X : Type 0} → Format X → List ℕ → Option (List ℕ)
reading_refusal format bytes =
    if nat_lt format.limit (length bytes) then Some format.too_large else format.fault bytes

-- the reply that says why, where there is a cause
abbrev pub refusal_as : Status → Option (List ℕ) → Option Reply
refusal_as status cause = option_map (line_reply status) cause

-- the reply that says what breaks a replay
abbrev pub replay_refusal : Setup → List Entry → Option Reply
replay_refusal setup entries =
    option_map (λ fault. line_reply (break_status fault) (break_text fault))
    (replay_fault setup entries)

-- reads a journal, and then replays it
abbrev pub saved_refusal : List ℕ → List ℕ → Option Reply
saved_refusal bytes saved =
    or_else (refusal_as JournalRefused (reading_refusal journal_format saved))
    (replay_refusal (replay_setup bytes (journal_of saved)) (journal_of saved).entries)

-- the reply that says why there is no rewritten image, where there is none
abbrev pub rewriting_refusal : Result Rewritten Fault → Option Reply
rewriting_refusal (Ok r) = None
rewriting_refusal (Err fault) = Some (line_reply (rewrite_status fault) (rewrite_text fault))

-- why a command does nothing, over files that the store says: the first cause in its order. The
-- order of the causes stands in `plan_of` too, and the lemma `tells_refusal` ties both: a plan that
-- was carried out with an answer but 4 and 5 answered with the status of this cause.
unfoldable pub refusal : Command → Files → Option Reply
refusal (Inspect image) files =
    of_file (files image) (λ bytes. refusal_as ImageRefused (reading_refusal image_format bytes))
refusal (Disasm image) files =
    of_file (files image) (λ bytes. refusal_as ImageRefused (reading_refusal image_format bytes))
refusal (Run image journal workers steps frames) files =
    of_file (files image)
    (λ bytes. refusal_as ImageRefused
    (or_else (reading_refusal image_format bytes) (start_refusal (run_setup bytes steps frames))))
refusal (Replay image journal) files =
    of_file (files image)
    (λ bytes. or_else (refusal_as ImageRefused (reading_refusal image_format bytes))
    (of_file (files journal) (saved_refusal bytes)))
refusal (Rewrite image out) files =
    of_file (files image)
    (λ bytes. or_else (refusal_as ImageRefused (reading_refusal image_format bytes))
    (rewriting_refusal (rewriting bytes)))
refusal (Gen seed out) files = None
refusal (Soak seed journal) files = None

-- the words mean this command, and the store says these files
pub record IsAbout (words : Option Command) (command : Command) (old : World) (files : Files)
    : Type 0 where
  pub meant : words ≡ Some command
  pub held : old.held ≡ Some files

-- there is a cause, of this status
abbrev pub IsRefusedAs : Status → Option Reply → Type 0
IsRefusedAs status refusal = (text : List ℕ) × (refusal ≡ Some (line_reply status text))

-- 3 exactly where the image is refused, 6 exactly where the journal is, and 8 exactly where an
-- accepted image can't be rewritten
abbrev pub TellsRefusal : Status → Option Command → World → ℕ → Type 0
TellsRefusal why words old status =
    (command : Command) (files : Files) → IsAbout words command old files → IsReplying status
    → ((status ≡ code_of why) ↔ IsRefusedAs why (refusal command files))

-- ---- what each command shows

-- the text of the unsafe list of the image code was added to what was written, with its status
pub record ShowsList (bytes : List ℕ) (old new : World) (status : ℕ) : Type 0 where
  pub answer : status ≡ code_of (list_status (image_list bytes))
  pub text : Appends old.written new.written (inspect_text (image_list bytes))

-- the text of the image's instructions was added to what was written
pub record ShowsInstructions (bytes : List ℕ) (old new : World) (status : ℕ) : Type 0 where
  pub answer : status ≡ 0
  pub text : Appends old.written new.written (disasm_text bytes)

-- over all files with this image and this journal, `replay` ends with this reply and no other
abbrev pub ReplaysTo : List ℕ → List ℕ → Reply → Type 0
ReplaysTo bytes saved reply =
    (image journal : Name) (files : Files) → files image ≡ Some bytes → files journal ≡ Some saved
    → (a : Answer) × (end_of (plan_of (Replay image journal)) files ≡ Some a)
    × ((r : Reply) → IsAnswer a r ↔ (r ≡ reply))

-- the journal of a run from the setup was saved under its name, and nothing else; a text of the run
-- was added to what was written; the status is that of its end, and 7 where it has none. To replay
-- what was saved prints the report of this run, with this status.
pub record ShowsRun (text_of : List Entry → State → List ℕ) (journal : Name) (workers : ℕ)
    (setup : Setup) (old new : World) (status : ℕ) : Type 0 where
  pub entries : List Entry
  pub last : State
  pub own : IsOwnRun workers setup entries last
  pub saved : new.held ≡ holding journal (journal_text (run_journal setup entries)) old.held
  pub text : Appends old.written new.written (text_of entries last)
  pub answer : status ≡ code_of (end_status last.end)
  pub spent : (status ≡ 7) ↔ (last.end ≡ None)
  pub again : ReplaysTo setup.image (journal_text (run_journal setup entries))
      (replay_reply entries last)

-- the entries of the journal that was loaded lead from its setup to an end or to where the budget
-- is spent; the report was added to what was written; the status is that of the end, and 7 where
-- there is none. What was loaded is the text of that journal.
pub record ShowsReplay (bytes saved : List ℕ) (old new : World) (status : ℕ) : Type 0 where
  pub last : State
  pub whole : IsWholeRun (replay_setup bytes (journal_of saved)) (journal_of saved).entries last
  pub text : Appends old.written new.written (report (journal_of saved).entries last)
  pub answer : status ≡ code_of (end_status last.end)
  pub spent : (status ≡ 7) ↔ (last.end ≡ None)
  pub spelling : IsJournal (journal_of saved) × (saved ≡ journal_text (journal_of saved))

-- the rewritten image was saved under its name, and nothing else: it is accepted, and nothing of it
-- is unsafe; at how many sites it was rewritten was added to what was written
pub record ShowsRewritten (bytes : List ℕ) (out : Name) (old new : World)
    (status : ℕ) : Type 0 where
  pub is : Rewritten
  pub made : rewriting bytes ≡ Ok is
  pub accepted : IsAccepted is.bytes
  pub clean : image_list is.bytes ≡ []
  pub answer : status ≡ 0
  pub saved : new.held ≡ holding out is.bytes old.held
  pub text : Appends old.written new.written (rewrote_line (length is.regions))

-- the generated image was saved under its name, and nothing else; its line was added
pub record ShowsImage (seed : ℕ) (out : Name) (old new : World) (status : ℕ) : Type 0 where
  pub answer : status ≡ 0
  pub saved : new.held ≡ holding out (seed_image seed) old.held
  pub text : Appends old.written new.written (gen_line seed (length (seed_image seed)))

-- the bytes of each file that a command loads, and what it shows of them. That the store stays at
-- `inspect`, `disasm` and `replay` is said by the clause `end`: the replies at the ends of their
-- plans have no file.
abbrev pub Shows : Command → Files → World → World → ℕ → Type 0
Shows (Inspect image) files old new status =
    (bytes : List ℕ) × (files image ≡ Some bytes) × ShowsList bytes old new status
Shows (Disasm image) files old new status =
    (bytes : List ℕ) × (files image ≡ Some bytes) × ShowsInstructions bytes old new status
Shows (Run image journal workers steps frames) files old new status =
    (bytes : List ℕ)
    × (files image ≡ Some bytes)
    × ShowsRun report journal workers (run_setup bytes steps frames) old new status
Shows (Replay image journal) files old new status =
    (bytes saved : List ℕ)
    × (files image ≡ Some bytes)
    × (files journal ≡ Some saved)
    × ShowsReplay bytes saved old new status
Shows (Rewrite image out) files old new status =
    (bytes : List ℕ) × (files image ≡ Some bytes) × ShowsRewritten bytes out old new status
Shows (Gen seed out) files old new status = ShowsImage seed out old new status
Shows (Soak seed journal) files old new status =
    ShowsRun (λ entries s. soak_line seed s) journal USUAL_WORKERS (soak_setup seed) old new status

-- a command that isn't refused shows what it found
abbrev pub TellsWork : Option Command → World → World → ℕ → Type 0
TellsWork words old new status =
    (command : Command) (files : Files) → IsAbout words command old files
    → refusal command files ≡ None → IsReplying status → Shows command files old new status

-- ---- what fails

-- the names that a command loads
abbrev pub IsLoadedBy : Option Command → Name → Type 0
IsLoadedBy None name = ⊥
IsLoadedBy (Some (Inspect image)) name = name ≡ image
IsLoadedBy (Some (Disasm image)) name = name ≡ image
IsLoadedBy (Some (Run image journal workers steps frames)) name = name ≡ image
IsLoadedBy (Some (Replay image journal)) name = (name ≡ image) ⊎ (name ≡ journal)
IsLoadedBy (Some (Rewrite image out)) name = name ≡ image
IsLoadedBy (Some (Gen seed out)) name = ⊥
IsLoadedBy (Some (Soak seed journal)) name = ⊥

-- the names that a command saves
abbrev pub IsSavedBy : Option Command → Name → Type 0
IsSavedBy None name = ⊥
IsSavedBy (Some (Inspect image)) name = ⊥
IsSavedBy (Some (Disasm image)) name = ⊥
IsSavedBy (Some (Run image journal workers steps frames)) name = name ≡ journal
IsSavedBy (Some (Replay image journal)) name = ⊥
IsSavedBy (Some (Rewrite image out)) name = name ≡ out
IsSavedBy (Some (Gen seed out)) name = name ≡ out
IsSavedBy (Some (Soak seed journal)) name = name ≡ journal

-- a name that the command loads joined the failed loads, and nothing the failed saves
abbrev pub GainsLoad : Option Command → World → World → Type 0
GainsLoad words old new =
    (name : Name) × IsLoadedBy words name
    × (new.failed_loads ≡ old.failed_loads ++ name ∷ []) × (new.failed_saves ≡ old.failed_saves)

-- a name that the command saves joined the failed saves, and nothing the failed loads
abbrev pub GainsSave : Option Command → World → World → Type 0
GainsSave words old new =
    (name : Name) × IsSavedBy words name
    × (new.failed_saves ≡ old.failed_saves ++ name ∷ []) × (new.failed_loads ≡ old.failed_loads)

-- a put failed: the sink's count rose, and nothing joined a list
abbrev pub CountsPut : World → World → Type 0
CountsPut old new =
    (new.failed_loads ≡ old.failed_loads) × (new.failed_saves ≡ old.failed_saves)
    × HasRisen old.faults new.faults

-- 4 only where one load or one save of the command failed, or a put
abbrev pub TellsFault : Option Command → World → World → ℕ → Type 0
TellsFault words old new status =
    status ≡ 4
    → GainsLoad words old new ⊎ (GainsSave words old new ⊎ CountsPut old new)

-- no list grew, and the count of puts that failed didn't rise
pub record IsClean (old new : World) : Type 0 where
  pub loads : new.failed_loads ≡ old.failed_loads
  pub saves : new.failed_saves ≡ old.failed_saves
  pub puts : ¬ HasRisen old.faults new.faults

-- what a command does: it says why it does nothing, or shows what it found
abbrev pub Does : Option Reply → Command → Files → World → World → ℕ → Type 0
Does None command files old new status = Shows command files old new status
Does (Some reply) command files old new status =
    (status ≡ code_of reply.status) × IsAnswered reply old new

-- without a fault a command says its refusal or does its work, unless memory runs out
abbrev pub IsComplete : Option Command → World → World → ℕ → Type 0
IsComplete words old new status =
    (command : Command) (files : Files) → IsAbout words command old files → IsClean old new
    → (status ≡ 5) ⊎ Does (refusal command files) command files old new status

-- ---- all of it

-- what a call promises of the command that its words mean
pub record Promises (command : Option Command) (old new : World) (status : ℕ) : Type 0 where
  -- the command's plan was carried out
  pub ends : Carries IsAnswer (plan_for command) old new status
  -- over files that the store says, an answer but 4 and 5 is that of the plan's end, whose reply
  -- was delivered whole
  pub end : TellsEnd IsAnswer (plan_for command) old new status
  -- 2 exactly where the words mean no command
  pub words : TellsWords command status
  -- 3 exactly where the image is above 8 MiB, has a fault, or is to be run and can't start
  pub image : TellsRefusal ImageRefused command old status
  -- 6 exactly where the journal is too large, isn't one, or its steps can't all be made to an end
  pub journal : TellsRefusal JournalRefused command old status
  -- 8 exactly where a sequence of the image can't be rewritten, or there is no room for it
  pub rewriting : TellsRefusal RewriteRefused command old status
  -- else: `inspect` said the unsafe list of the image code; `disasm` said its instructions; `run`
  -- saved the journal of a whole run of the machine and said the report of its replay, which is
  -- what `replay` says of that journal; `rewrite` saved the rewritten image, which is accepted, and
  -- of which nothing is unsafe; `gen` saved the generated image; `soak` did as `run` and said its
  -- line
  pub work : TellsWork command old new status
  -- 4 only where a name that the command loads joined the failed loads and none the failed saves,
  -- one that it saves joined the failed saves and none the failed loads, or the sink's count rose
  -- and neither list grew
  pub fault : TellsFault command old new status
  -- and always then: at another answer the lists and the count are as before
  pub faultless : TellsFaultless old new status
  -- at 5 nothing is written and nothing saved
  pub memory : TellsMemory old new status
  -- without a fault the refusal or the work is said, unless memory runs out
  pub complete : IsComplete command old new status

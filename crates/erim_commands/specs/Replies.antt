-- What a command answers: a status, a text, and a file to save before the text is written. Own.
use Rattle.std.specs.Prelude.{◌≡◌, ℕ, Option, Some, None, List, [], ◌∷◌, ◌++◌, codes, length}
use Rattle.std.specs.Fmt.{decimal}
use Rattle.std.specs.Option.{option_map}
use Rattle.erim_io.specs.Store.{Name}
use Rattle.erim_defs.specs.declared.found.Found.{Found}
use Rattle.erim_defs.specs.declared.machine.End.{End}
use Rattle.erim_defs.specs.declared.machine.End.TheVariants.{Exit, Fault, Refused}
use Rattle.erim_defs.specs.declared.machine.Entry.{Entry}
use Rattle.erim_defs.specs.Encoding.Disasm.{disasm_text}
use Rattle.erim_defs.specs.Inspection.Image.{first_fault}
use Rattle.erim_defs.specs.Machine.Isolation.{IsIsolated}
use Rattle.erim_defs.specs.Machine.Replay.{replay, IsOver}
use Rattle.erim_defs.specs.Machine.State.{Setup, State}
use Rattle.erim_defs.specs.Output.Journal.{JournalValue, IsJournal, journal_text, journal_fault}
use Rattle.erim_defs.specs.Output.GeneratedImage.{seed_image}
use Rattle.erim_defs.specs.Output.GeneratedTexts.{gen_line}
use Rattle.erim_defs.specs.Output.Report.{report}
use Rattle.erim_defs.specs.Output.RewriteTexts.{rewrote_line}
use Rattle.erim_defs.specs.Output.Texts.{inspect_text, fault_text, journal_fault_text, kind_text}
use Rattle.erim_defs.specs.Output.Texts.{address_text, error_line}
use Rattle.erim_defs.specs.Rewriting.Rewriting.{Rewritten, NotImage, Cannot, NoRoom}
use Rattle.erim_defs.specs.Rewriting.Rewriting as definitions
use Rattle.erim_defs.specs.declared.start_fault.StartFault.{StartFault}
use Rattle.erim_defs.specs.declared.start_fault.StartFault.TheVariants.{TrustedUnsafe}
use Rattle.erim_defs.specs.declared.start_fault.StartFault.TheVariants.{TooFewFrames, Memory}
use Rattle.erim_defs.specs.Machine.StartFaults.{start_fault}
use Rattle.erim_defs.specs.declared.replay_fault.ReplayFault.{ReplayFault}
use Rattle.erim_defs.specs.declared.replay_fault.ReplayFault.TheVariants.{Start, PastEnd}
use Rattle.erim_defs.specs.declared.replay_fault.ReplayFault.TheVariants.{PastBudget, NotLive}
use Rattle.erim_defs.specs.declared.replay_fault.ReplayFault.TheVariants.{Unfinished}
use Rattle.erim_defs.specs.Machine.Lawful.{AreLawful}
use Rattle.thread_runner.specs.Running.{AreWithin}
use Rattle.erim_commands.specs.declared.reply.Status.{Status}
use Rattle.erim_commands.specs.declared.reply.Status.TheVariants.{Done, AtFault, Spent}
use Rattle.erim_commands.specs.declared.reply.Status.TheVariants.{ImageRefused, JournalRefused}
use Rattle.erim_commands.specs.declared.reply.Status.TheVariants.{RewriteRefused}

-- a file to save
pub record Saved : Type 0 where
  pub name : Name
  pub bytes : List ℕ

pub record Reply : Type 0 where
  pub status : Status
  pub text : List ℕ
  pub save : Option Saved

-- a line that says why nothing was done
abbrev pub line_reply : Status → List ℕ → Reply
line_reply status text = record { status = status; text = error_line text; save = None }

-- ---- what is wrong with an image

-- its first fault, as text. `first_fault` is never out of memory, so the line of
-- `fault_text Memory` never comes.
abbrev pub image_fault : List ℕ → Option (List ℕ)
image_fault bytes = option_map fault_text (first_fault bytes)

-- what names a cause that keeps an image from starting
abbrev pub start_text : StartFault → List ℕ
start_text (TrustedUnsafe found) =
    codes "image trusted " ++ kind_text found.kind ++ codes " at " ++ address_text found.at
start_text (TooFewFrames needed) = codes "image needs " ++ decimal needed ++ codes " frames"
-- a line that never comes: `start_fault` is never out of memory
start_text Memory = codes "out of memory"

-- the first cause that keeps it from starting, as text
abbrev pub start_refusal : Setup → Option (List ℕ)
start_refusal setup = option_map start_text (start_fault setup)

-- ---- what is wrong with a journal

-- its first fault, as text. `journal_fault` is never out of memory, so the line of
-- `journal_fault_text Memory` never comes.
abbrev pub journal_refusal : List ℕ → Option (List ℕ)
journal_refusal bytes = option_map journal_fault_text (journal_fault bytes)

-- what breaks a replay, as text: what keeps the process from starting; the entry of the first step
-- that can't be made; that the process could go on
abbrev pub break_text : ReplayFault → List ℕ
break_text (Start fault) = start_text fault
break_text (PastEnd index) = codes "journal entry " ++ decimal index ++ codes " past end"
break_text (PastBudget index) = codes "journal entry " ++ decimal index ++ codes " past budget"
break_text (NotLive index) = codes "journal entry " ++ decimal index ++ codes " not live"
break_text Unfinished = codes "journal unfinished"

-- it is the image that can't start, or the journal
abbrev pub break_status : ReplayFault → Status
break_status (Start fault) = ImageRefused
break_status (PastEnd index) = JournalRefused
break_status (PastBudget index) = JournalRefused
break_status (NotLive index) = JournalRefused
break_status Unfinished = JournalRefused

-- it is the image that isn't accepted, or that can't be rewritten
abbrev pub rewrite_status : definitions.Fault → Status
rewrite_status (NotImage fault) = ImageRefused
rewrite_status (Cannot at why) = RewriteRefused
rewrite_status (NoRoom at) = RewriteRefused

-- ---- inspect

-- that of an empty list, and that of any other
abbrev pub list_status : List Found → Status
list_status [] = Done
list_status (o ∷ os) = AtFault

abbrev pub list_reply : List Found → Reply
list_reply os = record { status = list_status os; text = inspect_text os; save = None }

-- ---- disasm

abbrev pub disasm_reply : List ℕ → Reply
disasm_reply bytes = record { status = Done; text = disasm_text bytes; save = None }

-- ---- runs

-- that of an exit, of a fault or a refused page, of a budget that was spent
abbrev pub end_status : Option End → Status
end_status None = Spent
end_status (Some (Exit code)) = Done
end_status (Some (Fault thread rip cause addr)) = AtFault
end_status (Some (Refused page found thread)) = AtFault

-- entries that lead from the setup to an end, or to where the budget is spent. Every state of this
-- run, and of each other run from the setup, keeps the isolation invariant, and every step is
-- lawful.
pub record IsWholeRun (setup : Setup) (entries : List Entry) (last : State) : Type 0 where
  pub runs : replay setup entries ≡ Some last
  pub over : IsOver last
  pub isolated : IsIsolated setup
  pub lawful : AreLawful setup

-- the journal of a run from a setup by these entries
abbrev pub run_journal : Setup → List Entry → JournalValue
run_journal setup entries =
    record { budget = setup.budget; frames = setup.frames; entries = entries }

-- a whole run whose schedule the program chose: its entries are a journal's, and name no worker
-- above the number of workers
pub record IsOwnRun (workers : ℕ) (setup : Setup) (entries : List Entry) (last : State)
    : Type 0 where
  pub whole : IsWholeRun setup entries last
  pub form : IsJournal (run_journal setup entries)
  pub within : AreWithin workers entries

-- ---- run and soak

-- the reply to a run: a text of it is printed, and its journal saved
abbrev pub run_reply : (List Entry → State → List ℕ) → Name → Setup → List Entry → State → Reply
run_reply text_of journal setup entries last = record {
  status = end_status last.end;
  text = text_of entries last;
  save = Some (record { name = journal; bytes = journal_text (run_journal setup entries) });
}

-- the reply to some run by so many workers, whichever schedule was taken
pub record IsRunReply (text_of : List Entry → State → List ℕ) (journal : Name) (workers : ℕ)
    (setup : Setup) (reply : Reply) : Type 0 where
  pub entries : List Entry
  pub last : State
  pub own : IsOwnRun workers setup entries last
  pub answer : reply ≡ run_reply text_of journal setup entries last

-- ---- replay

abbrev pub replay_reply : List Entry → State → Reply
replay_reply entries last =
    record { status = end_status last.end; text = report entries last; save = None }

-- the reply to the whole run that entries lead to
pub record IsReplayReply (setup : Setup) (entries : List Entry) (reply : Reply) : Type 0 where
  pub last : State
  pub whole : IsWholeRun setup entries last
  pub answer : reply ≡ replay_reply entries last

-- ---- rewrite

-- the rewritten image is saved, and at how many sites it was rewritten is said
abbrev pub rewrite_reply : Name → Rewritten → Reply
rewrite_reply out r = record {
  status = Done;
  text = rewrote_line (length r.regions);
  save = Some (record { name = out; bytes = r.bytes });
}

-- ---- gen

abbrev pub gen_reply : ℕ → Name → Reply
gen_reply seed out = record {
  status = Done;
  text = gen_line seed (length (seed_image seed));
  save = Some (record { name = out; bytes = seed_image seed });
}

-- ---- all commands

-- what stands at a plan's end: one reply, those of a run, whose schedule may be chosen, with what
-- is said of it, or that of a replay
pub data Answer : Type 0 where
  One : Reply → Answer
  Ran : (text_of : List Entry → State → List ℕ) (journal : Name) (workers : ℕ) (setup : Setup)
      → Answer
  Replayed : (setup : Setup) (entries : List Entry) → Answer

abbrev pub IsAnswer : Answer → Reply → Type 0
IsAnswer (One reply) r = r ≡ reply
IsAnswer (Ran text_of journal workers setup) r = IsRunReply text_of journal workers setup r
IsAnswer (Replayed setup entries) r = IsReplayReply setup entries r

-- The plan of each command: what it loads, in the order of its loads, and what it answers. Own.
use Rattle.std.specs.Prelude.{ℕ, Option, Some, None, List, Result, Ok, Err, codes}
use Rattle.erim_io.specs.Store.{Name}
use Rattle.erim_defs.specs.declared.limits.TheConstants.{MOST_IMAGE_BYTES, MOST_JOURNAL_BYTES}
use Rattle.erim_defs.specs.declared.limits.TheConstants.{USUAL_FRAMES, USUAL_STEPS, USUAL_WORKERS}
use Rattle.erim_defs.specs.declared.machine.Entry.{Entry}
use Rattle.erim_defs.specs.Inspection.Unsafe.{image_list}
use Rattle.erim_defs.specs.Machine.State.{Setup, State}
use Rattle.erim_defs.specs.Output.Journal.{JournalValue, journal_of}
use Rattle.erim_defs.specs.Output.GeneratedImage.{seed_image}
use Rattle.erim_defs.specs.Output.GeneratedTexts.{soak_line}
use Rattle.erim_defs.specs.Output.Report.{report}
use Rattle.erim_defs.specs.Output.RewriteTexts.{rewrite_text}
use Rattle.erim_defs.specs.Output.Words.{Command, Inspect, Disasm, Run, Replay, Rewrite, Gen, Soak}
use Rattle.erim_defs.specs.Rewriting.Rewriting.{Fault, Rewritten, rewriting}
use Rattle.erim_defs.specs.declared.replay_fault.ReplayFault.{ReplayFault}
use Rattle.erim_defs.specs.Machine.ReplayFaults.{replay_fault}
use Rattle.erim_commands.specs.declared.reply.Status.{Status}
use Rattle.erim_commands.specs.declared.reply.Status.TheVariants.{NotUnderstood, ImageRefused}
use Rattle.erim_commands.specs.declared.reply.Status.TheVariants.{JournalRefused}
use Rattle.erim_commands.specs.Plans.{Plan, Ask, Tell, unless}
use Rattle.erim_commands.specs.Replies.{Answer, One, Ran, Replayed, line_reply, image_fault}
use Rattle.erim_commands.specs.Replies.{start_refusal, journal_refusal, break_status, break_text}
use Rattle.erim_commands.specs.Replies.{list_reply, disasm_reply, rewrite_status}
use Rattle.erim_commands.specs.Replies.{rewrite_reply, gen_reply}

-- ---- files that commands load

-- a form of files: the most bytes that one has, the status and the text where it has more, its
-- first fault, and what it says where it has none
pub record Format (X : Type 0) : Type 0 where
  pub limit : ℕ
  pub status : Status
  pub too_large : List ℕ
  pub fault : List ℕ → Option (List ℕ)
  pub value : List ℕ → X

-- images have at most 8 MiB
abbrev pub image_format : Format (List ℕ)
image_format = record {
  limit = MOST_IMAGE_BYTES;
  status = ImageRefused;
  too_large = codes "image too large";
  fault = image_fault;
  value = λ bytes. bytes;
}

-- journals have at most the bytes of one of the most entries
abbrev pub journal_format : Format JournalValue
journal_format = record {
  limit = MOST_JOURNAL_BYTES;
  status = JournalRefused;
  too_large = codes "journal too large";
  fault = journal_refusal;
  value = journal_of;
}

-- ---- steps of plans

abbrev pub refusal_answer : Status → List ℕ → Answer
refusal_answer status text = One (line_reply status text)

-- loads a file and reads it
abbrev pub with_file : {X : Type 0} → Format X → Name → (X → Plan Answer) → Plan Answer
with_file format name next =
    Ask name format.limit (refusal_answer format.status format.too_large)
    (λ bytes. unless (format.fault bytes) (refusal_answer format.status) (next
    (format.value bytes)))

-- starts the image of a setup
abbrev pub with_start : Setup → Plan Answer → Plan Answer
with_start setup next = unless (start_refusal setup) (refusal_answer ImageRefused) next

-- starts it and runs it by so many workers
abbrev pub started_run : (List Entry → State → List ℕ) → Name → ℕ → Setup → Plan Answer
started_run text_of journal workers setup =
    with_start setup (Tell (Ran text_of journal workers setup))

abbrev pub break_answer : ReplayFault → Answer
break_answer fault = refusal_answer (break_status fault) (break_text fault)

-- starts it and makes the steps of entries
abbrev pub started_replay : Setup → List Entry → Plan Answer
started_replay setup entries =
    unless (replay_fault setup entries) break_answer (Tell (Replayed setup entries))

-- saves a rewritten image
abbrev pub rewrite_plan : Name → Result Rewritten Fault → Plan Answer
rewrite_plan out (Ok r) = Tell (One (rewrite_reply out r))
rewrite_plan out (Err fault) = Tell (refusal_answer (rewrite_status fault) (rewrite_text fault))

-- ---- commands

abbrev pub run_setup : List ℕ → ℕ → ℕ → Setup
run_setup bytes steps frames = record { image = bytes; budget = steps; frames = frames }

-- with the budget and the frames that the journal had
abbrev pub replay_setup : List ℕ → JournalValue → Setup
replay_setup bytes j = run_setup bytes j.budget j.frames

-- a generated image is run with 1,000,000 steps and 1,024 frames
abbrev pub soak_setup : ℕ → Setup
soak_setup seed = run_setup (seed_image seed) USUAL_STEPS USUAL_FRAMES

abbrev pub plan_of : Command → Plan Answer
plan_of (Inspect image) =
    with_file image_format image (λ bytes. Tell (One (list_reply (image_list bytes))))
plan_of (Disasm image) =
    with_file image_format image (λ bytes. Tell (One (disasm_reply bytes)))
plan_of (Run image journal workers steps frames) =
    with_file image_format image
    (λ bytes. started_run report journal workers (run_setup bytes steps frames))
plan_of (Replay image journal) =
    with_file image_format image
    (λ bytes. with_file journal_format journal
    (λ j. started_replay (replay_setup bytes j) j.entries))
plan_of (Rewrite image out) =
    with_file image_format image (λ bytes. rewrite_plan out (rewriting bytes))
plan_of (Gen seed out) = Tell (One (gen_reply seed out))
plan_of (Soak seed journal) =
    Tell (Ran (λ entries s. soak_line seed s) journal USUAL_WORKERS (soak_setup seed))

abbrev pub not_understood : Answer
not_understood = One (line_reply NotUnderstood (codes "words not understood"))

-- what the words mean to a program without threads: a command that runs nothing by workers
abbrev pub plain : Option Command → Option Command
plain (Some (Run image journal workers steps frames)) = None
plain (Some (Soak seed journal)) = None
plain other = other

-- the plan of what the words mean
abbrev pub plan_for : Option Command → Plan Answer
plan_for None = Tell not_understood
plan_for (Some command) = plan_of command

-- What a run saved is replayed to what it said, and generated images are accepted and start.
use Rattle.std.proofs.Common.{◌≡◌, ◌∙◌, ◌<◌, List, [], ◌∷◌, length, ℕ, Option, Some, None}
use Rattle.std.proofs.Common.{false, refl, sym, ap, arith, get_or, zero, suc}
use Rattle.std.specs.Prelude.{◌≤◌, nat_lt}
use Rattle.std.specs.Option.{option_map}
use Rattle.std.proofs.lemmas.Bool.{le-ltb}
use Rattle.erim_defs.specs.declared.journal.JournalFault.{JournalFault}
use Rattle.erim_defs.specs.declared.machine.Entry.{Entry}
use Rattle.erim_defs.specs.Encoding.Parts.{AreBytes}
use Rattle.erim_defs.specs.Machine.State.{Setup, State}
use Rattle.erim_defs.specs.Output.Journal.{JournalValue, IsJournal, journal_of, journal_text}
use Rattle.erim_defs.specs.Output.Journal.{journal_fault}
use Rattle.erim_defs.specs.declared.limits.TheConstants.{MOST_IMAGE_BYTES, MOST_JOURNAL_BYTES}
use Rattle.erim_defs.specs.declared.limits.TheConstants.{USUAL_FRAMES, USUAL_STEPS}
use Rattle.erim_defs.specs.Inspection.Image.{IsAccepted, first_fault}
use Rattle.erim_defs.specs.Machine.Isolation.{IsStartable}
use Rattle.erim_defs.specs.Output.GeneratedImage.{generated_image, seed_image, seed_rounds}
use Rattle.erim_defs.specs.Output.GeneratedImage.{seed_threads}
use Rattle.erim_defs.specs.Output.Texts.{fault_text, journal_fault_text}
use Rattle.erim_defs.proofs.JournalLemmas.{journal_faultless, journal_length, journal_read}
use Rattle.erim_defs.proofs.JournalLemmas.{faultless_journal, faultless_text}
use Rattle.erim_defs.proofs.StartFaultLemmas.{start_none}
use Rattle.erim_defs.specs.declared.start_fault.StartFault.{StartFault}
use Rattle.erim_defs.specs.Machine.StartFaults.{start_fault}
use Rattle.erim_defs.specs.Machine.ReplayFaults.{replay_fault, UnbrokenLaw}
use Rattle.erim_commands.specs.Replies.{Reply, Answer, Replayed, IsOwnRun, IsReplayReply}
use Rattle.erim_commands.specs.Replies.{start_refusal, start_text, replay_reply, run_journal}
use Rattle.erim_commands.specs.Plans.{Plan, Tell, end_of}
use Rattle.erim_commands.specs.Commands.{image_format, journal_format, with_file, break_answer}
use Rattle.erim_commands.specs.Commands.{run_setup, replay_setup, soak_setup, started_replay}
use Rattle.erim_commands.specs.Promises.{reading_refusal, ReplaysTo}
use Rattle.erim_commands.proofs.EndLemmas.{file_goes, read_within, unless_goes}

-- ---- generated images, by what `generated_startable` of `image_gen` ensures

abbrev pub LengthLaw : Type 0
LengthLaw = (threads rounds : ℕ) → length (generated_image threads rounds) ≡ 8424

abbrev pub AcceptedLaw : Type 0
AcceptedLaw = (threads rounds : ℕ) → IsAccepted (generated_image threads rounds)

abbrev pub StartableLaw : Type 0
StartableLaw =
    (threads rounds budget frames : ℕ) → 20 ≤ frames
    → IsStartable (run_setup (generated_image threads rounds) budget frames)

-- the image of a seed has no fault
pub seed_accepted : (seed : ℕ) → LengthLaw → AcceptedLaw
    → reading_refusal image_format (seed_image seed) ≡ None
unfolding seed_image
seed_accepted seed has_length accepted =
    let image = generated_image (seed_threads seed) (seed_rounds seed) in
    let few : nat_lt MOST_IMAGE_BYTES (length image) ≡ false =
    le-ltb _ _ (omega (arith, has_length (seed_threads seed) (seed_rounds seed))) in
    let fine : option_map fault_text (first_fault image) ≡ None =
    ap (option_map fault_text) (accepted (seed_threads seed) (seed_rounds seed)) in
    rw (few, fine) refl

-- nothing keeps it from starting
pub seed_startable : (seed : ℕ) → StartableLaw → start_fault (soak_setup seed) ≡ None
unfolding seed_image
seed_startable seed startable =
    start_none (soak_setup seed)
    (startable (seed_threads seed) (seed_rounds seed) USUAL_STEPS USUAL_FRAMES (omega arith))

pub seed_starts : (seed : ℕ) → StartableLaw → start_refusal (soak_setup seed) ≡ None
seed_starts seed startable = ap (option_map start_text) (seed_startable seed startable)

-- ---- journals

-- a journal's bytes have no fault
saved_reads : (j : JournalValue) → IsJournal j
    → reading_refusal journal_format (journal_text j) ≡ None
saved_reads j is =
    let few : nat_lt MOST_JOURNAL_BYTES (length (journal_text j)) ≡ false =
    le-ltb _ _ (omega (arith, journal_length j, is.count, is.budget)) in
    rw (few, journal_faultless j is) refl

-- bytes without a fault are those of the journal that they say
pub saved_spelling : (saved : List ℕ) → reading_refusal journal_format saved ≡ None → AreBytes saved
    → IsJournal (journal_of saved) × (saved ≡ journal_text (journal_of saved))
saved_spelling saved none are =
    let fine = untold (journal_fault saved) (read_within journal_format saved none).1 in
    (faultless_journal saved fine, faultless_text saved (each saved are) fine)
  where
    each : (bytes : List ℕ) → AreBytes bytes → (i : ℕ) → get_or bytes i 0 < 256
    each [] are i = omega arith
    each (b ∷ bs) are zero = are.0
    each (b ∷ bs) are (suc i) = each bs are.1 i

    untold : (fault : Option JournalFault) → option_map journal_fault_text fault ≡ None
        → fault ≡ None
    untold None none = refl
    untold (Some fault) none = absurd cc

can_start : (setup : Setup) → start_refusal setup ≡ None → start_fault setup ≡ None
can_start setup none = by (start_fault setup) none
  where
    by : (fault : Option StartFault) → option_map start_text fault ≡ None → fault ≡ None
    by None none = refl
    by (Some fault) none = absurd cc

-- what a run of its own leads to is said again by the replay of its journal
pub replays_run : UnbrokenLaw → (bytes : List ℕ) (workers steps frames : ℕ)
    (entries : List Entry) (last : State) → reading_refusal image_format bytes ≡ None
    → start_refusal (run_setup bytes steps frames) ≡ None
    → IsOwnRun workers (run_setup bytes steps frames) entries last
    → ReplaysTo bytes (journal_text (run_journal (run_setup bytes steps frames) entries))
    (replay_reply entries last)
unfolding end_of
replays_run law bytes workers steps frames entries last fine can own image journal files there
    here =
    let setup = run_setup bytes steps frames in
    let j = run_journal setup entries in
    let saved = journal_text j in
    let next : JournalValue → Plan Answer = λ k. started_replay (replay_setup bytes k) k.entries in
    let image_read = file_goes image_format image (λ b. with_file journal_format journal
    (λ k. started_replay (replay_setup b k) k.entries)) files bytes there fine in
    let journal_is_read = file_goes journal_format journal next files saved here
    (saved_reads j own.form) in
    let again : end_of (next (journal_of saved)) files ≡ end_of (next j) files =
    ap (λ (k : JournalValue). end_of (next k) files) (journal_read j own.form) in
    let unbroken : replay_fault setup entries ≡ None = (law setup entries).1
    (can_start setup can, (last, own.whole.runs, own.whole.over)) in
    let whole = unless_goes (replay_fault setup entries) break_answer
    (Tell (Replayed setup entries)) files unbroken in (
      Replayed setup entries,
      image_read ∙ journal_is_read ∙ again ∙ whole,
      λ r. (only r, λ is. record { last = last; whole = own.whole; answer = is }),
    )
  where
    only : (r : Reply) → IsReplayReply (run_setup bytes steps frames) entries r
        → r ≡ replay_reply entries last
    only r is =
        (let same : is.last ≡ last = (let e = sym is.whole.runs ∙ own.whole.runs in cc) in
        is.answer ∙ ap (λ (s : State). replay_reply entries s) same)

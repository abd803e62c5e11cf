-- What the end of a call says, command by command.
use Rattle.std.proofs.Common.{◌≡◌, ◌≢◌, ◌⊎◌, ◌∙◌, List, ◌∷◌, ◌++◌, [], length, ℕ, Option, Some}
use Rattle.std.proofs.Common.{None, Result, Ok, Err, eqb, sym, ap, refl, arith, inl, inr}
use Rattle.std.specs.Prelude.{codes, ⊤, ◌↔◌, ◌==◌, if◌then◌else◌}
use Rattle.std.proofs.lemmas.Bool.{cases_Bool, eqb-true, eqb-false}
use Rattle.std.proofs.lemmas.List.{length-append}
use Rattle.erim_io.specs.Store.{Name, Files}
use Rattle.erim_defs.specs.declared.found.Found.{Found}
use Rattle.erim_defs.specs.declared.machine.End.{End}
use Rattle.erim_defs.specs.declared.machine.End.TheVariants.{Exit, Fault, Refused}
use Rattle.erim_defs.specs.declared.machine.Entry.{Entry}
use Rattle.erim_defs.specs.declared.limits.TheConstants.{USUAL_FRAMES, USUAL_STEPS}
use Rattle.erim_defs.specs.declared.limits.TheConstants.{USUAL_WORKERS}
use Rattle.erim_defs.specs.Inspection.Unsafe.{image_list}
use Rattle.erim_defs.specs.Machine.State.{Setup, State}
use Rattle.erim_defs.specs.Output.Journal.{JournalValue, journal_of}
use Rattle.erim_defs.specs.Output.GeneratedTexts.{soak_line}
use Rattle.erim_defs.specs.Output.Report.{report}
use Rattle.erim_defs.specs.Output.RewriteTexts.{rewrite_text}
use Rattle.erim_defs.specs.Output.Words.{Command, Inspect, Disasm, Run, Replay, Rewrite, Gen, Soak}
use Rattle.erim_defs.specs.Rewriting.Rewriting.{Rewritten, NotImage, Cannot, NoRoom, rewriting}
use Rattle.erim_defs.specs.Rewriting.Rewriting as definitions
use Rattle.rewriting_laws.specs.QuietLaws.{AnswerLaw}
use Rattle.erim_defs.specs.declared.replay_fault.ReplayFault.{ReplayFault}
use Rattle.erim_defs.specs.declared.replay_fault.ReplayFault.TheVariants.{Start, PastEnd}
use Rattle.erim_defs.specs.declared.replay_fault.ReplayFault.TheVariants.{PastBudget, NotLive}
use Rattle.erim_defs.specs.declared.replay_fault.ReplayFault.TheVariants.{Unfinished}
use Rattle.erim_defs.specs.Machine.ReplayFaults.{replay_fault, UnbrokenLaw}
use Rattle.erim_commands.specs.declared.reply.Status.{Status}
use Rattle.erim_commands.specs.declared.reply.Status.TheVariants.{NotUnderstood, ImageRefused}
use Rattle.erim_commands.specs.declared.reply.Status.TheVariants.{JournalRefused, RewriteRefused}
use Rattle.erim_commands.specs.Statuses.{code_of}
use Rattle.erim_commands.specs.Replies.{Saved, Reply, Answer, One, Ran, Replayed, IsAnswer}
use Rattle.erim_commands.specs.Replies.{line_reply}
use Rattle.erim_commands.specs.Replies.{start_refusal, break_status, break_text, list_status}
use Rattle.erim_commands.specs.Replies.{list_reply, rewrite_status, rewrite_reply}
use Rattle.erim_commands.specs.Replies.{disasm_reply, gen_reply, end_status, run_reply}
use Rattle.erim_commands.specs.Replies.{replay_reply}
use Rattle.erim_commands.specs.Plans.{Plan, Tell, unless, end_of}
use Rattle.erim_commands.specs.Commands.{Format, image_format, journal_format, refusal_answer}
use Rattle.erim_commands.specs.Commands.{with_file}
use Rattle.erim_commands.specs.Commands.{started_run, started_replay, run_setup, replay_setup}
use Rattle.erim_commands.specs.Commands.{soak_setup, break_answer, rewrite_plan, plan_of}
use Rattle.erim_commands.specs.Commands.{plan_for}
use Rattle.erim_commands.specs.Delivery.{World, IsAnswered, HasNotKept, Carries}
use Rattle.erim_commands.specs.Promises.{IsReplying, IsReplied, TellsWords, TellsRefusal}
use Rattle.erim_commands.specs.Promises.{reading_refusal, refusal, IsAbout, IsRefusedAs, Shows}
use Rattle.erim_commands.specs.Promises.{ShowsRun, ShowsReplay, ShowsRewritten}
use Rattle.erim_commands.specs.Promises.{TellsWork, IsLoadedBy, IsSavedBy}
use Rattle.erim_commands.specs.Promises.{Does, GainsLoad, GainsSave, CountsPut, TellsFault}
use Rattle.erim_commands.specs.Promises.{IsComplete, Promises}
use Rattle.erim_commands.proofs.PlanLemmas.{tells_end, tells_faultless, tells_memory}
use Rattle.erim_commands.proofs.PlanLemmas.{Always, always_replied, Failure}
use Rattle.erim_commands.proofs.PlanLemmas.{always_failed, LoadsBytes, loads_bytes}
use Rattle.erim_commands.proofs.EndLemmas.{IsRead, Stops, file_end, unless_end, some_is}
use Rattle.erim_commands.proofs.EndLemmas.{file_bytes}
use Rattle.erim_commands.proofs.ReplayLemmas.{replays_run, saved_spelling, seed_accepted}
use Rattle.erim_commands.proofs.ReplayLemmas.{seed_starts, LengthLaw, AcceptedLaw, StartableLaw}

-- ---- what the replies of a command's ends are

-- a file of a reply is the one that the command saves
abbrev pub IsOwnSave : Option Command → Option Saved → Type 0
IsOwnSave words None = ⊤
IsOwnSave words (Some file) = IsSavedBy words file.name

-- the status of a reply is 2 exactly where the words mean no command, and it has no file but the
-- command's
pub record IsOwn (words : Option Command) (reply : Reply) : Type 0 where
  pub understood : (code_of reply.status ≡ 2 → words ≡ None) × (words ≡ None
      → code_of reply.status ≡ 2)
  pub save : IsOwnSave words reply.save

-- each reply of an end is the command's own
abbrev pub AnswersOwn : Option Command → Answer → Type 0
AnswersOwn words a = (reply : Reply) → IsAnswer a reply → IsOwn words reply

-- a status that isn't 2 is that of a command
known : (command : Command) (n : ℕ) → n ≢ 2 → (n ≡ 2 → Some command ≡ None) × (Some command ≡ None
    → n ≡ 2)
known command n other = (λ two. absurd (other two), λ none. absurd cc)

-- the statuses with which an image or a journal is refused
abbrev Refuses : Status → Type 0
Refuses status =
    (status ≡ ImageRefused) ⊎ ((status ≡ JournalRefused) ⊎ (status ≡ RewriteRefused))

refuses_not_2 : (status : Status) → Refuses status → code_of status ≢ 2
refuses_not_2 status (inl image) two =
    (let three : code_of status ≡ 3 = rw image refl in omega (arith, two, three))
refuses_not_2 status (inr (inl journal)) two =
    (let six : code_of status ≡ 6 = rw journal refl in omega (arith, two, six))
refuses_not_2 status (inr (inr rewrite)) two =
    (let eight : code_of status ≡ 8 = rw rewrite refl in omega (arith, two, eight))

-- a reply of one answer
one_reply : (a : Answer) (r reply : Reply) → a ≡ One r → IsAnswer a reply → reply ≡ r
one_reply a r reply is answer = rw is at answer

-- one reply that isn't that of words without meaning, and saves nothing else
one_own : (command : Command) (r : Reply) → code_of r.status ≢ 2 → IsOwnSave (Some command) r.save
    → AnswersOwn (Some command) (One r)
one_own command r other save reply is =
    rw is (let own : IsOwn (Some command) r = record {
      understood = known command (code_of r.status) other;
      save = save;
    } in own)

refused_own : (command : Command) (status : Status) (text : List ℕ) → Refuses status
    → AnswersOwn (Some command) (refusal_answer status text)
refused_own command status text refuses =
    one_own command (line_reply status text) (refuses_not_2 status refuses) tt

list_not_2 : (os : List Found) → code_of (list_status os) ≢ 2
list_not_2 [] = omega arith
list_not_2 (o ∷ os) = omega arith

end_not_2 : (end : Option End) → code_of (end_status end) ≢ 2
end_not_2 None = omega arith
end_not_2 (Some (Exit code)) = omega arith
end_not_2 (Some (Fault thread rip cause addr)) = omega arith
end_not_2 (Some (Refused page found thread)) = omega arith

ran_own : (command : Command) (text_of : List Entry → State → List ℕ) (journal : Name)
    (workers : ℕ) (setup : Setup) → IsSavedBy (Some command) journal
    → AnswersOwn (Some command) (Ran text_of journal workers setup)
ran_own command text_of journal workers setup saves reply is =
    rw is.answer (record {
      understood = known command (code_of (end_status is.last.end)) (end_not_2 is.last.end);
      save = saves;
    })

replayed_own : (command : Command) (setup : Setup) (entries : List Entry)
    → AnswersOwn (Some command) (Replayed setup entries)
replayed_own command setup entries reply is =
    rw is.answer (record {
      understood = known command (code_of (end_status is.last.end)) (end_not_2 is.last.end);
      save = tt;
    })

-- ---- what a command's plan loads, and how it ends

abbrev AreOwn : Option Command → Plan Answer → Type 0
AreOwn words plan = Always IsAnswer (IsLoadedBy words) (AnswersOwn words) plan

unless_own : {B : Type 0} (command : Command) (cause : Option B) (ends : B → Answer)
    (next : Plan Answer) → ((b : B) → AnswersOwn (Some command) (ends b))
    → AreOwn (Some command) next → AreOwn (Some command) (unless cause ends next)
unless_own command None ends next ended own = own
unless_own command (Some b) ends next ended own = ended b

file_own : {X : Type 0} (command : Command) (format : Format X) (name : Name)
    (next : X → Plan Answer) → Refuses format.status → IsLoadedBy (Some command) name
    → ((x : X) → AreOwn (Some command) (next x))
    → AreOwn (Some command) (with_file format name next)
file_own command format name next refuses loads own = (
  loads,
  refused_own command format.status format.too_large refuses,
  λ bytes. unless_own command (format.fault bytes) (refusal_answer format.status)
      (next (format.value bytes)) (λ text. refused_own command format.status text refuses)
      (own (format.value bytes)),
)

image_own : (command : Command) (name : Name) (next : List ℕ → Plan Answer)
    → IsLoadedBy (Some command) name → ((bytes : List ℕ) → AreOwn (Some command) (next bytes))
    → AreOwn (Some command) (with_file image_format name next)
image_own command name next = file_own command image_format name next (inl refl)

started_own : (command : Command) (setup : Setup) (next : Plan Answer)
    → AreOwn (Some command) next
    → AreOwn (Some command) (unless (start_refusal setup) (refusal_answer ImageRefused) next)
started_own command setup next =
    unless_own command (start_refusal setup) (refusal_answer ImageRefused) next
    (λ text. refused_own command ImageRefused text (inl refl))

not_understood_own : AnswersOwn None (One (line_reply NotUnderstood (codes "words not understood")))
not_understood_own reply is =
    rw is (let own : IsOwn None (line_reply NotUnderstood (codes "words not understood")) = record {
      understood = (λ two. refl, λ none. refl);
      save = tt;
    } in own)

break_refuses : (fault : ReplayFault) → Refuses (break_status fault)
break_refuses (Start fault) = inl refl
break_refuses (PastEnd index) = inr (inl refl)
break_refuses (PastBudget index) = inr (inl refl)
break_refuses (NotLive index) = inr (inl refl)
break_refuses Unfinished = inr (inl refl)

replay_own : (command : Command) (journal : Name) (bytes : List ℕ)
    → IsLoadedBy (Some command) journal
    → AreOwn (Some command) (with_file journal_format journal
    (λ j. started_replay (replay_setup bytes j) j.entries))
replay_own command journal bytes loads =
    file_own command journal_format journal
    (λ j. started_replay (replay_setup bytes j) j.entries) (inr (inl refl)) loads
    (λ j. unless_own command (replay_fault (replay_setup bytes j) j.entries) break_answer
    (Tell (Replayed (replay_setup bytes j) j.entries))
    (λ fault. refused_own command (break_status fault) (break_text fault) (break_refuses fault))
    (replayed_own command (replay_setup bytes j) j.entries))

rewrite_refuses : (fault : definitions.Fault) → Refuses (rewrite_status fault)
rewrite_refuses (NotImage fault) = inl refl
rewrite_refuses (Cannot at why) = inr (inr refl)
rewrite_refuses (NoRoom at) = inr (inr refl)

rewrite_own : (image out : Name) (answer : Result Rewritten definitions.Fault)
    → AreOwn (Some (Rewrite image out)) (rewrite_plan out answer)
rewrite_own image out (Ok r) =
    one_own (Rewrite image out) (rewrite_reply out r) (omega arith) refl
rewrite_own image out (Err fault) =
    refused_own (Rewrite image out) (rewrite_status fault) (rewrite_text fault)
    (rewrite_refuses fault)

pub plan_own : (words : Option Command) → AreOwn words (plan_for words)
plan_own None = not_understood_own
plan_own (Some (Inspect image)) =
    let command = Inspect image in
    image_own command image _ refl (λ bytes. one_own command (list_reply (image_list bytes))
    (list_not_2 (image_list bytes)) tt)
plan_own (Some (Disasm image)) =
    let command = Disasm image in
    image_own command image _ refl (λ bytes. one_own command (disasm_reply bytes) (omega arith) tt)
plan_own (Some (Run image journal workers steps frames)) =
    let command = Run image journal workers steps frames in
    image_own command image _ refl
    (λ bytes. started_own command (run_setup bytes steps frames) _
    (ran_own command report journal workers (run_setup bytes steps frames) refl))
plan_own (Some (Replay image journal)) =
    let command = Replay image journal in
    image_own command image _ (inl refl) (λ bytes. replay_own command journal bytes (inr refl))
plan_own (Some (Rewrite image out)) =
    image_own (Rewrite image out) image _ refl (λ bytes. rewrite_own image out (rewriting bytes))
plan_own (Some (Gen seed out)) = one_own (Gen seed out) (gen_reply seed out) (omega arith) refl
plan_own (Some (Soak seed journal)) =
    ran_own (Soak seed journal) (λ entries s. soak_line seed s) journal USUAL_WORKERS
    (soak_setup seed) refl

pub tells_words : (words : Option Command) (old new : World) (status : ℕ)
    → Carries IsAnswer (plan_for words) old new status → TellsWords words status
tells_words words old new status carries replying =
    let ended = always_replied IsAnswer (IsLoadedBy words) (AnswersOwn words) (plan_for words) old
    new status (plan_own words) carries replying in
    let replied = ended.2 in
    let own = ended.1 replied.reply replied.answer in
    (λ two. own.understood.0 (sym replied.code ∙ two), λ none. replied.code ∙ own.understood.1 none)

pub tells_fault : (words : Option Command) (old new : World) (status : ℕ)
    → Carries IsAnswer (plan_for words) old new status → TellsFault words old new status
tells_fault words old new status carries four =
    by (always_failed IsAnswer (IsLoadedBy words) (AnswersOwn words) (plan_for words) old new status
    (plan_own words) carries four)
  where
    unkept : (save : Option Saved) → IsOwnSave words save → HasNotKept save old new
        → GainsSave words old new
    unkept None own lost = absurd lost
    unkept (Some file) own lost = (file.name, own, lost.saves, lost.loads)

    by : Failure IsAnswer (IsLoadedBy words) (AnswersOwn words) old new
        → GainsLoad words old new ⊎ (GainsSave words old new ⊎ CountsPut old new)
    by (inl load) = inl (load.0, load.1, load.2.loads, load.2.saves)
    by (inr (a, own, (reply, is, inl lost))) =
        inr (inl (unkept reply.save (own reply is).save lost))
    by (inr (a, own, (reply, is, inr cut))) =
        inr (inr (cut.store.loads, cut.store.saves, cut.puts))

-- ---- the ends of the commands' plans

-- the end where nothing is refused
abbrev IsWorkEnd : Command → Files → Answer → Type 0
IsWorkEnd (Inspect image) files a = (bytes : List ℕ) × (files image ≡ Some bytes)
    × (a ≡ One (list_reply (image_list bytes)))
IsWorkEnd (Disasm image) files a = (bytes : List ℕ) × (files image ≡ Some bytes)
    × (a ≡ One (disasm_reply bytes))
IsWorkEnd (Run image journal workers steps frames) files a =
    (bytes : List ℕ) × (files image ≡ Some bytes)
    × (reading_refusal image_format bytes ≡ None)
    × (start_refusal (run_setup bytes steps frames) ≡ None)
    × (a ≡ Ran report journal workers (run_setup bytes steps frames))
IsWorkEnd (Replay image journal) files a =
    (bytes saved : List ℕ) × (files image ≡ Some bytes) × (files journal ≡ Some saved)
    × (reading_refusal image_format bytes ≡ None)
    × (reading_refusal journal_format saved ≡ None)
    × (a ≡ Replayed (replay_setup bytes (journal_of saved)) (journal_of saved).entries)
IsWorkEnd (Rewrite image out) files a =
    (bytes : List ℕ) × (files image ≡ Some bytes)
    × ((r : Rewritten) × (rewriting bytes ≡ Ok r) × (a ≡ One (rewrite_reply out r)))
IsWorkEnd (Gen seed out) files a = a ≡ One (gen_reply seed out)
IsWorkEnd (Soak seed journal) files a =
    a ≡ Ran (λ entries s. soak_line seed s) journal USUAL_WORKERS (soak_setup seed)

-- a cause was said, or the command's work
abbrev IsEnd : Command → Files → Answer → Type 0
IsEnd command files a =
    ((status : Status) × (text : List ℕ) × Refuses status
    × (refusal command files ≡ Some (line_reply status text)) × (a ≡ refusal_answer status text))
    ⊎ ((refusal command files ≡ None) × IsWorkEnd command files a)

plan_end : (command : Command) (files : Files) (a : Answer)
    → end_of (plan_of command) files ≡ Some a → IsEnd command files a
unfolding end_of refusal
plan_end (Inspect image) files a end =
    by (file_end image_format image (λ bytes. Tell (One (list_reply (image_list bytes)))) files a
    end)
  where
    by : IsRead image_format image (λ bytes. Tell (One (list_reply (image_list bytes)))) files a
        → IsEnd (Inspect image) files a
    by (bytes, there, inl (text, bad, is)) =
        inl (ImageRefused, text, inl refl, rw (there, bad) refl, is)
    by (bytes, there, inr (fine, ends)) =
        inr (rw (there, fine) refl, (bytes, there, some_is _ _ ends))
plan_end (Disasm image) files a end =
    by (file_end image_format image (λ bytes. Tell (One (disasm_reply bytes))) files a end)
  where
    by : IsRead image_format image (λ bytes. Tell (One (disasm_reply bytes))) files a
        → IsEnd (Disasm image) files a
    by (bytes, there, inl (text, bad, is)) =
        inl (ImageRefused, text, inl refl, rw (there, bad) refl, is)
    by (bytes, there, inr (fine, ends)) =
        inr (rw (there, fine) refl, (bytes, there, some_is _ _ ends))
plan_end (Run image journal workers steps frames) files a end =
    by (file_end image_format image next files a end)
  where
    next : List ℕ → Plan Answer
    next bytes = started_run report journal workers (run_setup bytes steps frames)

    started : (bytes : List ℕ) → files image ≡ Some bytes
        → reading_refusal image_format bytes ≡ None
        → Stops (start_refusal (run_setup bytes steps frames)) (refusal_answer ImageRefused)
        (Tell (Ran report journal workers (run_setup bytes steps frames))) files a
        → IsEnd (Run image journal workers steps frames) files a
    started bytes there fine (inl (text, bad, is)) =
        inl (ImageRefused, text, inl refl, rw (there, fine, bad) refl, is)
    started bytes there fine (inr (can, ends)) =
        inr (rw (there, fine, can) refl, (bytes, there, fine, can, some_is _ _ ends))

    by : IsRead image_format image next files a
        → IsEnd (Run image journal workers steps frames) files a
    by (bytes, there, inl (text, bad, is)) =
        inl (ImageRefused, text, inl refl, rw (there, bad) refl, is)
    by (bytes, there, inr (fine, ends)) =
        started bytes there fine
        (unless_end (start_refusal (run_setup bytes steps frames))
        (refusal_answer ImageRefused) _ files a
        ends)
plan_end (Replay image journal) files a end =
    by (file_end image_format image next files a end)
  where
    then_ : List ℕ → JournalValue → Plan Answer
    then_ bytes j = started_replay (replay_setup bytes j) j.entries

    next : List ℕ → Plan Answer
    next bytes = with_file journal_format journal (then_ bytes)

    led : (bytes saved : List ℕ) → files image ≡ Some bytes
        → reading_refusal image_format bytes ≡ None → files journal ≡ Some saved
        → reading_refusal journal_format saved ≡ None
        → Stops (replay_fault (replay_setup bytes (journal_of saved)) (journal_of saved).entries)
        break_answer
        (Tell (Replayed (replay_setup bytes (journal_of saved)) (journal_of saved).entries)) files a
        → IsEnd (Replay image journal) files a
    led bytes saved there fine here spelled (inl (fault, bad, is)) =
        inl (
          break_status fault,
          break_text fault,
          break_refuses fault,
          rw (there, fine, here, spelled, bad) refl,
          is,
        )
    led bytes saved there fine here spelled (inr (goes, ends)) =
        inr (
          rw (there, fine, here, spelled, goes) refl,
          (
            bytes,
            saved,
            there,
            here,
            fine,
            spelled,
            some_is _ _ ends,
          ),
        )

    loaded : (bytes : List ℕ) → files image ≡ Some bytes
        → reading_refusal image_format bytes ≡ None
        → IsRead journal_format journal (then_ bytes) files a
        → IsEnd (Replay image journal) files a
    loaded bytes there fine (saved, here, inl (text, bad, is)) =
        inl (JournalRefused, text, inr (inl refl), rw (there, fine, here, bad) refl, is)
    loaded bytes there fine (saved, here, inr (spelled, ends)) =
        led bytes saved there fine here spelled
        (unless_end (replay_fault (replay_setup bytes (journal_of saved))
        (journal_of saved).entries)
        break_answer _ files a ends)

    by : IsRead image_format image next files a → IsEnd (Replay image journal) files a
    by (bytes, there, inl (text, bad, is)) =
        inl (ImageRefused, text, inl refl, rw (there, bad) refl, is)
    by (bytes, there, inr (fine, ends)) =
        loaded bytes there fine (file_end journal_format journal (then_ bytes) files a ends)
plan_end (Rewrite image out) files a end =
    by (file_end image_format image (λ bytes. rewrite_plan out (rewriting bytes)) files a end)
  where
    answered : (bytes : List ℕ) (answer : Result Rewritten definitions.Fault)
        → files image ≡ Some bytes → reading_refusal image_format bytes ≡ None
        → rewriting bytes ≡ answer → end_of (rewrite_plan out answer) files ≡ Some a
        → IsEnd (Rewrite image out) files a
    answered bytes (Ok r) there fine is ends =
        inr (rw (there, fine, is) refl, (bytes, there, (r, is, some_is _ _ ends)))
    answered bytes (Err fault) there fine is ends =
        inl (
          rewrite_status fault,
          rewrite_text fault,
          rewrite_refuses fault,
          rw (there, fine, is) refl,
          some_is _ _ ends,
        )

    by : IsRead image_format image (λ bytes. rewrite_plan out (rewriting bytes)) files a
        → IsEnd (Rewrite image out) files a
    by (bytes, there, inl (text, bad, is)) =
        inl (ImageRefused, text, inl refl, rw (there, bad) refl, is)
    by (bytes, there, inr (fine, ends)) =
        answered bytes (rewriting bytes) there fine refl ends
plan_end (Gen seed out) files a end = inr (refl, some_is _ _ end)
plan_end (Soak seed journal) files a end = inr (refl, some_is _ _ end)

-- ---- the commands' promises

-- how a command has ended over files that are said
record HasEnded (command : Command) (files : Files) (old new : World) (status : ℕ) : Type 0 where
  a : Answer
  end : IsEnd command files a
  bytes : LoadsBytes (plan_of command) files
  replied : IsReplied IsAnswer a old new status

ended : (words : Option Command) (command : Command) (files : Files) (old new : World) (status : ℕ)
    → Carries IsAnswer (plan_for words) old new status
    → IsAbout words command old files → IsReplying status → HasEnded command files old new status
ended words command files old new status carries about replying =
    let carried : Carries IsAnswer (plan_of command) old new status = rw about.meant at carries in
    let at_end = tells_end IsAnswer (plan_of command) old new status carried files about.held
    replying in
    record {
      a = at_end.0;
      end = plan_end command files at_end.0 at_end.1;
      bytes = loads_bytes IsAnswer (plan_of command) old new status files carried about.held
          replying;
      replied = at_end.2;
    }

-- the statuses of a command's work: 0, 1 and 7
abbrev IsDone : ℕ → Type 0
IsDone n = (n ≡ 0) ⊎ ((n ≡ 1) ⊎ (n ≡ 7))

list_done : (os : List Found) → IsDone (code_of (list_status os))
list_done [] = inl refl
list_done (o ∷ os) = inr (inl refl)

end_done : (end : Option End) → IsDone (code_of (end_status end))
end_done None = inr (inr refl)
end_done (Some (Exit code)) = inl refl
end_done (Some (Fault thread rip cause addr)) = inr (inl refl)
end_done (Some (Refused page found thread)) = inr (inl refl)

-- of a reply with such a status
done_by : (r reply : Reply) (status : ℕ) → status ≡ code_of reply.status → reply ≡ r
    → IsDone (code_of r.status) → IsDone status
done_by r reply status code is done =
    rw (code ∙ ap (λ (x : Reply). code_of x.status) is) done

work_done : (command : Command) (files : Files) (a : Answer) (old new : World) (status : ℕ)
    → IsWorkEnd command files a → IsReplied IsAnswer a old new status → IsDone status
work_done (Inspect image) files a old new status (bytes, there, is) replied =
    done_by _ replied.reply status replied.code (one_reply a _ replied.reply is replied.answer)
    (list_done (image_list bytes))
work_done (Disasm image) files a old new status (bytes, there, is) replied =
    done_by _ replied.reply status replied.code (one_reply a _ replied.reply is replied.answer)
    (inl refl)
work_done (Run image journal workers steps frames) files a old new status
    (bytes, there, fine, can, is) replied =
    let ran : IsAnswer (Ran report journal workers (run_setup bytes steps frames)) replied.reply =
    rw is at replied.answer in
    done_by _ replied.reply status replied.code ran.answer (end_done ran.last.end)
work_done (Replay image journal) files a old new status
    (bytes, saved, there, here, fine, spelled, is) replied =
    let ran : IsAnswer (Replayed (replay_setup bytes (journal_of saved)) (journal_of saved).entries)
    replied.reply = rw is at replied.answer in
    done_by _ replied.reply status replied.code ran.answer (end_done ran.last.end)
work_done (Rewrite image out) files a old new status (bytes, there, (r, made, is)) replied =
    done_by _ replied.reply status replied.code (one_reply a _ replied.reply is replied.answer)
    (inl refl)
work_done (Gen seed out) files a old new status is replied =
    done_by _ replied.reply status replied.code (one_reply a _ replied.reply is replied.answer)
    (inl refl)
work_done (Soak seed journal) files a old new status is replied =
    let ran : IsAnswer (Ran (λ entries s. soak_line seed s) journal USUAL_WORKERS (soak_setup seed))
    replied.reply = rw is at replied.answer in
    done_by _ replied.reply status replied.code ran.answer (end_done ran.last.end)

refuses_not_done : (why : Status) (n : ℕ) → Refuses why → IsDone n → n ≡ code_of why → ⊥
refuses_not_done why n (inl image) done same = by done
  where
    three : n ≡ 3
    three = same ∙ (rw image refl)

    by : IsDone n → ⊥
    by (inl zero) = omega (arith, three, zero)
    by (inr (inl one)) = omega (arith, three, one)
    by (inr (inr seven)) = omega (arith, three, seven)
refuses_not_done why n (inr (inl journal)) done same = by done
  where
    six : n ≡ 6
    six = same ∙ (rw journal refl)

    by : IsDone n → ⊥
    by (inl zero) = omega (arith, six, zero)
    by (inr (inl one)) = omega (arith, six, one)
    by (inr (inr seven)) = omega (arith, six, seven)
refuses_not_done why n (inr (inr rewrite)) done same = by done
  where
    eight : n ≡ 8
    eight = same ∙ (rw rewrite refl)

    by : IsDone n → ⊥
    by (inl zero) = omega (arith, eight, zero)
    by (inr (inl one)) = omega (arith, eight, one)
    by (inr (inr seven)) = omega (arith, eight, seven)

-- the status that refuses with a number
abbrev refusing : ℕ → Status
refusing n = if n == 3 then ImageRefused else if n == 6 then JournalRefused else RewriteRefused

refuses_by : (s : Status) → Refuses s → refusing (code_of s) ≡ s
refuses_by s (inl image) = rw image refl
refuses_by s (inr (inl journal)) = rw journal refl
refuses_by s (inr (inr rewrite)) = rw rewrite refl

-- two statuses that refuse are one where their numbers are
one_status : (s t : Status) → Refuses s → Refuses t → code_of s ≡ code_of t → s ≡ t
one_status s t p q same = sym (refuses_by s p) ∙ (ap refusing same ∙ refuses_by t q)

refused_status : (why : Status) (command : Command) (files : Files) (a : Answer) (old new : World)
    (status : ℕ) → Refuses why → IsEnd command files a → IsReplied IsAnswer a old new status
    → (status ≡ code_of why) ↔ IsRefusedAs why (refusal command files)
refused_status why command files a old new status refuses (inr (none, work)) replied = (
  λ same. absurd (refuses_not_done why status refuses
      (work_done command files a old new status work replied) same),
  λ (text, some). absurd (let bad = sym none ∙ some in cc),
)
refused_status why command files a old new status refuses (inl (st, text, other, cause, is)) replied
    =
    let r : replied.reply ≡ line_reply st text = one_reply a _ replied.reply is replied.answer in
    let code : status ≡ code_of st = replied.code ∙ ap (λ (x : Reply). code_of x.status) r in (
      λ same. (
        text,
        cause ∙ ap (λ (s : Status). Some (line_reply s text))
            (one_status st why other refuses (sym code ∙ same)),
      ),
      λ (said, some). (let same : line_reply st text ≡ line_reply why said = (let e = sym cause
          ∙ some in cc) in
          code ∙ ap (λ (x : Reply). code_of x.status) same),
    )

pub tells_refusal : (why : Status) (words : Option Command) (old new : World) (status : ℕ)
    → Refuses why → Carries IsAnswer (plan_for words) old new status
    → TellsRefusal why words old status
tells_refusal why words old new status refuses carries command files about replying =
    let e = ended words command files old new status carries about replying in
    refused_status why command files e.a old new status refuses e.end e.replied

-- 7 is the status of a run without an end
spent_status : (end : Option End) (status : ℕ) → status ≡ code_of (end_status end)
    → (status ≡ 7) ↔ (end ≡ None)
spent_status None status code = (λ seven. refl, λ none. code)
spent_status (Some (Exit c)) status code =
    (λ seven. absurd (omega (arith, code, seven)), λ none. absurd cc)
spent_status (Some (Fault thread rip cause addr)) status code =
    (λ seven. absurd (omega (arith, code, seven)), λ none. absurd cc)
spent_status (Some (Refused page found thread)) status code =
    (λ seven. absurd (omega (arith, code, seven)), λ none. absurd cc)

-- what the laws of other crates say, on which the promises rest
pub record Laws : Type 0 where
  pub rewriting : AnswerLaw
  pub replaying : UnbrokenLaw
  pub generated_length : LengthLaw
  pub generated_accepted : AcceptedLaw
  pub generated_startable : StartableLaw

-- a run that was answered
shown_run : Laws → (text_of : List Entry → State → List ℕ) (journal : Name)
    (bytes : List ℕ) (workers steps frames : ℕ) (a : Answer) (old new : World) (status : ℕ)
    → reading_refusal image_format bytes ≡ None
    → start_refusal (run_setup bytes steps frames) ≡ None
    → a ≡ Ran text_of journal workers (run_setup bytes steps frames)
    → IsReplied IsAnswer a old new status
    → ShowsRun text_of journal workers (run_setup bytes steps frames) old new status
shown_run laws text_of journal bytes workers steps frames a old new status fine can is replied =
    let setup = run_setup bytes steps frames in
    let ran : IsAnswer (Ran text_of journal workers setup) replied.reply =
    rw is at replied.answer in
    let whole : IsAnswered (run_reply text_of journal setup ran.entries ran.last) old new =
    rw ran.answer at replied.whole in
    let code : status ≡ code_of (end_status ran.last.end) =
    replied.code ∙ ap (λ (x : Reply). code_of x.status) ran.answer in
    record {
      entries = ran.entries;
      last = ran.last;
      own = ran.own;
      saved = whole.store.held;
      text = whole.text;
      answer = code;
      spent = spent_status ran.last.end status code;
      again = replays_run laws.replaying bytes workers steps frames ran.entries ran.last fine can
          ran.own;
    }

-- a reply that was delivered whole shows what the command found
shown : (command : Command) (files : Files) (a : Answer) (old new : World) (status : ℕ)
    → Laws → LoadsBytes (plan_of command) files → IsWorkEnd command files a
    → IsReplied IsAnswer a old new status
    → Shows command files old new status
shown (Inspect image) files a old new status laws loads (bytes, there, is) replied =
    let r = one_reply a (list_reply (image_list bytes)) replied.reply is replied.answer in (
      bytes,
      there,
      record {
        answer = replied.code ∙ ap (λ (x : Reply). code_of x.status) r;
        text = rw r at replied.whole.text;
      },
    )
shown (Disasm image) files a old new status laws loads (bytes, there, is) replied =
    let r = one_reply a (disasm_reply bytes) replied.reply is replied.answer in (
      bytes,
      there,
      record {
        answer = replied.code ∙ ap (λ (x : Reply). code_of x.status) r;
        text = rw r at replied.whole.text;
      },
    )
shown (Run image journal workers steps frames) files a old new status laws loads
    (bytes, there, fine, can, is) replied = (
      bytes,
      there,
      shown_run laws report journal bytes workers steps frames a old new status fine can is replied,
    )
shown (Replay image journal) files a old new status laws loads
    (bytes, saved, there, here, fine, spelled, is) replied =
    let j = journal_of saved in
    let last : JournalValue → Plan Answer = λ k. started_replay (replay_setup bytes k) k.entries in
    let next : List ℕ → Plan Answer = λ b. with_file journal_format journal
    (λ k. started_replay (replay_setup b k) k.entries) in
    let rest = file_bytes image_format image next files bytes loads there fine in
    let octets = file_bytes journal_format journal last files saved rest.1 here spelled in
    let ran : IsAnswer (Replayed (replay_setup bytes j) j.entries) replied.reply =
    rw is at replied.answer in
    let whole : IsAnswered (replay_reply j.entries ran.last) old new =
    rw ran.answer at replied.whole in
    let code : status ≡ code_of (end_status ran.last.end) =
    replied.code ∙ ap (λ (x : Reply). code_of x.status) ran.answer in
    let shows : ShowsReplay bytes saved old new status = record {
      last = ran.last;
      whole = ran.whole;
      text = whole.text;
      answer = code;
      spent = spent_status ran.last.end status code;
      spelling = saved_spelling saved spelled octets.0;
    } in
    (bytes, saved, there, here, shows)
shown (Rewrite image out) files a old new status laws loads (bytes, there, (r, made, is)) replied =
    let same = one_reply a (rewrite_reply out r) replied.reply is replied.answer in
    let whole : IsAnswered (rewrite_reply out r) old new = rw same at replied.whole in
    let clean = laws.rewriting bytes r made in
    let shows : ShowsRewritten bytes out old new status = record {
      is = r;
      made = made;
      accepted = clean.0;
      clean = clean.1;
      answer = replied.code ∙ ap (λ (x : Reply). code_of x.status) same;
      saved = whole.store.held;
      text = whole.text;
    } in
    (bytes, there, shows)
shown (Gen seed out) files a old new status laws loads is replied =
    let r = one_reply a (gen_reply seed out) replied.reply is replied.answer in
    let whole : IsAnswered (gen_reply seed out) old new = rw r at replied.whole in
    record {
      answer = replied.code ∙ ap (λ (x : Reply). code_of x.status) r;
      saved = whole.store.held;
      text = whole.text;
    }
shown (Soak seed journal) files a old new status laws loads is replied =
    shown_run laws (λ entries s. soak_line seed s) journal _ USUAL_WORKERS USUAL_STEPS
    USUAL_FRAMES a old new status (seed_accepted seed laws.generated_length laws.generated_accepted)
    (seed_starts seed laws.generated_startable) is replied

pub tells_work : (words : Option Command) (old new : World) (status : ℕ) → Laws
    → Carries IsAnswer (plan_for words) old new status → TellsWork words old new status
tells_work words old new status laws carries command files about taken replying =
    let e = ended words command files old new status carries about replying in
    by e e.end
  where
    by : (e : HasEnded command files old new status) → IsEnd command files e.a
        → Shows command files old new status
    by e (inl (st, text, refuses, cause, is)) = absurd (let bad = sym taken ∙ cause in cc)
    by e (inr (none, work)) = shown command files e.a old new status laws e.bytes work e.replied

pub tells_complete : (words : Option Command) (old new : World) (status : ℕ) → Laws
    → Carries IsAnswer (plan_for words) old new status → IsComplete words old new status
tells_complete words old new status laws carries command files about clean =
    elim (cases_Bool (eqb status 5)) [
      | inl five ↦ inl (eqb-true _ _ five)
      | inr other ↦ elim (cases_Bool (eqb status 4)) [
        | inl four ↦ absurd (no_fault
            (tells_fault words old new status carries (eqb-true _ _ four)))
        | inr neither ↦ inr (done (eqb-false _ _ neither, eqb-false _ _ other))
      ]
    ]
  where
    by : (e : HasEnded command files old new status) → IsEnd command files e.a
        → Does (refusal command files) command files old new status
    by e (inl (st, text, refuses, cause, is)) =
        (let r = one_reply e.a (line_reply st text) e.replied.reply is e.replied.answer in
        let does : Does (Some (line_reply st text)) command files old new status =
        (e.replied.code ∙ ap (λ (x : Reply). code_of x.status) r, rw r at e.replied.whole) in
        rw cause does)
    by e (inr (none, work)) =
        (let does : Does None command files old new status =
        shown command files e.a old new status laws e.bytes work e.replied in
        rw none does)

    done : IsReplying status → Does (refusal command files) command files old new status
    done replying =
        (let e = ended words command files old new status carries about replying in by e e.end)

    longer : (name : Name) (names more : List Name) → more ≡ names ++ name ∷ [] → more ≡ names → ⊥
    longer name names more one same =
        (let long = ap length one in
        let short = ap length same in
        omega (arith, long, short, length-append names (name ∷ [])))

    no_fault : GainsLoad words old new ⊎ (GainsSave words old new ⊎ CountsPut old new)
        → ⊥
    no_fault (inl load) = longer load.0 _ _ load.2 clean.loads
    no_fault (inr (inl save)) = longer save.0 _ _ save.2 clean.saves
    no_fault (inr (inr put)) = clean.puts put.2

-- ---- all of it

pub promises : (words : Option Command) (old new : World) (status : ℕ) → Laws
    → Carries IsAnswer (plan_for words) old new status → Promises words old new status
promises words old new status laws carries = record {
  ends = carries;
  end = tells_end IsAnswer (plan_for words) old new status carries;
  words = tells_words words old new status carries;
  image = tells_refusal ImageRefused words old new status (inl refl) carries;
  journal = tells_refusal JournalRefused words old new status (inr (inl refl)) carries;
  rewriting = tells_refusal RewriteRefused words old new status (inr (inr refl)) carries;
  work = tells_work words old new status laws carries;
  fault = tells_fault words old new status carries;
  faultless = tells_faultless IsAnswer (plan_for words) old new status carries;
  memory = tells_memory IsAnswer (plan_for words) old new status carries;
  complete = tells_complete words old new status laws carries;
}

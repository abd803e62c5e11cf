use Rattle.std.proofs.Common.{◌≡◌, ◌∙◌, ap, sym, subst, Option, List}
use Rattle.erim_defs.specs.declared.machine.End.{End}
use Rattle.erim_defs.specs.declared.machine.Entry.{Entry}
use Rattle.erim_defs.specs.Machine.State.{Setup}
use Rattle.erim_defs.specs.Output.Journal.{IsJournal, journal_text}
use Rattle.erim_process.specs.ProcessValue.{state_of}
use Rattle.erim_commands.specs.Replies.{end_status, run_journal}
use Rattle.erim_commands.proofs.ReportLemmas.{run_replied}
use Rattle.erim_commands.proofs.runs.run_reply.Goals as goal

pub write_journal-requires : goal.write_journal-requires
write_journal-requires c =
    let P : Setup → Type 0 = λ s. IsJournal (run_journal s c.journal.result.now) in
    subst P (sym c.setup-setup.ensures.value) c.journal.ensures.form

pub returns : goal.returns
returns c =
    let p = c.args.process.now in
    let status = c.end_status.ensures
    ∙ ap (λ (end : Option End). end_status end) c.end.ensures.value in
    let entries = c.journal.ensures.entries in
    let setup = c.setup-setup.ensures.value in
    let bytes : c.in_ok-bytes.bytes.items ≡ journal_text (run_journal p.setup p.journal) =
    c.in_ok-bytes.ensures ∙ ap (λ (es : List Entry). journal_text
    (record {
      budget = c.setup-setup.result.now.budget;
      frames = c.setup-setup.result.now.frames;
      entries = es;
    })) entries
    ∙ ap (λ (s : Setup). journal_text (run_journal s p.journal)) setup in
    let Q : List Entry → Type 0 = λ es. IsJournal (run_journal p.setup es) in
    λ text_of text. run_replied text_of p.setup c.args.journal.now c.args.workers p.journal
    (state_of p) _ _ _
    (record {
      whole = record {
        runs = c.journal.ensures.run;
        over = c.requires.over;
        isolated = c.setup-setup.ensures.isolated;
        lawful = c.setup-setup.ensures.lawful;
      };
      form = subst Q entries c.journal.ensures.form;
      within = c.requires.within;
    })
    status text bytes

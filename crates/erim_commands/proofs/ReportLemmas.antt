-- The reply of a run.
use Rattle.std.proofs.Common.{◌≡◌, ℕ, List, Some, refl}
use Rattle.erim_io.specs.Store.{Name}
use Rattle.erim_defs.specs.declared.machine.Entry.{Entry}
use Rattle.erim_defs.specs.Machine.State.{Setup, State}
use Rattle.erim_defs.specs.Output.Journal.{journal_text}
use Rattle.erim_commands.specs.declared.reply.Status.{Status}
use Rattle.erim_commands.specs.Replies.{IsRunReply, IsOwnRun, end_status, run_journal}

-- a reply of a text, the journal and the status of a run
pub run_replied : (text_of : List Entry → State → List ℕ) (setup : Setup) (journal : Name)
    (workers : ℕ) (entries : List Entry) (last : State) (status : Status) (text bytes : List ℕ)
    → IsOwnRun workers setup entries last → status ≡ end_status last.end
    → text ≡ text_of entries last
    → bytes ≡ journal_text (run_journal setup entries)
    → IsRunReply text_of journal workers setup (record {
      status = status;
      text = text;
      save = Some (record { name = journal; bytes = bytes });
    })
run_replied text_of setup journal workers entries last status text bytes own status_is text_is
    bytes_is =
    record {
      entries = entries;
      last = last;
      own = own;
      answer = rw (status_is, text_is, bytes_is) refl;
    }

-- Bytes without a fault, and what is read of them.
use Rattle.std.proofs.Common.{◌≡◌, ℕ, ◌≤◌, List, length, None, refl, arith, ◌∙◌, ap}
use Rattle.erim_defs.specs.declared.machine.Entry.{Entry}
use Rattle.erim_defs.specs.Output.Journal.{JournalValue, IsJournal, budget_of, count_of, frames_of}
use Rattle.erim_defs.specs.Output.Journal.{entries_from, journal_fault, journal_of, journal_text}
use Rattle.erim_defs.proofs.JournalLemmas.{faultless_length, journal_faultless}
use Rattle.journal_bytes.specs.Entries.{HasEntries}

pub has_header : (bytes : List ℕ) → journal_fault bytes ≡ None → 20 ≤ length bytes
has_header bytes none = omega (arith, faultless_length bytes none)

pub has_entries : (bytes : List ℕ) → journal_fault bytes ≡ None → HasEntries bytes
has_entries bytes none = omega (arith, faultless_length bytes none)

-- the journal of the fields and the entries that were read
pub is_read : (bytes : List ℕ) (budget frames : ℕ) (entries : List Entry)
    → budget ≡ budget_of bytes → frames ≡ frames_of bytes
    → entries ≡ entries_from bytes 20 (count_of bytes)
    → let journal : JournalValue =
    record { budget = budget; frames = frames; entries = entries } in journal ≡ journal_of bytes
unfolding journal_of
is_read bytes budget frames entries b f es = rw (b, f, es) refl

pub has_none : (bytes : List ℕ) (journal : JournalValue) → IsJournal journal
    → bytes ≡ journal_text journal → journal_fault bytes ≡ None
has_none bytes journal is text = ap journal_fault text ∙ journal_faultless journal is

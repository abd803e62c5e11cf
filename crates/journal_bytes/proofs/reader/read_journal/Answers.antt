use Rattle.std.proofs.Common.{◌≡◌, sym, arith, None}
use Rattle.erim_defs.specs.Output.Journal.{journal_fault}
use Rattle.erim_defs.proofs.JournalLemmas.{faultless_journal, faultless_text}
use Rattle.journal_bytes.proofs.ReadLemmas.{has_none, is_read}
use Rattle.journal_bytes.proofs.reader.read_journal.Goals as goal

pub returns-in-Some-clause-only : goal.returns-in-Some-clause-only
returns-in-Some-clause-only c = has_none c.args.bytes.now

pub returns-clause-found : goal.returns-clause-found
returns-clause-found c =
    let bytes = c.args.bytes.now in
    let none : journal_fault bytes ≡ None = sym c.in_default.ensures in
    let read = is_read bytes c.budget_of.result c.frames_of.result c.in_ok-entries.entries.items
    c.budget_of.ensures c.frames_of.ensures c.in_ok-entries.ensures in
    rw read (
      faultless_journal bytes none,
      faultless_text bytes (λ i. omega (arith, c.type_inv.bytes i)) none,
    )

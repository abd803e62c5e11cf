use Rattle.erim_defs.proofs.JournalLemmas.{one_journal}
use Rattle.erim_defs.proofs.journal.one_journal.Goals as goal

pub returns : goal.returns
returns c = one_journal

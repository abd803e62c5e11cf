use Rattle.std.proofs.Common.{◌≡◌}
use Rattle.erim_defs.specs.Output.Journal.{count_of, entries_from, entry_fault}
use Rattle.journal_bytes.specs.Entries.{entries_left}
use Rattle.journal_bytes.proofs.entries.entry_fault.Given as goal

abbrev pub invariant-loop-index : goal.invariant-loop-index
invariant-loop-index l =
    entry_fault l.index (entries_left l.bytes l.index)
    ≡ entry_fault 0 (entries_from l.bytes 20 (count_of l.bytes))

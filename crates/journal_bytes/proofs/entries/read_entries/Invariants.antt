use Rattle.std.proofs.Common.{◌≡◌, ◌++◌}
use Rattle.erim_defs.specs.Output.Journal.{count_of, entries_from}
use Rattle.journal_bytes.specs.Entries.{entries_left}
use Rattle.journal_bytes.proofs.entries.read_entries.Given as goal

abbrev pub invariant-loop-index : goal.invariant-loop-index
invariant-loop-index l =
    l.entries.items ++ entries_left l.bytes l.index
    ≡ entries_from l.bytes 20 (count_of l.bytes)

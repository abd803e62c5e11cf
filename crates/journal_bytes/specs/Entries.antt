-- The entries of bytes by their numbers.
use Rattle.std.specs.Prelude.{ℕ, ◌+◌, ◌-◌, ◌*◌, ◌≤◌, List, length}
use Rattle.erim_defs.specs.declared.machine.Entry.{Entry}
use Rattle.erim_defs.specs.Output.Journal.{count_of, entries_from, entry_at}

-- as many bytes as the count says
abbrev pub HasEntries : List ℕ → Type 0
HasEntries bytes = 20 + 8 * count_of bytes ≤ length bytes

-- the entry of a number
unfoldable pub entry_of : List ℕ → ℕ → Entry
entry_of bytes index = entry_at bytes (20 + 8 * index)

-- the entries from a number on
unfoldable pub entries_left : List ℕ → ℕ → List Entry
entries_left bytes index = entries_from bytes (20 + 8 * index) (count_of bytes - index)

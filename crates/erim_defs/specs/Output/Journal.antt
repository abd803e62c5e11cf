-- Journals: which ones there are, the bytes of a saved one, and what bytes are no journal. Own.
-- Fields have the low byte first.
use Rattle.std.specs.Prelude.{◌≡◌, ◌≤◌, ℕ, ◌+◌, ◌*◌, ◌&&◌, not, nat_lt, nat_le, true, Bool}
use Rattle.std.specs.Prelude.{Option, Some, None, List, [], ◌∷◌, ◌++◌, length, take, codes}
use Rattle.std.specs.Prelude.{zero, suc}
use Rattle.std.specs.Prelude.{if◌then◌else◌}
use Rattle.std.specs.List.{flat_map, AllByRecursion}
use Rattle.std.specs.Int.{w16, w32, to_le_bytes}
use Rattle.std.specs.Str.{bytes_eq}
use Rattle.erim_defs.specs.declared.limits.TheConstants.{LEAST_FRAMES, MOST_COUNT, MOST_FRAMES}
use Rattle.erim_defs.specs.declared.limits.TheConstants.{MOST_STEPS}
use Rattle.erim_defs.specs.declared.limits.TheConstants.{MOST_THREADS, MOST_WORKERS}
use Rattle.erim_defs.specs.declared.journal.JournalFault.{JournalFault}
use Rattle.erim_defs.specs.declared.journal.JournalFault.TheVariants.{Short, Magic, Budget, Frames}
use Rattle.erim_defs.specs.declared.journal.JournalFault.TheVariants.{Count, Trailing, BadEntry}
use Rattle.erim_defs.specs.declared.machine.Entry.{Entry}
use Rattle.erim_defs.specs.Inspection.Image.{number_at}

-- the steps of a run, with the budget and the frames that it had
pub record JournalValue : Type 0 where
  pub budget : ℕ
  pub frames : ℕ
  pub entries : List Entry

-- ---- which journals there are

-- a worker of at most 8, a thread of at most 15, 1 to 64 steps
abbrev pub is_journal_entry : Entry → Bool
is_journal_entry e = nat_le e.worker MOST_WORKERS && (nat_lt e.thread MOST_THREADS
    && (nat_le 1 e.count && nat_le e.count MOST_COUNT))

abbrev pub AreEntries : List Entry → Type 0
AreEntries entries = AllByRecursion (λ e. is_journal_entry e ≡ true) entries

-- a budget of 1 to 4,194,304 steps, 64 to 4,096 frames, and no more entries than steps
pub record IsJournal (j : JournalValue) : Type 0 where
  pub some : 1 ≤ j.budget
  pub budget : j.budget ≤ MOST_STEPS
  pub least : LEAST_FRAMES ≤ j.frames
  pub frames : j.frames ≤ MOST_FRAMES
  pub count : length j.entries ≤ j.budget
  pub entries : AreEntries j.entries

-- ---- the bytes of a saved journal

-- worker, thread, count
abbrev pub entry_bytes : Entry → List ℕ
entry_bytes e = to_le_bytes w16 e.worker ++ (to_le_bytes w16 e.thread ++ to_le_bytes w32 e.count)

-- the mark, the budget, the frames, how many entries there are, and the entries
unfoldable pub journal_text : JournalValue → List ℕ
journal_text j =
    codes "ERIMJNL1"
    ++ (to_le_bytes w32 j.budget
    ++ (to_le_bytes w32 j.frames
    ++ (to_le_bytes w32 (length j.entries) ++ flat_map entry_bytes j.entries)))

-- the law that two journals never share their bytes: they determine budget, frames and entries
abbrev pub OneJournal : Type 0
OneJournal = (j k : JournalValue) → IsJournal j → IsJournal k → journal_text j ≡ journal_text k
    → j ≡ k

-- ---- what bytes say, and the first fault of those that are no journal

-- worker, thread and count of the eight bytes from a place on
abbrev pub entry_at : List ℕ → ℕ → Entry
entry_at bytes place = record {
  worker = number_at bytes place 2;
  thread = number_at bytes (place + 2) 2;
  count = number_at bytes (place + 4) 4;
}

-- a given number of entries from a place on
unfoldable pub entries_from : List ℕ → ℕ → ℕ → List Entry
entries_from bytes place zero = []
entries_from bytes place (suc n) = entry_at bytes place ∷ entries_from bytes (place + 8) n

-- the budget, the frames, and how many entries there are to be
abbrev pub budget_of : List ℕ → ℕ
budget_of bytes = number_at bytes 8 4

abbrev pub frames_of : List ℕ → ℕ
frames_of bytes = number_at bytes 12 4

abbrev pub count_of : List ℕ → ℕ
count_of bytes = number_at bytes 16 4

-- the journal whose bytes they are. It is defined of any bytes, and meant for those without a
-- fault.
unfoldable pub journal_of : List ℕ → JournalValue
journal_of bytes = record {
  budget = budget_of bytes;
  frames = frames_of bytes;
  entries = entries_from bytes 20 (count_of bytes);
}

-- the first entry that isn't one, from an index on
unfoldable pub entry_fault : ℕ → List Entry → Option JournalFault
entry_fault index [] = None
entry_fault index (e ∷ es) =
    if is_journal_entry e then entry_fault (index + 1) es else Some (BadEntry index)

-- the first fault
unfoldable pub journal_fault : List ℕ → Option JournalFault
journal_fault bytes =
    let end = 20 + 8 * count_of bytes in
    if nat_lt (length bytes) 20 then Some (Short (length bytes))
    else if not (bytes_eq (take 8 bytes) (codes "ERIMJNL1")) then Some Magic
    else if not (nat_le 1 (budget_of bytes) && nat_le (budget_of bytes) MOST_STEPS) then Some Budget
    else if not (nat_le LEAST_FRAMES (frames_of bytes)
    && nat_le (frames_of bytes) MOST_FRAMES) then Some Frames
    else if nat_lt (budget_of bytes) (count_of bytes) then Some Count
    else if nat_lt (length bytes) end then Some (Short (length bytes))
    else if nat_lt end (length bytes) then Some (Trailing end)
    else entry_fault 0 (entries_from bytes 20 (count_of bytes))

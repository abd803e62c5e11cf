-- The bytes of journals, what bytes are read as, the first faults of those that are no journal, and
-- which entries there are, computed. The bytes are from the format.
use Rattle.std.proofs.Common.{◌≡◌, ℕ, true, false, List, [], ◌∷◌, ◌++◌, Option, Some, None, take}
use Rattle.std.proofs.Common.{map, refl}
use Rattle.std.specs.Prelude.{codes, slice_set}
use Rattle.erim_defs.specs.declared.journal.JournalFault.{JournalFault}
use Rattle.erim_defs.specs.declared.journal.JournalFault.TheVariants.{Short, Magic, Budget, Frames}
use Rattle.erim_defs.specs.declared.journal.JournalFault.TheVariants.{Count, Trailing, BadEntry}
use Rattle.erim_defs.specs.declared.machine.Entry.{Entry}
use Rattle.erim_defs.specs.Inspection.Image.{number_at}
use Rattle.erim_defs.specs.Output.Journal.{journal_text, is_journal_entry, entries_from, journal_of}
use Rattle.erim_defs.specs.Output.Journal.{entry_fault, journal_fault}

abbrev entry : ℕ → ℕ → ℕ → Entry
entry worker thread count = record { worker = worker; thread = thread; count = count }

-- a run of four steps of thread 0 by worker 0
journal_of_one :
    journal_text (record { budget = 1000000; frames = 1024; entries = entry 0 0 4 ∷ [] })
    ≡ codes "ERIMJNL1"
    ++ 0x40 ∷ 0x42 ∷ 0x0F ∷ 0 ∷ 0 ∷ 4 ∷ 0 ∷ 0 ∷ 1 ∷ 0 ∷ 0 ∷ 0
    ∷ 0 ∷ 0 ∷ 0 ∷ 0 ∷ 4 ∷ 0 ∷ 0 ∷ 0 ∷ []
unfolding journal_text
journal_of_one = refl

-- worker 2 and thread 1, worker 8 and thread 15; the count is that of the entries
journal_of_two :
    let entries = entry 2 1 3 ∷ entry 8 15 64 ∷ [] in
    journal_text (record { budget = 4194304; frames = 64; entries = entries })
    ≡ codes "ERIMJNL1"
    ++ 0 ∷ 0 ∷ 0x40 ∷ 0 ∷ 0x40 ∷ 0 ∷ 0 ∷ 0 ∷ 2 ∷ 0 ∷ 0 ∷ 0
    ∷ 2 ∷ 0 ∷ 1 ∷ 0 ∷ 3 ∷ 0 ∷ 0 ∷ 0
    ∷ 8 ∷ 0 ∷ 15 ∷ 0 ∷ 64 ∷ 0 ∷ 0 ∷ 0 ∷ []
unfolding journal_text
journal_of_two = refl

journal_of_none :
    journal_text (record { budget = 1; frames = 4096; entries = [] })
    ≡ codes "ERIMJNL1" ++ 1 ∷ 0 ∷ 0 ∷ 0 ∷ 0 ∷ 0x10 ∷ 0 ∷ 0 ∷ 0 ∷ 0 ∷ 0 ∷ 0 ∷ []
unfolding journal_text
journal_of_none = refl

-- workers to 8, threads to 15, 1 to 64 steps
entries :
    map is_journal_entry
    (entry 0 0 1 ∷ entry 8 15 64 ∷ entry 9 0 1 ∷ entry 0 16 1 ∷ entry 0 0 0 ∷ entry 0 0 65 ∷ [])
    ≡ true ∷ true ∷ false ∷ false ∷ false ∷ false ∷ []
entries = refl

-- ---- what bytes are read as

-- the journal of one entry: the mark, budget and frames, how many entries, and the entry
saved : List ℕ
saved =
    0x45 ∷ 0x52 ∷ 0x49 ∷ 0x4D ∷ 0x4A ∷ 0x4E ∷ 0x4C ∷ 0x31 ∷
    0x40 ∷ 0x42 ∷ 0x0F ∷ 0x00 ∷ 0x00 ∷ 0x04 ∷ 0x00 ∷ 0x00 ∷
    0x01 ∷ 0x00 ∷ 0x00 ∷ 0x00 ∷
    0x00 ∷ 0x00 ∷ 0x00 ∷ 0x00 ∷ 0x04 ∷ 0x00 ∷ 0x00 ∷ 0x00 ∷ []

is_read :
    journal_of saved ≡ record { budget = 1000000; frames = 1024; entries = entry 0 0 4 ∷ [] }
unfolding saved journal_of number_at entries_from
is_read = refl

-- each byte of a field counts, and the entries stand one after the other
fields_are_read :
    journal_of (codes "ERIMJNL1"
    ++ 1 ∷ 2 ∷ 3 ∷ 4 ∷ 5 ∷ 6 ∷ 7 ∷ 8 ∷ 2 ∷ 0 ∷ 0 ∷ 0
    ∷ 9 ∷ 10 ∷ 11 ∷ 12 ∷ 13 ∷ 14 ∷ 15 ∷ 16
    ∷ 17 ∷ 18 ∷ 19 ∷ 20 ∷ 21 ∷ 22 ∷ 23 ∷ 24 ∷ [])
    ≡ record {
      budget = 0x04030201;
      frames = 0x08070605;
      entries = entry 0x0A09 0x0C0B 0x100F0E0D ∷ entry 0x1211 0x1413 0x18171615 ∷ [];
    }
unfolding journal_of number_at entries_from
fields_are_read = refl

-- ---- first faults

-- the first fault, computed
fault_of : List ℕ → Option JournalFault
unfolding journal_fault number_at entries_from entry_fault
fault_of bytes = journal_fault bytes

-- those of the journal of one entry with another byte
faults_at : ℕ → List ℕ → List (Option JournalFault)
unfolding saved fault_of
faults_at place values = map (λ value. fault_of (slice_set saved place value)) values

faultless : fault_of saved ≡ None
unfolding saved fault_of
faultless = refl

-- within the header, after it, and within the entry
short :
    map (λ n. fault_of (take n saved)) (0 ∷ 8 ∷ 19 ∷ 20 ∷ 27 ∷ [])
    ≡ Some (Short 0) ∷ Some (Short 8) ∷ Some (Short 19) ∷ Some (Short 20) ∷ Some (Short 27) ∷ []
unfolding saved fault_of
short = refl

mark :
    map (λ place. fault_of (slice_set saved place 0x30)) (0 ∷ 1 ∷ 2 ∷ 3 ∷ 4 ∷ 5 ∷ 6 ∷ 7 ∷ [])
    ≡ Some Magic ∷ Some Magic ∷ Some Magic ∷ Some Magic
    ∷ Some Magic ∷ Some Magic ∷ Some Magic ∷ Some Magic ∷ []
unfolding saved fault_of
mark = refl

-- a journal of no entry
abbrev header : List ℕ → List ℕ → List ℕ
header budget frames = codes "ERIMJNL1" ++ (budget ++ (frames ++ 0 ∷ 0 ∷ 0 ∷ 0 ∷ []))

-- a budget of 0, 1, 4,194,304, 4,194,305, 2^24
budgets :
    map (λ budget. fault_of (header budget (0 ∷ 4 ∷ 0 ∷ 0 ∷ [])))
    ((0 ∷ 0 ∷ 0 ∷ 0 ∷ []) ∷ (1 ∷ 0 ∷ 0 ∷ 0 ∷ []) ∷ (0 ∷ 0 ∷ 0x40 ∷ 0 ∷ [])
    ∷ (1 ∷ 0 ∷ 0x40 ∷ 0 ∷ []) ∷ (0 ∷ 0 ∷ 0 ∷ 1 ∷ []) ∷ [])
    ≡ Some Budget ∷ None ∷ None ∷ Some Budget ∷ Some Budget ∷ []
unfolding fault_of
budgets = refl

-- frames 63, 64, 4,096, 4,097, 0, 2^24
frames :
    map (λ frames. fault_of (header (1 ∷ 0 ∷ 0 ∷ 0 ∷ []) frames))
    ((63 ∷ 0 ∷ 0 ∷ 0 ∷ []) ∷ (64 ∷ 0 ∷ 0 ∷ 0 ∷ []) ∷ (0 ∷ 0x10 ∷ 0 ∷ 0 ∷ [])
    ∷ (1 ∷ 0x10 ∷ 0 ∷ 0 ∷ []) ∷ (0 ∷ 0 ∷ 0 ∷ 0 ∷ []) ∷ (0 ∷ 0 ∷ 0 ∷ 1 ∷ []) ∷ [])
    ≡ Some Frames ∷ None ∷ None ∷ Some Frames ∷ Some Frames ∷ Some Frames ∷ []
unfolding fault_of
frames = refl

-- a given number of entries of one step each, with a budget of two
abbrev counted : ℕ → List ℕ → List ℕ
counted count entries =
    codes "ERIMJNL1" ++ (2 ∷ 0 ∷ 0 ∷ 0 ∷ 64 ∷ 0 ∷ 0 ∷ 0 ∷ count ∷ 0 ∷ 0 ∷ 0 ∷ entries)

abbrev one_step : List ℕ
one_step = 0 ∷ 0 ∷ 0 ∷ 0 ∷ 1 ∷ 0 ∷ 0 ∷ 0 ∷ []

counts :
    fault_of (counted 1 one_step) ∷ fault_of (counted 2 (one_step ++ one_step))
    ∷ fault_of (counted 3 (one_step ++ (one_step ++ one_step))) ∷ []
    ≡ None ∷ None ∷ Some Count ∷ []
unfolding fault_of
counts = refl

-- a byte more, an entry more, and after no entry
trailing :
    fault_of (saved ++ 0 ∷ []) ∷ fault_of (counted 1 (one_step ++ one_step))
    ∷ fault_of (counted 0 (7 ∷ [])) ∷ fault_of (counted 0 []) ∷ []
    ≡ Some (Trailing 28) ∷ Some (Trailing 28) ∷ Some (Trailing 20) ∷ None ∷ []
unfolding saved fault_of
trailing = refl

-- worker 8, 9 and 256; thread 15, 16 and 256
workers : faults_at 20 (8 ∷ 9 ∷ []) ++ faults_at 21 (1 ∷ [])
    ≡ None ∷ Some (BadEntry 0) ∷ Some (BadEntry 0) ∷ []
unfolding faults_at
workers = refl

threads : faults_at 22 (15 ∷ 16 ∷ []) ++ faults_at 23 (1 ∷ [])
    ≡ None ∷ Some (BadEntry 0) ∷ Some (BadEntry 0) ∷ []
unfolding faults_at
threads = refl

-- steps 0, 1, 64, 65, and 4 more than 2^8, 2^16, 2^24
steps :
    faults_at 24 (0 ∷ 1 ∷ 64 ∷ 65 ∷ [])
    ++ (faults_at 25 (1 ∷ []) ++ (faults_at 26 (1 ∷ []) ++ faults_at 27 (1 ∷ [])))
    ≡ Some (BadEntry 0) ∷ None ∷ None ∷ Some (BadEntry 0)
    ∷ Some (BadEntry 0) ∷ Some (BadEntry 0) ∷ Some (BadEntry 0) ∷ []
unfolding faults_at
steps = refl

-- an entry of no step after one of one, before one, and before another of none
bad_entries :
    let no_step : List ℕ = 0 ∷ 0 ∷ 0 ∷ 0 ∷ 0 ∷ 0 ∷ 0 ∷ 0 ∷ [] in
    fault_of (counted 2 (one_step ++ no_step)) ∷ fault_of (counted 2 (no_step ++ one_step))
    ∷ fault_of (counted 2 (no_step ++ no_step)) ∷ []
    ≡ Some (BadEntry 1) ∷ Some (BadEntry 0) ∷ Some (BadEntry 0) ∷ []
unfolding fault_of
bad_entries = refl

-- ---- two faults at once: the first of them

abbrev no_mark : List ℕ → List ℕ
no_mark bytes = slice_set bytes 0 0

-- budget 0, frames 0, 16,777,217 entries, worker 255
abbrev no_budget : List ℕ → List ℕ
no_budget bytes = slice_set (slice_set (slice_set bytes 8 0) 9 0) 10 0

abbrev no_frames : List ℕ → List ℕ
no_frames bytes = slice_set bytes 13 0

abbrev too_many : List ℕ → List ℕ
too_many bytes = slice_set bytes 19 1

abbrev no_entry : List ℕ → List ℕ
no_entry bytes = slice_set bytes 20 255

header_and_others :
    fault_of (take 19 (no_mark saved)) ∷ fault_of (take 19 (no_budget saved)) ∷ []
    ≡ Some (Short 19) ∷ Some (Short 19) ∷ []
unfolding saved fault_of
header_and_others = refl

mark_and_others :
    map (λ bytes. fault_of (no_mark bytes))
    (no_budget saved ∷ no_frames saved ∷ too_many saved ∷ take 27 saved ∷ (saved ++ 0 ∷ [])
    ∷ no_entry saved ∷ [])
    ≡ Some Magic ∷ Some Magic ∷ Some Magic ∷ Some Magic ∷ Some Magic ∷ Some Magic ∷ []
unfolding saved fault_of
mark_and_others = refl

budget_and_others :
    map (λ bytes. fault_of (no_budget bytes))
    (no_frames saved ∷ saved ∷ take 27 saved ∷ (saved ++ 0 ∷ []) ∷ no_entry saved ∷ [])
    ≡ Some Budget ∷ Some Budget ∷ Some Budget ∷ Some Budget ∷ Some Budget ∷ []
unfolding saved fault_of
budget_and_others = refl

frames_and_others :
    map (λ bytes. fault_of (no_frames bytes))
    (too_many saved ∷ take 27 saved ∷ (saved ++ 0 ∷ []) ∷ no_entry saved ∷ [])
    ≡ Some Frames ∷ Some Frames ∷ Some Frames ∷ Some Frames ∷ []
unfolding saved fault_of
frames_and_others = refl

-- too many entries to stand there, and a first one that isn't one
count_and_others :
    fault_of (too_many saved) ∷ fault_of (too_many (take 20 saved))
    ∷ fault_of (too_many (no_entry saved)) ∷ []
    ≡ Some Count ∷ Some Count ∷ Some Count ∷ []
unfolding saved fault_of
count_and_others = refl

length_and_entry :
    fault_of (take 27 (no_entry saved)) ∷ fault_of (no_entry saved ++ 0 ∷ []) ∷ []
    ≡ Some (Short 27) ∷ Some (Trailing 28) ∷ []
unfolding saved fault_of
length_and_entry = refl

-- One entry after another.
use Rattle.std.proofs.Common.{◌≡◌, ℕ, suc, ◌+◌, ◌-◌, ◌*◌, ◌<◌, ◌≤◌, List, [], ◌∷◌, ◌++◌, Some, None}
use Rattle.std.proofs.Common.{true, false, refl, ap, arith, append_assoc}
use Rattle.std.proofs.lemmas.List.{append-nil}
use Rattle.erim_defs.specs.declared.journal.JournalFault.TheVariants.{BadEntry}
use Rattle.erim_defs.specs.declared.machine.Entry.{Entry}
use Rattle.erim_defs.specs.Output.Journal.{count_of, entries_from, entry_at, entry_fault}
use Rattle.erim_defs.specs.Output.Journal.{is_journal_entry}
use Rattle.journal_bytes.specs.Entries.{entries_left, entry_of}

-- a number of entries that isn't 0
from_more : (bytes : List ℕ) (place n m : ℕ) → n ≡ suc m
    → entries_from bytes place n ≡ entry_at bytes place ∷ entries_from bytes (place + 8) m
unfolding entries_from
from_more bytes place n m e = rw e refl

-- all are left at first
left_all : (bytes : List ℕ) → entries_left bytes 0 ≡ entries_from bytes 20 (count_of bytes)
unfolding entries_left
left_all bytes =
    let count : count_of bytes - 0 ≡ count_of bytes = omega arith in
    rw count refl

-- the next one
left_next : (bytes : List ℕ) (index : ℕ) → index < count_of bytes
    → entries_left bytes index ≡ entry_of bytes index ∷ entries_left bytes (index + 1)
unfolding entries_left entry_of
left_next bytes index h =
    let count : count_of bytes - index ≡ suc (count_of bytes - (index + 1)) = omega arith in
    let place : 20 + 8 * (index + 1) ≡ 20 + 8 * index + 8 = omega arith in
    rw place (from_more bytes (20 + 8 * index) _ _ count)

-- none at last
left_none : (bytes : List ℕ) (index : ℕ) → count_of bytes ≤ index → entries_left bytes index ≡ []
unfolding entries_left entries_from
left_none bytes index h =
    let count : count_of bytes - index ≡ 0 = omega arith in
    rw count refl

-- ---- the first that no journal may have

pub fault_begins : (bytes : List ℕ)
    → entry_fault 0 (entries_left bytes 0) ≡ entry_fault 0 (entries_from bytes 20 (count_of bytes))
fault_begins bytes = ap (entry_fault 0) (left_all bytes)

pub fault_stops : (bytes : List ℕ) (index : ℕ) → index < count_of bytes
    → is_journal_entry (entry_of bytes index) ≡ false
    → entry_fault index (entries_left bytes index) ≡ Some (BadEntry index)
unfolding entry_fault
fault_stops bytes index h test = rw (left_next bytes index h) (rw test refl)

pub fault_goes_on : (bytes : List ℕ) (index : ℕ) → index < count_of bytes
    → is_journal_entry (entry_of bytes index) ≡ true
    → entry_fault index (entries_left bytes index)
    ≡ entry_fault (index + 1) (entries_left bytes (index + 1))
unfolding entry_fault
fault_goes_on bytes index h test = rw (left_next bytes index h) (rw test refl)

pub fault_ends : (bytes : List ℕ) (index : ℕ) → count_of bytes ≤ index
    → entry_fault index (entries_left bytes index) ≡ None
unfolding entry_fault
fault_ends bytes index h = rw (left_none bytes index h) refl

-- ---- the list of them

pub entries_begin : (bytes : List ℕ)
    → [] ++ entries_left bytes 0 ≡ entries_from bytes 20 (count_of bytes)
entries_begin bytes = left_all bytes

pub entries_take : (bytes : List ℕ) (index : ℕ) (list : List Entry) → index < count_of bytes
    → (list ++ entry_of bytes index ∷ []) ++ entries_left bytes (index + 1)
    ≡ list ++ entries_left bytes index
entries_take bytes index list h = rw (left_next bytes index h, append_assoc) refl

pub entries_end : (bytes : List ℕ) (index : ℕ) (list : List Entry) → count_of bytes ≤ index
    → list ++ entries_left bytes index ≡ list
entries_end bytes index list h = rw (left_none bytes index h) (append-nil list)

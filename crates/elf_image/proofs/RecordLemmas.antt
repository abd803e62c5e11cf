-- One record after another.
use Rattle.std.proofs.Common.{◌≡◌, ℕ, suc, ◌+◌, ◌-◌, ◌*◌, ◌<◌, ◌≤◌, List, [], ◌∷◌, Some, None, Bool}
use Rattle.std.proofs.Common.{true, false, cond, not, ◌||◌, ◌&&◌, refl, ◌∙◌, ap, arith}
use Rattle.std.specs.List.{list_any}
use Rattle.erim_defs.specs.declared.segment.Segment.{Segment}
use Rattle.erim_defs.specs.declared.fault.ImageFault.TheVariants.{BadRecord, TextNotExec, DataRange}
use Rattle.erim_defs.specs.declared.fault.ImageFault.TheVariants.{EntryNotTrusted}
use Rattle.erim_defs.specs.Inspection.Image.{Record, data_fault, entry_fault, holds_entry}
use Rattle.erim_defs.specs.Inspection.Image.{is_entry_record, is_placed_data, is_record, is_text}
use Rattle.erim_defs.specs.Inspection.Image.{overlaps, record_at, record_fault, records_from}
use Rattle.erim_defs.specs.Inspection.Image.{text_fault}
use Rattle.elf_image.specs.declared.pages.Purpose.TheVariants.{Text}
use Rattle.elf_image.specs.declared.records.RecordTable.{RecordTable}
use Rattle.elf_image.specs.Records.{is_in_text, is_lying, record_of, records_left, seen_before}
use Rattle.elf_image.specs.Records.{table_records}

-- a number of records that isn't 0
from_more : (bytes : List ℕ) (place n m : ℕ) → n ≡ suc m
    → records_from bytes place n ≡ record_at bytes place ∷ records_from bytes (place + 24) m
unfolding records_from
from_more bytes place n m e = rw e refl

-- all are left at first
pub records_left-all : (bytes : List ℕ) (table : RecordTable)
    → records_left bytes table 0 ≡ table_records bytes table
unfolding records_left
records_left-all bytes table =
    let place : table.place + 24 * 0 ≡ table.place = omega arith in
    let count : table.count - 0 ≡ table.count = omega arith in
    rw (place, count) refl

-- the next one
pub records_left-next : (bytes : List ℕ) (table : RecordTable) (index : ℕ) → index < table.count
    → records_left bytes table index
    ≡ record_of bytes table index ∷ records_left bytes table (index + 1)
unfolding records_left record_of
records_left-next bytes table index h =
    let count : table.count - index ≡ suc (table.count - (index + 1)) = omega arith in
    let place : table.place + 24 * (index + 1) ≡ table.place + 24 * index + 24 = omega arith in
    rw place (from_more bytes (table.place + 24 * index) _ _ count)

-- none at last
pub records_left-none : (bytes : List ℕ) (table : RecordTable) (index : ℕ) → table.count ≤ index
    → records_left bytes table index ≡ []
unfolding records_left records_from
records_left-none bytes table index h =
    let count : table.count - index ≡ 0 = omega arith in
    rw count refl

-- a test that is asked where another holds fails, or passes
failing_if : (a b : Bool) → (a && not b) ≡ true → (a ≡ true) × (b ≡ false)
failing_if true true h = absurd cc
failing_if true false h = (refl, refl)
failing_if false b h = absurd cc

passing_if : (a b : Bool) → (a && not b) ≡ false → cond a b true ≡ true
passing_if true true h = refl
passing_if true false h = absurd cc
passing_if false b h = refl

-- ---- records alone

pub record_begins : (bytes : List ℕ) (table : RecordTable)
    → record_fault table.has_domains 0 (seen_before bytes table 0) (records_left bytes table 0)
    ≡ record_fault table.has_domains 0 [] (table_records bytes table)
unfolding seen_before
record_begins bytes table = ap (record_fault table.has_domains 0 []) (records_left-all bytes table)

pub record_stops : (bytes : List ℕ) (table : RecordTable) (index : ℕ) → index < table.count
    → is_record table.has_domains (seen_before bytes table index) (record_of bytes table index)
    ≡ false
    → record_fault table.has_domains index (seen_before bytes table index)
    (records_left bytes table index)
    ≡ Some (BadRecord index)
unfolding record_fault
record_stops bytes table index h test = rw (records_left-next bytes table index h) (rw test refl)

pub record_goes_on : (bytes : List ℕ) (table : RecordTable) (index : ℕ) → index < table.count
    → is_record table.has_domains (seen_before bytes table index) (record_of bytes table index)
    ≡ true
    → record_fault table.has_domains index (seen_before bytes table index)
    (records_left bytes table index)
    ≡ record_fault table.has_domains (index + 1) (seen_before bytes table (index + 1))
    (records_left bytes table (index + 1))
unfolding record_fault seen_before
record_goes_on bytes table index h test =
    let more : index + 1 ≡ suc index = omega arith in
    rw (records_left-next bytes table index h) (rw test (rw more refl))

pub record_ends : (bytes : List ℕ) (table : RecordTable) (index : ℕ) → table.count ≤ index
    → record_fault table.has_domains index (seen_before bytes table index)
    (records_left bytes table index) ≡ None
unfolding record_fault
record_ends bytes table index h = rw (records_left-none bytes table index h) refl

pub overlaps_none : (r : Record) (bytes : List ℕ) (table : RecordTable)
    → list_any (overlaps r) (seen_before bytes table 0) ≡ false
unfolding seen_before
overlaps_none r bytes table = refl

pub overlaps_more : (r : Record) (bytes : List ℕ) (table : RecordTable) (n : ℕ)
    → list_any (overlaps r) (seen_before bytes table (n + 1))
    ≡ (overlaps r (record_of bytes table n)
    || list_any (overlaps r) (seen_before bytes table n))
unfolding seen_before
overlaps_more r bytes table n =
    let more : n + 1 ≡ suc n = omega arith in
    rw more refl

-- ---- trusted text

pub text_begins : (ss : List Segment) (bytes : List ℕ) (table : RecordTable)
    → text_fault 0 ss (seen_before bytes table 0) (records_left bytes table 0)
    ≡ text_fault 0 ss [] (table_records bytes table)
unfolding seen_before
text_begins ss bytes table = ap (text_fault 0 ss []) (records_left-all bytes table)

pub text_stops : (ss : List Segment) (bytes : List ℕ) (table : RecordTable) (index : ℕ)
    → index < table.count
    → (is_text (record_of bytes table index)
    && not (is_lying Text ss (record_of bytes table index))) ≡ true
    → text_fault index ss (seen_before bytes table index) (records_left bytes table index)
    ≡ Some (TextNotExec index)
unfolding text_fault is_lying
text_stops ss bytes table index h test =
    let failing = failing_if (is_text (record_of bytes table index)) _ test in
    rw (records_left-next bytes table index h) (rw (failing.0, failing.1) refl)

pub text_goes_on : (ss : List Segment) (bytes : List ℕ) (table : RecordTable) (index : ℕ)
    → index < table.count
    → (is_text (record_of bytes table index)
    && not (is_lying Text ss (record_of bytes table index))) ≡ false
    → text_fault index ss (seen_before bytes table index) (records_left bytes table index)
    ≡ text_fault (index + 1) ss (seen_before bytes table (index + 1))
    (records_left bytes table (index + 1))
unfolding text_fault is_lying seen_before
text_goes_on ss bytes table index h test =
    let more : index + 1 ≡ suc index = omega arith in
    rw (records_left-next bytes table index h)
    (rw (passing_if (is_text (record_of bytes table index)) _ test) (rw more refl))

pub text_ends : (ss : List Segment) (bytes : List ℕ) (table : RecordTable) (index : ℕ)
    → table.count ≤ index → text_fault index ss (seen_before bytes table index)
    (records_left bytes table index) ≡ None
unfolding text_fault
text_ends ss bytes table index h = rw (records_left-none bytes table index h) refl

-- ---- trusted data and heaps

pub data_begins : (ss : List Segment) (bytes : List ℕ) (table : RecordTable)
    → data_fault 0 ss (seen_before bytes table 0) (records_left bytes table 0)
    ≡ data_fault 0 ss [] (table_records bytes table)
unfolding seen_before
data_begins ss bytes table = ap (data_fault 0 ss []) (records_left-all bytes table)

pub data_stops : (ss : List Segment) (bytes : List ℕ) (table : RecordTable) (index : ℕ)
    → index < table.count → is_placed_data ss (record_of bytes table index) ≡ false
    → data_fault index ss (seen_before bytes table index) (records_left bytes table index)
    ≡ Some (DataRange index)
unfolding data_fault
data_stops ss bytes table index h test = rw (records_left-next bytes table index h) (rw test refl)

pub data_goes_on : (ss : List Segment) (bytes : List ℕ) (table : RecordTable) (index : ℕ)
    → index < table.count → is_placed_data ss (record_of bytes table index) ≡ true
    → data_fault index ss (seen_before bytes table index) (records_left bytes table index)
    ≡ data_fault (index + 1) ss (seen_before bytes table (index + 1))
    (records_left bytes table (index + 1))
unfolding data_fault seen_before
data_goes_on ss bytes table index h test =
    let more : index + 1 ≡ suc index = omega arith in
    rw (records_left-next bytes table index h) (rw test (rw more refl))

pub data_ends : (ss : List Segment) (bytes : List ℕ) (table : RecordTable) (index : ℕ)
    → table.count ≤ index → data_fault index ss (seen_before bytes table index)
    (records_left bytes table index) ≡ None
unfolding data_fault
data_ends ss bytes table index h = rw (records_left-none bytes table index h) refl

-- ---- entries

pub entry_begins : (all : List Record) (bytes : List ℕ) (table : RecordTable)
    → entry_fault 0 all (seen_before bytes table 0) (records_left bytes table 0)
    ≡ entry_fault 0 all [] (table_records bytes table)
unfolding seen_before
entry_begins all bytes table = ap (entry_fault 0 all []) (records_left-all bytes table)

pub entry_stops : (all : List Record) (bytes : List ℕ) (table : RecordTable) (index : ℕ)
    → index < table.count
    → (is_entry_record (record_of bytes table index)
    && not (is_in_text (record_of bytes table index) all)) ≡ true
    → entry_fault index all (seen_before bytes table index) (records_left bytes table index)
    ≡ Some (EntryNotTrusted index)
unfolding entry_fault is_in_text
entry_stops all bytes table index h test =
    let failing = failing_if (is_entry_record (record_of bytes table index)) _ test in
    rw (records_left-next bytes table index h) (rw (failing.0, failing.1) refl)

pub entry_goes_on : (all : List Record) (bytes : List ℕ) (table : RecordTable) (index : ℕ)
    → index < table.count
    → (is_entry_record (record_of bytes table index)
    && not (is_in_text (record_of bytes table index) all)) ≡ false
    → entry_fault index all (seen_before bytes table index) (records_left bytes table index)
    ≡ entry_fault (index + 1) all (seen_before bytes table (index + 1))
    (records_left bytes table (index + 1))
unfolding entry_fault is_in_text seen_before
entry_goes_on all bytes table index h test =
    let more : index + 1 ≡ suc index = omega arith in
    rw (records_left-next bytes table index h)
    (rw (passing_if (is_entry_record (record_of bytes table index)) _ test) (rw more refl))

pub entry_ends : (all : List Record) (bytes : List ℕ) (table : RecordTable) (index : ℕ)
    → table.count ≤ index → entry_fault index all (seen_before bytes table index)
    (records_left bytes table index) ≡ None
unfolding entry_fault
entry_ends all bytes table index h = rw (records_left-none bytes table index h) refl

pub in_text_begins : (e : Record) (bytes : List ℕ) (table : RecordTable)
    → is_in_text e (records_left bytes table 0) ≡ is_in_text e (table_records bytes table)
in_text_begins e bytes table = ap (is_in_text e) (records_left-all bytes table)

in_text_next : (e : Record) (r : Record) (rs : List Record)
    → is_in_text e (r ∷ rs) ≡ (holds_entry e r || is_in_text e rs)
unfolding is_in_text
in_text_next e r rs = refl

pub in_text_stops : (e : Record) (bytes : List ℕ) (table : RecordTable) (index : ℕ)
    → index < table.count
    → holds_entry e (record_of bytes table index) ≡ true
    → is_in_text e (records_left bytes table index) ≡ true
in_text_stops e bytes table index h test =
    rw (records_left-next bytes table index h) (in_text_next e _ _
    ∙ ap (λ b. b || is_in_text e (records_left bytes table (index + 1))) test)

pub in_text_goes_on : (e : Record) (bytes : List ℕ) (table : RecordTable) (index : ℕ)
    → index < table.count → holds_entry e (record_of bytes table index) ≡ false
    → is_in_text e (records_left bytes table index)
    ≡ is_in_text e (records_left bytes table (index + 1))
in_text_goes_on e bytes table index h test =
    rw (records_left-next bytes table index h) (in_text_next e _ _
    ∙ ap (λ b. b || is_in_text e (records_left bytes table (index + 1))) test)

pub in_text_ends : (e : Record) (bytes : List ℕ) (table : RecordTable) (index : ℕ)
    → table.count ≤ index
    → is_in_text e (records_left bytes table index) ≡ false
unfolding is_in_text
in_text_ends e bytes table index h = rw (records_left-none bytes table index h) refl

-- ---- by function, for the goals of its loop

pub ruleset record_steps = (record_begins, record_stops, record_goes_on, record_ends)

pub ruleset overlaps_steps = (overlaps_none, overlaps_more)

pub ruleset text_steps = (text_begins, text_stops, text_goes_on, text_ends)

pub ruleset data_steps = (data_begins, data_stops, data_goes_on, data_ends)

pub ruleset entry_steps = (entry_begins, entry_stops, entry_goes_on, entry_ends)

pub ruleset in_text_steps = (in_text_begins, in_text_stops, in_text_goes_on, in_text_ends)

-- The records of a table, and the pages that segments hold.
use Rattle.std.specs.Prelude.{ℕ, ◌+◌, ◌-◌, ◌*◌, Bool, Option, List, [], ◌∷◌, zero, suc}
use Rattle.std.specs.List.{list_any}
use Rattle.erim_defs.specs.Inspection.Code.{or_else}
use Rattle.erim_defs.specs.declared.fault.ImageFault.{ImageFault}
use Rattle.erim_defs.specs.declared.segment.Segment.{Segment}
use Rattle.erim_defs.specs.Inspection.Image.{Record, all_pages, data_fault, entry_fault}
use Rattle.erim_defs.specs.Inspection.Image.{holds_data, holds_entry, holds_heap, holds_text}
use Rattle.erim_defs.specs.Inspection.Image.{is_executable, is_page_of, lies_in, record_at}
use Rattle.erim_defs.specs.Inspection.Image.{record_fault, records_from, segments, text_fault}
use Rattle.elf_image.specs.declared.pages.Purpose.{Purpose}
use Rattle.elf_image.specs.declared.pages.Purpose.TheVariants.{Execution, Text, Data, Heap}
use Rattle.elf_image.specs.declared.records.RecordTable.{RecordTable}

abbrev pub table_records : List ℕ → RecordTable → List Record
table_records bytes table = records_from bytes table.place table.count

-- the record of a number
unfoldable pub record_of : List ℕ → RecordTable → ℕ → Record
record_of bytes table index = record_at bytes (table.place + 24 * index)

-- the records from a number on
unfoldable pub records_left : List ℕ → RecordTable → ℕ → List Record
records_left bytes table index = records_from bytes (table.place + 24 * index) (table.count - index)

-- a given number of records, the last first
unfoldable pub seen_before : List ℕ → RecordTable → ℕ → List Record
seen_before bytes table zero = []
seen_before bytes table (suc n) = record_of bytes table n ∷ seen_before bytes table n

-- an entry lies in a text of its key
unfoldable pub is_in_text : Record → List Record → Bool
is_in_text e rs = list_any (holds_entry e) rs

-- the first fault of the records alone
unfoldable pub records_fault : List ℕ → RecordTable → Option ImageFault
records_fault bytes table =
    or_else (record_fault table.has_domains 0 [] (table_records bytes table))
    (or_else (text_fault 0 (segments bytes) [] (table_records bytes table))
    (or_else (data_fault 0 (segments bytes) [] (table_records bytes table))
    (entry_fault 0 (table_records bytes table) [] (table_records bytes table))))

-- ---- pages

-- which segments serve a purpose
abbrev pub serves : Purpose → Segment → Bool
serves Execution = is_executable
serves Text = holds_text
serves Data = holds_data
serves Heap = holds_heap

-- a page of a segment that serves a purpose
unfoldable pub is_held : Purpose → List Segment → ℕ → Bool
is_held purpose ss page = is_page_of (serves purpose) ss page

-- the pages from one up to another are
unfoldable pub are_held : Purpose → List Segment → ℕ → ℕ → Bool
are_held purpose ss page end = all_pages (is_page_of (serves purpose) ss) page (end - page)

-- the range of a record is
unfoldable pub is_lying : Purpose → List Segment → Record → Bool
is_lying purpose ss r = lies_in (serves purpose) ss r

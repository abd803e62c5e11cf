-- The lists that an image lists, one item after another.
use Rattle.std.proofs.Common.{◌≡◌, ℕ, ◌+◌, ◌<◌, ◌≤◌, List, [], ◌∷◌, ◌++◌, true, false, eqb, refl}
use Rattle.std.proofs.Common.{ap, append_assoc, arith, get_or, length, None, zero, suc, ◌*◌}
use Rattle.std.proofs.lemmas.List.{append-nil}
use Rattle.erim_defs.specs.declared.segment.Segment.{Segment}
use Rattle.erim_defs.specs.declared.trust.Span.{Span}
use Rattle.erim_defs.specs.Inspection.Image.{Header, header_count, headers, is_entry_record}
use Rattle.erim_defs.specs.Inspection.Image.{Record, is_loadable, record_at, record_fault}
use Rattle.erim_defs.specs.Inspection.Image.{records_from}
use Rattle.erim_defs.proofs.RecordLemmas.{keys_low}
use Rattle.erim_defs.specs.Inspection.Image.{loadable_segments, segments, span_of, starts_of}
use Rattle.elf_image.specs.declared.records.RecordTable.{RecordTable}
use Rattle.elf_image.specs.Table.{header_of, headers_left}
use Rattle.elf_image.specs.Records.{record_of, records_left, table_records}
use Rattle.elf_image.specs.Form.{keys_in, spans_in}
use Rattle.elf_image.proofs.TableLemmas.{headers_left-all, headers_left-next, headers_left-none}
use Rattle.elf_image.proofs.RecordLemmas.{records_left-all, records_left-next, records_left-none}

pub headers_begin : (bytes : List ℕ) → [] ++ headers_left bytes 0 ≡ headers bytes
headers_begin bytes = headers_left-all bytes

pub headers_take : (bytes : List ℕ) (index : ℕ) (list : List Header) → index < header_count bytes
    → (list ++ header_of bytes index ∷ []) ++ headers_left bytes (index + 1)
    ≡ list ++ headers_left bytes index
headers_take bytes index list lt = rw (headers_left-next bytes index lt, append_assoc) refl

pub headers_end : (bytes : List ℕ) (index : ℕ) (list : List Header) → header_count bytes ≤ index
    → list ++ headers_left bytes index ≡ list
headers_end bytes index list le = rw (headers_left-none bytes index le, append-nil list) refl

pub segments_begin : (bytes : List ℕ)
    → [] ++ loadable_segments (headers_left bytes 0) ≡ segments bytes
segments_begin bytes = ap loadable_segments (headers_left-all bytes)

pub segments_load : (bytes : List ℕ) (index : ℕ) (list : List Segment) → index < header_count bytes
    → is_loadable (header_of bytes index) ≡ true
    → (list ++ (header_of bytes index).segment ∷ [])
    ++ loadable_segments (headers_left bytes (index + 1))
    ≡ list ++ loadable_segments (headers_left bytes index)
unfolding loadable_segments
segments_load bytes index list lt loads =
    rw (headers_left-next bytes index lt, loads, append_assoc) refl

pub segments_pass : (bytes : List ℕ) (index : ℕ) → index < header_count bytes
    → is_loadable (header_of bytes index) ≡ false
    → loadable_segments (headers_left bytes index)
    ≡ loadable_segments (headers_left bytes (index + 1))
unfolding loadable_segments
segments_pass bytes index lt other = rw (headers_left-next bytes index lt, other) refl

pub segments_end : (bytes : List ℕ) (index : ℕ) (list : List Segment) → header_count bytes ≤ index
    → list ++ loadable_segments (headers_left bytes index) ≡ list
unfolding loadable_segments
segments_end bytes index list past = rw (headers_left-none bytes index past) (append-nil list)

pub spans_begin : (bytes : List ℕ) (table : RecordTable) (kind : ℕ)
    → [] ++ spans_in kind (records_left bytes table 0) ≡ spans_in kind (table_records bytes table)
spans_begin bytes table kind = ap (spans_in kind) (records_left-all bytes table)

pub spans_take : (bytes : List ℕ) (table : RecordTable) (kind index : ℕ) (list : List Span)
    → index < table.count → eqb (record_of bytes table index).kind kind ≡ true
    → (list ++ span_of (record_of bytes table index) ∷ [])
    ++ spans_in kind (records_left bytes table (index + 1))
    ≡ list ++ spans_in kind (records_left bytes table index)
unfolding spans_in
spans_take bytes table kind index list lt test =
    rw (records_left-next bytes table index lt, test, append_assoc) refl

pub spans_pass : (bytes : List ℕ) (table : RecordTable) (kind index : ℕ) → index < table.count
    → eqb (record_of bytes table index).kind kind ≡ false
    → spans_in kind (records_left bytes table index)
    ≡ spans_in kind (records_left bytes table (index + 1))
unfolding spans_in
spans_pass bytes table kind index lt test = rw (records_left-next bytes table index lt, test) refl

pub spans_end : (bytes : List ℕ) (table : RecordTable) (kind index : ℕ) (list : List Span)
    → table.count ≤ index → list ++ spans_in kind (records_left bytes table index) ≡ list
unfolding spans_in
spans_end bytes table kind index list past =
    rw (records_left-none bytes table index past) (append-nil list)

pub keys_begin : (bytes : List ℕ) (table : RecordTable) (kind : ℕ)
    → [] ++ keys_in kind (records_left bytes table 0) ≡ keys_in kind (table_records bytes table)
keys_begin bytes table kind = ap (keys_in kind) (records_left-all bytes table)

pub keys_take : (bytes : List ℕ) (table : RecordTable) (kind index : ℕ) (list : List ℕ)
    → index < table.count → eqb (record_of bytes table index).kind kind ≡ true
    → (list ++ (record_of bytes table index).key ∷ [])
    ++ keys_in kind (records_left bytes table (index + 1))
    ≡ list ++ keys_in kind (records_left bytes table index)
unfolding keys_in
keys_take bytes table kind index list lt test =
    rw (records_left-next bytes table index lt, test, append_assoc) refl

pub keys_pass : (bytes : List ℕ) (table : RecordTable) (kind index : ℕ) → index < table.count
    → eqb (record_of bytes table index).kind kind ≡ false
    → keys_in kind (records_left bytes table index)
    ≡ keys_in kind (records_left bytes table (index + 1))
unfolding keys_in
keys_pass bytes table kind index lt test = rw (records_left-next bytes table index lt, test) refl

pub keys_end : (bytes : List ℕ) (table : RecordTable) (kind index : ℕ) (list : List ℕ)
    → table.count ≤ index → list ++ keys_in kind (records_left bytes table index) ≡ list
unfolding keys_in
keys_end bytes table kind index list past =
    rw (records_left-none bytes table index past) (append-nil list)

-- the record of a number, in the list
records_at : (bytes : List ℕ) (place n k : ℕ) (d : Record) → k < n
    → (k < length (records_from bytes place n))
    × (get_or (records_from bytes place n) k d ≡ record_at bytes (place + 24 * k))
unfolding records_from
records_at bytes place zero k d lt = absurd (omega (arith, lt))
records_at bytes place (suc n) zero d lt =
    let here : place + 24 * 0 ≡ place = omega arith in (omega arith, rw here refl)
records_at bytes place (suc n) (suc k) d lt =
    let h = records_at bytes (place + 24) n k d (omega (arith, lt)) in
    let there : place + 24 * suc k ≡ place + 24 + 24 * k = omega arith in
    (omega (arith, h.0), rw there h.1)

-- keys are low
pub key_low : (bytes : List ℕ) (table : RecordTable) (index : ℕ)
    → record_fault table.has_domains 0 [] (table_records bytes table) ≡ None → index < table.count
    → (record_of bytes table index).key < 256
unfolding record_of
key_low bytes table index sound lt =
    let none : Record = record { kind = 0; key = 0; start = 0; length = 0 } in
    let at = records_at bytes table.place table.count index none lt in
    let low : (get_or (table_records bytes table) index none).key ≤ 4 =
    keys_low table.has_domains 0 [] (table_records bytes table) sound index none at.0 in
    let few : (record_at bytes (table.place + 24 * index)).key ≤ 4 = rw at.1 at low in
    omega (arith, few)

pub entries_begin : (bytes : List ℕ) (table : RecordTable)
    → [] ++ starts_of (records_left bytes table 0) ≡ starts_of (table_records bytes table)
entries_begin bytes table = ap starts_of (records_left-all bytes table)

pub entries_take : (bytes : List ℕ) (table : RecordTable) (index : ℕ) (list : List ℕ)
    → index < table.count → is_entry_record (record_of bytes table index) ≡ true
    → (list ++ (record_of bytes table index).start ∷ [])
    ++ starts_of (records_left bytes table (index + 1))
    ≡ list ++ starts_of (records_left bytes table index)
entries_take bytes table index list lt test =
    rw (records_left-next bytes table index lt, test, append_assoc) refl

pub entries_pass : (bytes : List ℕ) (table : RecordTable) (index : ℕ) → index < table.count
    → is_entry_record (record_of bytes table index) ≡ false
    → starts_of (records_left bytes table index) ≡ starts_of (records_left bytes table (index + 1))
entries_pass bytes table index lt test = rw (records_left-next bytes table index lt, test) refl

pub entries_end : (bytes : List ℕ) (table : RecordTable) (index : ℕ) (list : List ℕ)
    → table.count ≤ index → list ++ starts_of (records_left bytes table index) ≡ list
entries_end bytes table index list past =
    rw (records_left-none bytes table index past) (append-nil list)

-- ---- by function, for the goals of its loop

pub ruleset headers_steps = (headers_begin, headers_take, headers_end)

pub ruleset segments_steps = (segments_begin, segments_load, segments_pass, segments_end)

pub ruleset spans_steps = (spans_begin, spans_take, spans_pass, spans_end)

pub ruleset keys_steps = (keys_begin, keys_take, keys_pass, keys_end, key_low)

pub ruleset entries_steps = (entries_begin, entries_take, entries_pass, entries_end)

-- Images: which bytes are accepted, their segments and records, and the code that they load.
-- ELF-64 Object File Format, "File header", "Program header" and "Note section"; the trust note,
-- the order of the faults and the limits are own.
use Rattle.std.specs.Prelude.{◌≡◌, ℕ, ◌+◌, ◌-◌, ◌*◌, ◌/◌, ◌%◌, ◌^◌, ◌<◌, ◌≤◌, ◌==◌, ◌&&◌, ◌||◌}
use Rattle.std.specs.Prelude.{nat_lt, nat_le, not, Bool, true, false, Option, Some, None}
use Rattle.std.specs.Prelude.{sum_by, List, [], ◌∷◌, ◌++◌, length, zero, suc, slice_index}
use Rattle.std.specs.Prelude.{slice_range, codes, if◌then◌else◌}
use Rattle.std.specs.List.{list_any}
use Rattle.std.specs.Str.{bytes_eq}
use Rattle.erim_defs.specs.declared.segment.Segment.{Segment}
use Rattle.erim_defs.specs.Bits.{has_bit}
use Rattle.erim_defs.specs.declared.fault.ImageFault.{ImageFault}
use Rattle.erim_defs.specs.declared.fault.ImageFault.TheVariants.{Short, Magic, Class, FileType}
use Rattle.erim_defs.specs.declared.fault.ImageFault.TheVariants.{Machine, HeaderSize, TooMany}
use Rattle.erim_defs.specs.declared.fault.ImageFault.TheVariants.{NotStatic, SegmentRange}
use Rattle.erim_defs.specs.declared.fault.ImageFault.TheVariants.{SharedPage, NoteShape}
use Rattle.erim_defs.specs.declared.fault.ImageFault.TheVariants.{NoteVersion, BadRecord}
use Rattle.erim_defs.specs.declared.fault.ImageFault.TheVariants.{TextNotExec, DataRange}
use Rattle.erim_defs.specs.declared.fault.ImageFault.TheVariants.{EntryNotTrusted, EntryPoint}
use Rattle.erim_defs.specs.declared.fault.ImageFault.TheVariants.{BadFunction}
use Rattle.erim_defs.specs.declared.elf.TheConstants.{EI_CLASS, EI_DATA, EI_VERSION, ELFCLASS64}
use Rattle.erim_defs.specs.declared.elf.TheConstants.{ELFDATA2LSB, EM_X86_64, ET_EXEC, EV_CURRENT}
use Rattle.erim_defs.specs.declared.elf.TheConstants.{E_ENTRY, E_MACHINE, E_PHENTSIZE, E_PHNUM}
use Rattle.erim_defs.specs.declared.elf.TheConstants.{E_PHOFF, E_TYPE, PT_DYNAMIC, PT_INTERP}
use Rattle.erim_defs.specs.declared.elf.TheConstants.{PT_LOAD, PT_NOTE, PT_TLS, P_ALIGN, P_FILESZ}
use Rattle.erim_defs.specs.declared.elf.TheConstants.{P_FLAGS, P_MEMSZ, P_OFFSET, P_VADDR}
use Rattle.erim_defs.specs.declared.elf.TheConstants.{WIDE_NOTE_ALIGNMENT}
use Rattle.erim_defs.specs.declared.limits.TheConstants.{MOST_FUNCTIONS, MOST_HEADERS, MOST_PAGES}
use Rattle.erim_defs.specs.declared.limits.TheConstants.{MOST_RECORDS}
use Rattle.erim_defs.specs.declared.note.TheConstants.{FUNCTIONS_NOTE, FUNCTION_LENGTH}
use Rattle.erim_defs.specs.declared.note.TheConstants.{DOMAINS_VERSION, FUNCTION_SIZE}
use Rattle.erim_defs.specs.declared.note.TheConstants.{INTEGRITY_DOMAIN, MOST_DOMAINS, NOTE_COUNT}
use Rattle.erim_defs.specs.declared.note.TheConstants.{NOTE_VERSION, RECORD_KEY, RECORD_LENGTH}
use Rattle.erim_defs.specs.declared.note.TheConstants.{RECORD_SIZE, RECORD_START, TRUSTED_DATA}
use Rattle.erim_defs.specs.declared.note.TheConstants.{TRUSTED_ENTRY, TRUSTED_HEAP}
use Rattle.erim_defs.specs.declared.note.TheConstants.{TRUSTED_TEXT, TRUST_NOTE}
use Rattle.erim_defs.specs.declared.page.TheConstants.{LOWEST_ADDRESS, STACK_END_PAGE, STACK_PAGE}
use Rattle.erim_defs.specs.declared.page.TheConstants.{TRUSTED_KEY}
use Rattle.erim_defs.specs.Inspection.Code.{Code, or_else}
use Rattle.erim_defs.specs.declared.trust.Span.{Span}
use Rattle.erim_defs.specs.Inspection.Trust.{TrustValue, in_text_of}

-- ---- fields

-- the number in the n bytes from a place on, low byte first (ELF-64, "Data representation")
unfoldable pub number_at : List ℕ → ℕ → ℕ → ℕ
number_at bytes place zero = 0
number_at bytes place (suc n) = slice_index bytes place + 256 * number_at bytes (suc place) n

abbrev pub file_type : List ℕ → ℕ
file_type bytes = number_at bytes E_TYPE 2

abbrev pub machine : List ℕ → ℕ
machine bytes = number_at bytes E_MACHINE 2

abbrev pub entry_point : List ℕ → ℕ
entry_point bytes = number_at bytes E_ENTRY 8

abbrev pub table_place : List ℕ → ℕ
table_place bytes = number_at bytes E_PHOFF 8

abbrev pub header_size : List ℕ → ℕ
header_size bytes = number_at bytes E_PHENTSIZE 2

abbrev pub header_count : List ℕ → ℕ
header_count bytes = number_at bytes E_PHNUM 2

-- ---- program headers

pub record Header : Type 0 where
  pub kind : ℕ
  pub align : ℕ
  pub segment : Segment

abbrev pub header_at : List ℕ → ℕ → Header
header_at bytes place = record {
  kind = number_at bytes place 4;
  align = number_at bytes (place + P_ALIGN) 8;
  segment = record {
    flags = number_at bytes (place + P_FLAGS) 4;
    offset = number_at bytes (place + P_OFFSET) 8;
    vaddr = number_at bytes (place + P_VADDR) 8;
    filesz = number_at bytes (place + P_FILESZ) 8;
    memsz = number_at bytes (place + P_MEMSZ) 8;
  };
}

-- a given number of headers of 56 bytes from a place on
unfoldable pub headers_from : List ℕ → ℕ → ℕ → List Header
headers_from bytes place zero = []
headers_from bytes place (suc n) = header_at bytes place ∷ headers_from bytes (place + 56) n

unfoldable pub headers : List ℕ → List Header
headers bytes = headers_from bytes (table_place bytes) (header_count bytes)

-- a segment without bytes is passed over
abbrev pub is_loadable : Header → Bool
is_loadable h = h.kind == PT_LOAD && nat_lt 0 h.segment.memsz

unfoldable pub loadable_segments : List Header → List Segment
loadable_segments [] = []
loadable_segments (h ∷ hs) = if is_loadable h then h.segment ∷ loadable_segments hs
    else loadable_segments hs

-- the loadable segments in table order
abbrev pub segments : List ℕ → List Segment
segments bytes = loadable_segments (headers bytes)

-- PF_X is bit 0 of p_flags, and PF_W bit 1
abbrev pub is_executable : Segment → Bool
is_executable s = has_bit s.flags 0

abbrev pub is_writable : Segment → Bool
is_writable s = has_bit s.flags 1

-- ---- pages, of 4096 bytes

-- the first page that a segment touches, and the one after its last
abbrev pub first_page : Segment → ℕ
first_page s = s.vaddr / 4096

abbrev pub end_page : Segment → ℕ
end_page s = (s.vaddr + s.memsz + 4095) / 4096

abbrev pub page_count : Segment → ℕ
page_count s = end_page s - first_page s

abbrev pub touches : Segment → ℕ → Bool
touches s page = nat_lt 0 s.memsz && (nat_le (first_page s) page && nat_lt page (end_page s))

-- a page of a segment of which a test holds
abbrev pub is_page_of : (Segment → Bool) → List Segment → ℕ → Bool
is_page_of test ss page = list_any (λ s. test s && touches s page) ss

-- ---- the first of a list that fails

-- the fault of the first that fails a test, from an index on. The test sees those before, the last
-- first
abbrev pub first_failing : {X : Type 0} → (List X → X → Bool) → (ℕ → ImageFault) → ℕ → List X
    → List X → Option ImageFault
first_failing test fault index seen [] = None
first_failing test fault index seen (x ∷ xs) = if test seen x
    then first_failing test fault (index + 1) (x ∷ seen) xs else Some (fault index)

-- ---- faults of headers and segments; index counts from 0 over all headers

abbrev pub is_dynamic : Header → Bool
is_dynamic h = h.kind == PT_DYNAMIC || (h.kind == PT_INTERP || h.kind == PT_TLS)

unfoldable pub static_fault : ℕ → List Header → List Header → Option ImageFault
static_fault index seen hs = first_failing (λ _ h. not (is_dynamic h)) NotStatic index seen hs

-- the file part lies in a file of a given number of bytes
abbrev pub is_in_file : ℕ → Segment → Bool
is_in_file file_length s = nat_le (s.offset + s.filesz) file_length

-- it has none of the stack's pages (0x7FFE0000 to 0x7FFEFFFF)
abbrev pub is_off_stack : Segment → Bool
is_off_stack s = not (nat_lt (first_page s) STACK_END_PAGE && nat_lt STACK_PAGE (end_page s))

-- user memory from 0x10000 on, off the stack's pages
abbrev pub is_in_user : Segment → Bool
is_in_user s = nat_le s.filesz s.memsz
    && (nat_le LOWEST_ADDRESS s.vaddr && (nat_le (s.vaddr + s.memsz) (2 ^ 47) && is_off_stack s))

-- where each loadable segment of an accepted image lies, in a file of a given number of bytes: what
-- the two tests say, and some bytes
pub record IsPlaced (file_length : ℕ) (s : Segment) : Type 0 where
  pub file : s.offset + s.filesz ≤ file_length
  pub part : s.filesz ≤ s.memsz
  pub above : LOWEST_ADDRESS ≤ s.vaddr
  pub user : s.vaddr + s.memsz ≤ 2 ^ 47
  pub off_stack : is_off_stack s ≡ true
  pub some : 0 < s.memsz

-- a loadable header without any bytes is passed over
abbrev pub is_passed_over : Header → Bool
is_passed_over h = h.segment.memsz == 0 && h.segment.filesz == 0

-- 0 for what isn't a segment, else its pages
abbrev pub header_pages : Header → ℕ
header_pages h = if h.kind == PT_LOAD && not (is_passed_over h) then page_count h.segment else 0

-- a PT_LOAD or PT_NOTE that lies where it may, where a given number of pages stand before it
abbrev pub is_ranged : ℕ → ℕ → Header → Bool
is_ranged file_length pages h =
    if h.kind == PT_NOTE then is_in_file file_length h.segment
    else if h.kind == PT_LOAD && not (is_passed_over h) then is_in_file file_length h.segment
    && (is_in_user h.segment && nat_le (pages + page_count h.segment) MOST_PAGES)
    else true

-- the pages of the segments so far count, shared ones for each
unfoldable pub range_fault : ℕ → ℕ → List Header → List Header → Option ImageFault
range_fault file_length index seen hs =
    first_failing (λ before h. is_ranged file_length
    (sum_by header_pages before) h) SegmentRange index
    seen hs

abbrev pub shares_page : Segment → Segment → Bool
shares_page s t = nat_lt (first_page s) (end_page t) && nat_lt (first_page t) (end_page s)

-- a segment that shares no page with those of the headers before it
abbrev pub is_apart : List Header → Header → Bool
is_apart before h = not (is_loadable h
    && list_any (shares_page h.segment) (loadable_segments before))

unfoldable pub shared_fault : ℕ → List Header → List Header → Option ImageFault
shared_fault index seen hs = first_failing is_apart SharedPage index seen hs

-- ---- notes: namesz, descsz and type of 4 bytes each, then name and desc, each padded to 4

pub record Note : Type 0 where
  pub place : ℕ
  pub name : List ℕ
  pub kind : ℕ
  pub desc : ℕ
  pub size : ℕ

abbrev pub padded_size : ℕ → ℕ
padded_size n = (n + 3) / 4 * 4

abbrev pub name_size : List ℕ → ℕ → ℕ
name_size bytes place = number_at bytes place 4

abbrev pub desc_size : List ℕ → ℕ → ℕ
desc_size bytes place = number_at bytes (place + 4) 4

abbrev pub note_at : List ℕ → ℕ → Note
note_at bytes place = record {
  place = place;
  name = slice_range bytes (place + 12) (place + 12 + name_size bytes place);
  kind = number_at bytes (place + 8) 4;
  desc = place + 12 + padded_size (name_size bytes place);
  size = desc_size bytes place;
}

-- where its name and desc end; a desc without bytes ends with the name
abbrev pub note_end : List ℕ → ℕ → ℕ
note_end bytes place =
    if desc_size bytes place == 0 then place + 12 + name_size bytes place
    else place + 12 + padded_size (name_size bytes place) + desc_size bytes place

-- where the next note begins; the last padding may be missing
abbrev pub next_note : List ℕ → ℕ → ℕ
next_note bytes place = place + 12 + padded_size (name_size bytes place) + padded_size
    (desc_size bytes place)

-- the trust note has the name `ERIM` and type 1, the functions note `ERIMF` and type 2; names end
-- with a zero
abbrev pub is_trust : Note → Bool
is_trust note = bytes_eq note.name (codes "ERIM" ++ 0 ∷ []) && note.kind == TRUST_NOTE

abbrev pub is_functions : Note → Bool
is_functions note = bytes_eq note.name (codes "ERIMF" ++ 0 ∷ []) && note.kind == FUNCTIONS_NOTE

-- a desc: a version and a count of 4 bytes each, and a given number of items of a given number of
-- bytes
abbrev pub item_count : List ℕ → Note → ℕ
item_count bytes note = number_at bytes (note.desc + NOTE_COUNT) 4

abbrev pub is_counted : List ℕ → Note → ℕ → ℕ → Bool
is_counted bytes note size most =
    nat_le 8 note.size && (note.size == 8 + size * item_count bytes note
    && nat_le (item_count bytes note) most)

-- 256 records of 24 bytes at most, 4,096 functions of 16; other notes may hold anything
abbrev pub is_note_shaped : List ℕ → Note → Bool
is_note_shaped bytes note =
    if is_trust note then is_counted bytes note RECORD_SIZE MOST_RECORDS
    else (if is_functions note then is_counted bytes note FUNCTION_SIZE MOST_FUNCTIONS
    else true)

-- the notes between two places, as far as they are whole
unfoldable pub notes_between : List ℕ → ℕ → ℕ → ℕ → List Note
notes_between bytes zero place end = []
notes_between bytes (suc fuel) place end =
    if nat_le (place + 12) end && nat_le (note_end bytes place) end
    then note_at bytes place ∷ notes_between bytes fuel (next_note bytes place) end
    else []

-- the first note between two places that isn't whole, isn't shaped as its kind asks, or comes a
-- second time; trust and functions say whether such a note came before
unfoldable pub note_fault_between : List ℕ → ℕ → ℕ → ℕ → Bool → Bool → Option ImageFault
note_fault_between bytes zero place end trust functions = None
note_fault_between bytes (suc fuel) place end trust functions =
    if nat_le end place then None
    else if nat_le (place + 12) end
    && (nat_le (note_end bytes place) end && (is_note_shaped bytes (note_at bytes place)
    && (not (trust && is_trust (note_at bytes place))
    && not (functions && is_functions (note_at bytes place)))))
    then note_fault_between bytes fuel (next_note bytes place) end (trust
    || is_trust (note_at bytes place)) (functions || is_functions (note_at bytes place))
    else Some (NoteShape place)

-- a PT_NOTE whose notes are read: those of alignment 8 are passed over
abbrev pub is_noted : Header → Bool
is_noted h = h.kind == PT_NOTE && not (h.align == WIDE_NOTE_ALIGNMENT)

abbrev pub header_notes : List ℕ → Header → List Note
header_notes bytes h =
    if is_noted h then notes_between bytes h.segment.filesz h.segment.offset
    (h.segment.offset + h.segment.filesz) else []

abbrev pub notes_of : List ℕ → List Header → List Note
notes_of bytes [] = []
notes_of bytes (h ∷ hs) = header_notes bytes h ++ notes_of bytes hs

abbrev pub header_note_fault : List ℕ → Header → Bool → Bool → Option ImageFault
header_note_fault bytes h trust functions =
    if is_noted h then note_fault_between bytes h.segment.filesz h.segment.offset
    (h.segment.offset + h.segment.filesz) trust functions else None

unfoldable pub note_fault : List ℕ → List Header → Bool → Bool → Option ImageFault
note_fault bytes [] trust functions = None
note_fault bytes (h ∷ hs) trust functions =
    or_else (header_note_fault bytes h trust functions)
    (note_fault bytes hs (trust || list_any is_trust (header_notes bytes h)) (functions
    || list_any is_functions (header_notes bytes h)))

-- all notes, in table order
unfoldable pub notes : List ℕ → List Note
notes bytes = notes_of bytes (headers bytes)

-- the functions note has version 1, the trust note 1 or 2
abbrev pub is_versioned : List ℕ → Note → Bool
is_versioned bytes note =
    (not (is_trust note || is_functions note) || number_at bytes note.desc 4 == NOTE_VERSION)
    || (is_trust note && number_at bytes note.desc 4 == DOMAINS_VERSION)

abbrev pub version_fault : List ℕ → Option ImageFault
version_fault bytes = if list_any (λ note. not (is_versioned bytes note)) (notes bytes)
    then Some NoteVersion else None

-- ---- records of the trust note: kind and key of 4 bytes, start and length of 8

pub record Record : Type 0 where
  pub kind : ℕ
  pub key : ℕ
  pub start : ℕ
  pub length : ℕ

abbrev pub record_at : List ℕ → ℕ → Record
record_at bytes place = record {
  kind = number_at bytes place 4;
  key = number_at bytes (place + RECORD_KEY) 4;
  start = number_at bytes (place + RECORD_START) 8;
  length = number_at bytes (place + RECORD_LENGTH) 8;
}

unfoldable pub records_from : List ℕ → ℕ → ℕ → List Record
records_from bytes place zero = []
records_from bytes place (suc n) = record_at bytes place ∷ records_from bytes (place + 24) n

-- the records of the first trust note; an image without one has none
unfoldable pub records_in : List ℕ → List Note → List Record
records_in bytes [] = []
records_in bytes (note ∷ others) =
    if is_trust note then records_from bytes (note.desc + 8) (item_count bytes note)
    else records_in bytes others

abbrev pub records : List ℕ → List Record
records bytes = records_in bytes (notes bytes)

-- the first trust note has version 2
abbrev pub has_domains_in : List ℕ → List Note → Bool
has_domains_in bytes [] = false
has_domains_in bytes (note ∷ others) =
    if is_trust note then number_at bytes note.desc 4 == DOMAINS_VERSION
    else has_domains_in bytes others

abbrev pub has_domains : List ℕ → Bool
has_domains bytes = has_domains_in bytes (notes bytes)

-- kinds; an entry has no length
abbrev pub is_text : Record → Bool
is_text r = r.kind == TRUSTED_TEXT

abbrev pub is_entry_record : Record → Bool
is_entry_record r = r.kind == TRUSTED_ENTRY

abbrev pub is_data : Record → Bool
is_data r = r.kind == TRUSTED_DATA || r.kind == TRUSTED_HEAP

abbrev pub is_range : Record → Bool
is_range r = is_text r || is_data r

abbrev pub overlaps : Record → Record → Bool
overlaps r t = is_range t
    && (nat_lt r.start (t.start + t.length) && nat_lt t.start (r.start + r.length))

-- whole pages of user memory, apart from the ranges of the records before it
abbrev pub is_whole_range : List Record → Record → Bool
is_whole_range seen r =
    r.start % 4096 == 0 && (r.length % 4096 == 0
    && (nat_lt 0 r.length && (nat_le (r.start + r.length) (2 ^ 47)
    && not (list_any (overlaps r) seen))))

-- a mark of an integrity domain has no range, and is the only one of its key
abbrev pub is_mark : Record → Bool
is_mark r = r.kind == INTEGRITY_DOMAIN

abbrev pub marks : ℕ → Record → Bool
marks key r = is_mark r && r.key == key

abbrev pub is_new_mark : List Record → Record → Bool
is_new_mark seen r = r.start == 0 && (r.length == 0 && not (list_any (marks r.key) seen))

-- keys 1 to 4; heaps have the trusted key. Version 1 has that key alone, and no marks
abbrev pub is_keyed_record : Bool → Record → Bool
is_keyed_record domains r = r.key == TRUSTED_KEY
    || (domains && (not (r.kind == TRUSTED_HEAP) && (nat_lt 0 r.key && nat_le r.key MOST_DOMAINS)))

-- an entry or a mark
abbrev pub has_no_range : Record → Bool
has_no_range r = is_entry_record r || is_mark r

abbrev pub is_record : Bool → List Record → Record → Bool
is_record domains seen r = is_keyed_record domains r && (if has_no_range r
    then (if is_entry_record r then r.length == 0 else domains && is_new_mark seen r)
    else is_range r && is_whole_range seen r)

unfoldable pub record_fault : Bool → ℕ → List Record → List Record → Option ImageFault
record_fault domains index seen rs = first_failing (is_record domains) BadRecord index seen rs

-- a test of each of a given number of pages
unfoldable pub all_pages : (ℕ → Bool) → ℕ → ℕ → Bool
all_pages test page zero = true
all_pages test page (suc n) = test page && all_pages test (page + 1) n

abbrev pub lies_in : (Segment → Bool) → List Segment → Record → Bool
lies_in test ss r = all_pages (is_page_of test ss) (r.start / 4096) (r.length / 4096)

-- text may lie in segments that are executable and not writable
abbrev pub holds_text : Segment → Bool
holds_text s = is_executable s && not (is_writable s)

-- data may lie in segments that aren't executable; a heap needs writable ones
abbrev pub holds_data : Segment → Bool
holds_data s = not (is_executable s)

abbrev pub holds_heap : Segment → Bool
holds_heap s = not (is_executable s) && is_writable s

abbrev pub is_placed_text : List Segment → Record → Bool
is_placed_text ss r = if is_text r then lies_in holds_text ss r else true

unfoldable pub text_fault : ℕ → List Segment → List Record → List Record → Option ImageFault
text_fault index ss seen rs = first_failing (λ _ r. is_placed_text ss r) TextNotExec index seen rs

abbrev pub is_placed_data : List Segment → Record → Bool
is_placed_data ss r = if r.kind == TRUSTED_DATA then lies_in holds_data ss r
    else (if r.kind == TRUSTED_HEAP then lies_in holds_heap ss r else true)

unfoldable pub data_fault : ℕ → List Segment → List Record → List Record → Option ImageFault
data_fault index ss seen rs = first_failing (λ _ r. is_placed_data ss r) DataRange index seen rs

abbrev pub holds_entry : Record → Record → Bool
holds_entry e r = is_text r
    && (r.key == e.key && (nat_le r.start e.start && nat_lt e.start (r.start + r.length)))

-- an entry lies in the text with its key
abbrev pub is_placed_entry : List Record → Record → Bool
is_placed_entry all r = if is_entry_record r then list_any (holds_entry r) all else true

unfoldable pub entry_fault : ℕ → List Record → List Record → List Record → Option ImageFault
entry_fault index all seen rs =
    first_failing (λ _ r. is_placed_entry all r) EntryNotTrusted index seen rs

-- ---- functions of the functions note: start and length of 8 bytes each

abbrev pub function_at : List ℕ → ℕ → Span
function_at bytes place = record {
  start = number_at bytes place 8;
  length = number_at bytes (place + FUNCTION_LENGTH) 8;
}

unfoldable pub functions_from : List ℕ → ℕ → ℕ → List Span
functions_from bytes place zero = []
functions_from bytes place (suc n) = function_at bytes place ∷ functions_from bytes (place + 16) n

-- the functions of the first functions note; an image without one has none
unfoldable pub functions_in : List ℕ → List Note → List Span
functions_in bytes [] = []
functions_in bytes (note ∷ others) =
    if is_functions note then functions_from bytes (note.desc + 8) (item_count bytes note)
    else functions_in bytes others

-- the functions that an image lists, in the order of the note
unfoldable pub image_functions : List ℕ → List Span
image_functions bytes = functions_in bytes (notes bytes)

-- the file part of an executable segment has the whole function
abbrev pub holds_function : Span → Segment → Bool
holds_function f s = is_executable s
    && (nat_le s.vaddr f.start && nat_le (f.start + f.length) (s.vaddr + s.filesz))

-- it starts at the end of the function before it, or above
abbrev pub is_behind : List Span → Span → Bool
is_behind [] f = true
is_behind (before ∷ others) f = nat_le (before.start + before.length) f.start

abbrev pub is_function : List Segment → List Span → Span → Bool
is_function ss seen f =
    nat_lt 0 f.length && (list_any (holds_function f) ss && is_behind seen f)

unfoldable pub function_fault : ℕ → List Segment → List Span → List Span → Option ImageFault
function_fault index ss seen fs = first_failing (is_function ss) BadFunction index seen fs

-- ---- all faults, in their order

abbrev pub has_magic : List ℕ → Bool
has_magic bytes = slice_index bytes 0 == 0x7F
    && (slice_index bytes 1 == 0x45 && (slice_index bytes 2 == 0x4C && slice_index bytes 3 == 0x46))

-- 64 bits, little-endian, version 1
abbrev pub has_class : List ℕ → Bool
has_class bytes = slice_index bytes EI_CLASS == ELFCLASS64
    && (slice_index bytes EI_DATA == ELFDATA2LSB && slice_index bytes EI_VERSION == EV_CURRENT)

abbrev pub fault_if : Bool → ImageFault → Option ImageFault
fault_if test fault = if test then Some fault else None

-- what the first bytes show
unfoldable pub head_fault : List ℕ → Option ImageFault
head_fault bytes =
    or_else (fault_if (nat_lt (length bytes) 64) (Short (length bytes)))
    (or_else (fault_if (not (has_magic bytes)) Magic)
    (fault_if (not (has_class bytes)) Class))

-- the rest of the file header
unfoldable pub header_fault : List ℕ → Option ImageFault
header_fault bytes =
    or_else (fault_if (not (file_type bytes == ET_EXEC)) FileType)
    (or_else (fault_if (not (machine bytes == EM_X86_64)) Machine)
    (or_else (fault_if (not (header_size bytes == 56)) HeaderSize)
    (or_else (fault_if (nat_lt MOST_HEADERS (header_count bytes)) (TooMany (header_count bytes)))
    (fault_if (nat_lt (length bytes) (table_place bytes + 56 * header_count bytes))
    (Short (length bytes))))))

-- program headers and segments
unfoldable pub segment_fault : List ℕ → Option ImageFault
segment_fault bytes =
    or_else (static_fault 0 [] (headers bytes))
    (or_else (range_fault (length bytes) 0 [] (headers bytes))
    (shared_fault 0 [] (headers bytes)))

-- notes and records
unfoldable pub trust_fault : List ℕ → Option ImageFault
trust_fault bytes =
    or_else (note_fault bytes (headers bytes) false false)
    (or_else (version_fault bytes)
    (or_else (record_fault (has_domains bytes) 0 [] (records bytes))
    (or_else (text_fault 0 (segments bytes) [] (records bytes))
    (or_else (data_fault 0 (segments bytes) [] (records bytes))
    (entry_fault 0 (records bytes) [] (records bytes))))))

-- e_entry lies in a page of an executable segment
abbrev pub entry_point_fault : List ℕ → Option ImageFault
entry_point_fault bytes =
    fault_if (not (is_page_of is_executable (segments bytes) (entry_point bytes / 4096))) EntryPoint

unfoldable pub later_fault : List ℕ → Option ImageFault
later_fault bytes = or_else (header_fault bytes)
    (or_else (segment_fault bytes)
    (or_else (trust_fault bytes)
    (or_else (function_fault 0 (segments bytes) [] (image_functions bytes))
    (entry_point_fault bytes))))

-- the first fault of an image
unfoldable pub first_fault : List ℕ → Option ImageFault
first_fault bytes = or_else (head_fault bytes) (later_fault bytes)

-- an image is accepted where it has no fault
abbrev pub IsAccepted : List ℕ → Type 0
IsAccepted bytes = first_fault bytes ≡ None

-- ---- what is loaded

-- the byte that a segment loads at an address of its pages: file bytes first, zeros elsewhere
abbrev pub loaded_byte : List ℕ → Segment → ℕ → ℕ
loaded_byte bytes s a =
    if nat_le s.vaddr a && nat_lt a (s.vaddr + s.filesz)
    then slice_index bytes (s.offset + (a - s.vaddr)) else 0

-- the code of one segment
abbrev pub segment_code : List ℕ → Segment → Code
segment_code bytes s = λ a. if is_executable s && touches s (a / 4096)
    then Some (loaded_byte bytes s a) else None

abbrev pub code_of : List ℕ → List Segment → Code
code_of bytes [] = λ a. None
code_of bytes (s ∷ ss) = λ a. or_else (segment_code bytes s a) (code_of bytes ss a)

-- the image code: the bytes of all pages that executable segments touch
unfoldable pub image_code : List ℕ → Code
image_code bytes = code_of bytes (segments bytes)

abbrev pub span_of : Record → Span
span_of r = record { start = r.start; length = r.length }

-- the ranges of the records of which a test holds
abbrev pub spans_of : (Record → Bool) → List Record → List Span
spans_of test [] = []
spans_of test (r ∷ rs) = if test r then span_of r ∷ spans_of test rs else spans_of test rs

abbrev pub starts_of : List Record → List ℕ
starts_of [] = []
starts_of (r ∷ rs) = if is_entry_record r then r.start ∷ starts_of rs else starts_of rs

abbrev pub keys_of : (Record → Bool) → List Record → List ℕ
keys_of test [] = []
keys_of test (r ∷ rs) = if test r then r.key ∷ keys_of test rs else keys_of test rs

-- a flag for each key from 0 to 4
abbrev pub key_flags : (ℕ → Bool) → List Bool
key_flags test = false ∷ test 1 ∷ test 2 ∷ test 3 ∷ test 4 ∷ []

-- the trusted text and its entries
unfoldable pub image_trust : List ℕ → TrustValue
image_trust bytes = record {
  texts = spans_of is_text (records bytes);
  entries = starts_of (records bytes);
  text_keys = keys_of is_text (records bytes);
  entry_keys = keys_of is_entry_record (records bytes);
  domains = key_flags (λ key. key == TRUSTED_KEY || list_any (λ r. r.key == key) (records bytes));
  integrity = key_flags (λ key. list_any (marks key) (records bytes));
  strict = has_domains bytes;
}

-- trusted data and trusted heaps
unfoldable pub image_data : List ℕ → List Span
image_data bytes = spans_of (λ r. r.kind == TRUSTED_DATA) (records bytes)

unfoldable pub image_heaps : List ℕ → List Span
image_heaps bytes = spans_of (λ r. r.kind == TRUSTED_HEAP) (records bytes)

-- the key of each range of trusted data; heaps have the trusted key
unfoldable pub data_keys : List ℕ → List ℕ
data_keys bytes = keys_of (λ r. r.kind == TRUSTED_DATA) (records bytes)

-- a code on trusted text
abbrev pub text_of : TrustValue → Code → Code
text_of trust c = λ a. if in_text_of trust a then c a else None

-- the image code on trusted text
unfoldable pub trusted_code : List ℕ → Code
trusted_code bytes = text_of (image_trust bytes) (image_code bytes)

-- the pages of all segments
unfoldable pub page_total : List ℕ → ℕ
page_total bytes = sum_by page_count (segments bytes)

-- The faults, segments, records and code of the small image and of ones that differ from it in a
-- byte, computed. ELF-64, "File header", "Program header" and "Note section"; the trust note is
-- own.
use Rattle.erim_defs.specs.Inspection.Trust.{plain_trust}
use Rattle.std.proofs.Common.{◌≡◌, ℕ, ◌+◌, List, [], ◌∷◌, ◌++◌, length, Option, Some, None, take}
use Rattle.std.proofs.Common.{map, true, false, refl}
use Rattle.std.specs.Prelude.{slice_set}
use Rattle.erim_defs.specs.declared.fault.ImageFault.{ImageFault}
use Rattle.erim_defs.specs.declared.fault.ImageFault.TheVariants.{Short, Magic, Class, FileType}
use Rattle.erim_defs.specs.declared.fault.ImageFault.TheVariants.{Machine, HeaderSize, TooMany}
use Rattle.erim_defs.specs.declared.fault.ImageFault.TheVariants.{NotStatic, SegmentRange}
use Rattle.erim_defs.specs.declared.fault.ImageFault.TheVariants.{SharedPage, NoteShape}
use Rattle.erim_defs.specs.declared.fault.ImageFault.TheVariants.{NoteVersion, BadRecord}
use Rattle.erim_defs.specs.declared.fault.ImageFault.TheVariants.{TextNotExec, DataRange}
use Rattle.erim_defs.specs.declared.fault.ImageFault.TheVariants.{EntryNotTrusted, EntryPoint}
use Rattle.erim_defs.specs.declared.fault.ImageFault.TheVariants.{BadFunction}
use Rattle.erim_defs.specs.declared.segment.Segment.{Segment}
use Rattle.erim_defs.specs.declared.trust.Span.{Span}
use Rattle.erim_defs.specs.Inspection.Image.{number_at, headers_from, headers, loadable_segments}
use Rattle.erim_defs.specs.Inspection.Image.{static_fault}
use Rattle.erim_defs.specs.Inspection.Image.{range_fault, shared_fault, notes_between}
use Rattle.erim_defs.specs.Inspection.Image.{note_fault_between, is_functions}
use Rattle.erim_defs.specs.Inspection.Image.{note_fault, notes, records_from, records_in}
use Rattle.erim_defs.specs.Inspection.Image.{record_fault}
use Rattle.erim_defs.specs.Inspection.Image.{all_pages, text_fault, data_fault, entry_fault}
use Rattle.erim_defs.specs.Inspection.Image.{head_fault}
use Rattle.erim_defs.specs.Inspection.Image.{header_fault, segment_fault, trust_fault, later_fault}
use Rattle.erim_defs.specs.Inspection.Image.{first_fault, segments, image_code, image_trust}
use Rattle.erim_defs.specs.Inspection.Image.{functions_from, functions_in, image_functions}
use Rattle.erim_defs.specs.Inspection.Image.{function_fault, image_data}
use Rattle.erim_defs.specs.Inspection.Image.{image_heaps, trusted_code}
use Rattle.erim_defs.specs.Output.LayImage.{functions_note}
use Rattle.definition_rows.proofs.SmallMachine.{small_image}

-- the small image with another byte
abbrev with_byte : ℕ → ℕ → List ℕ
with_byte place value = slice_set small_image place value

-- the first fault, computed
fault_of : List ℕ → Option ImageFault
unfolding small_image number_at headers_from headers loadable_segments static_fault range_fault
    shared_fault
    notes_between note_fault_between note_fault notes records_from records_in record_fault all_pages
    text_fault data_fault entry_fault functions_from functions_in image_functions function_fault
    head_fault header_fault segment_fault trust_fault later_fault first_fault
fault_of image = first_fault image

accepted : fault_of small_image ≡ None
unfolding fault_of
accepted = refl

-- ---- the first bytes

short :
    fault_of [] ∷ fault_of (take 63 small_image) ∷ [] ≡ Some (Short 0) ∷ Some (Short 63) ∷ []
unfolding fault_of
short = refl

magic :
    map (λ place. fault_of (with_byte place 9)) (0 ∷ 1 ∷ 2 ∷ 3 ∷ [])
    ≡ Some Magic ∷ Some Magic ∷ Some Magic ∷ Some Magic ∷ []
unfolding fault_of
magic = refl

class :
    map (λ place. fault_of (with_byte place 9)) (4 ∷ 5 ∷ 6 ∷ [])
    ≡ Some Class ∷ Some Class ∷ Some Class ∷ []
unfolding fault_of
class = refl

-- ---- the file header

file_type : fault_of (with_byte 16 3) ≡ Some FileType
unfolding fault_of
file_type = refl

machine : fault_of (with_byte 18 3) ≡ Some Machine
unfolding fault_of
machine = refl

header_size : fault_of (with_byte 54 57) ≡ Some HeaderSize
unfolding fault_of
header_size = refl

too_many : fault_of (with_byte 56 65) ≡ Some (TooMany 65)
unfolding fault_of
too_many = refl

-- 64 headers end at 3648
short_table : fault_of (with_byte 56 64) ≡ Some (Short 652)
unfolding fault_of
short_table = refl

-- ---- program headers: header i stands at 64 + 56 * i

not_static :
    map (λ kind. fault_of (with_byte 120 kind)) (2 ∷ 3 ∷ 7 ∷ [])
    ≡ Some (NotStatic 1) ∷ Some (NotStatic 1) ∷ Some (NotStatic 1) ∷ []
unfolding fault_of
not_static = refl

-- p_offset past the end, p_memsz below p_filesz, p_vaddr too low, and too high
segment_range :
    fault_of (with_byte 74 1) ∷ fault_of (with_byte 104 1) ∷ fault_of (with_byte 82 0)
    ∷ fault_of (with_byte 85 0x80) ∷ []
    ≡ Some (SegmentRange 0) ∷ Some (SegmentRange 0) ∷ Some (SegmentRange 0) ∷ Some (SegmentRange 0)
    ∷ []
unfolding fault_of
segment_range = refl

-- a PT_LOAD at 0x7FFE9000, on the stack
on_the_stack :
    fault_of (slice_set (slice_set (with_byte 81 0x90) 82 0xFE) 83 0x7F) ≡ Some (SegmentRange 0)
unfolding fault_of
on_the_stack = refl

-- the last segment has as many pages as are left of 4,080, and one more
page_limit :
    let bytes = slice_set (slice_set (with_byte 440 0) 441 0x90) 442 0xFE in
    fault_of bytes ∷ fault_of (slice_set bytes 440 1) ∷ [] ≡ None ∷ Some (SegmentRange 6) ∷ []
unfolding fault_of
page_limit = refl

-- a PT_NOTE past the end
note_range : fault_of (with_byte 488 125) ≡ Some (SegmentRange 7)
unfolding fault_of
note_range = refl

-- the second segment at 0x401000
shared_page : fault_of (with_byte 137 0x10) ≡ Some (SharedPage 1)
unfolding fault_of
shared_page = refl

-- ---- the note, at 528

-- another size of the desc, another count
note_shape :
    fault_of (with_byte 532 103) ∷ fault_of (with_byte 552 3) ∷ []
    ≡ Some (NoteShape 528) ∷ Some (NoteShape 528) ∷ []
unfolding fault_of
note_shape = refl

note_version : fault_of (with_byte 548 3) ≡ Some NoteVersion
unfolding fault_of
note_version = refl

-- a trust note without records, and a functions note without functions
empty_trust : List ℕ
empty_trust =
    5 ∷ 0 ∷ 0 ∷ 0 ∷ 8 ∷ 0 ∷ 0 ∷ 0 ∷ 1 ∷ 0 ∷ 0 ∷ 0 ∷ 0x45 ∷ 0x52 ∷ 0x49 ∷ 0x4D ∷ 0 ∷ 0 ∷ 0 ∷ 0
    ∷ 1 ∷ 0 ∷ 0 ∷ 0 ∷ 0 ∷ 0 ∷ 0 ∷ 0 ∷ []

empty_functions : List ℕ
empty_functions =
    6 ∷ 0 ∷ 0 ∷ 0 ∷ 8 ∷ 0 ∷ 0 ∷ 0 ∷ 2 ∷ 0 ∷ 0 ∷ 0 ∷ 0x45 ∷ 0x52 ∷ 0x49 ∷ 0x4D ∷ 0x46 ∷ 0 ∷ 0 ∷ 0
    ∷ 1 ∷ 0 ∷ 0 ∷ 0 ∷ 0 ∷ 0 ∷ 0 ∷ 0 ∷ []

-- one of each kind, in any order, and not a second one; also after the notes of another segment
second_notes :
    map (λ bytes. note_fault_between bytes 56 0 56 false false)
    ((empty_trust ++ empty_functions) ∷ (empty_functions ++ empty_trust)
    ∷ (empty_trust ++ empty_trust) ∷ (empty_functions ++ empty_functions) ∷ [])
    ≡ None ∷ None ∷ Some (NoteShape 28) ∷ Some (NoteShape 28) ∷ []
unfolding note_fault_between number_at empty_trust empty_functions
second_notes = refl

notes_behind :
    note_fault_between empty_trust 28 0 28 true false
    ∷ note_fault_between empty_trust 28 0 28 false true
    ∷ note_fault_between empty_functions 28 0 28 true false
    ∷ note_fault_between empty_functions 28 0 28 false true ∷ []
    ≡ Some (NoteShape 0) ∷ None ∷ None ∷ Some (NoteShape 0) ∷ []
unfolding note_fault_between number_at empty_trust empty_functions
notes_behind = refl

-- which of the notes lists functions
function_notes :
    map is_functions (notes_between (empty_trust ++ empty_functions) 56 0 56) ≡ false ∷ true ∷ []
unfolding notes_between number_at empty_trust empty_functions
function_notes = refl

-- ---- records: record i stands at 556 + 24 * i

-- another kind, another key, a start and a length that aren't multiples of 4096, no length, an
-- entry with a length
bad_record :
    fault_of (with_byte 556 5) ∷ fault_of (with_byte 560 2) ∷ fault_of (with_byte 588 1)
    ∷ fault_of (with_byte 596 1) ∷ fault_of (with_byte 597 0) ∷ fault_of (with_byte 620 1) ∷ []
    ≡ Some (BadRecord 0) ∷ Some (BadRecord 0) ∷ Some (BadRecord 1) ∷ Some (BadRecord 1)
    ∷ Some (BadRecord 1) ∷ Some (BadRecord 2) ∷ []
unfolding fault_of
bad_record = refl

-- the heap at 0x406000, where the data is
overlapping : fault_of (with_byte 637 0x60) ≡ Some (BadRecord 3)
unfolding fault_of
overlapping = refl

-- trusted text at 0x405000, which isn't executable, at 0x408000, which is writable too, and in no
-- segment
text_range :
    map (λ x. fault_of (with_byte 565 x)) (0x50 ∷ 0x80 ∷ 0x90 ∷ [])
    ≡ Some (TextNotExec 0) ∷ Some (TextNotExec 0) ∷ Some (TextNotExec 0) ∷ []
unfolding fault_of
text_range = refl

-- trusted data at 0x401000, which is executable, at 0x408000, which is so too, in no segment; it
-- may be read-only
data_range :
    map (λ x. fault_of (with_byte 589 x)) (0x10 ∷ 0x80 ∷ 0x90 ∷ 0x50 ∷ [])
    ≡ Some (DataRange 1) ∷ Some (DataRange 1) ∷ Some (DataRange 1) ∷ None ∷ []
unfolding fault_of
data_range = refl

-- a heap at the same, which may not be read-only, and at 0x404000, which is writable
heap_range :
    map (λ x. fault_of (with_byte 637 x)) (0x10 ∷ 0x80 ∷ 0x90 ∷ 0x50 ∷ 0x40 ∷ [])
    ≡ Some (DataRange 3) ∷ Some (DataRange 3) ∷ Some (DataRange 3) ∷ Some (DataRange 3) ∷ None ∷ []
unfolding fault_of
heap_range = refl

-- an entry before trusted text, and after it
entry_range :
    map (λ x. fault_of (with_byte 613 x)) (0x1F ∷ 0x2F ∷ 0x30 ∷ [])
    ≡ Some (EntryNotTrusted 2) ∷ None ∷ Some (EntryNotTrusted 2) ∷ []
unfolding fault_of
entry_range = refl

-- ---- functions, in a functions note after the trust note, which ends at 652

abbrev function : ℕ → ℕ → Span
function start length = record { start = start; length = length }

-- p_filesz of the note's header stands at 488
with_functions : List Span → List ℕ
unfolding small_image
with_functions fs =
    slice_set small_image 488 (124 + length (functions_note fs)) ++ functions_note fs

functions_of : List Span → Option ImageFault
unfolding fault_of with_functions
functions_of fs = fault_of (with_functions fs)

-- the last bytes of two file parts, and two functions that meet
good_functions :
    map functions_of ([] ∷ (function 0x401000 2 ∷ function 0x402000 9 ∷ [])
    ∷ (function 0x402000 4 ∷ function 0x402004 5 ∷ []) ∷ [])
    ≡ None ∷ None ∷ None ∷ []
unfolding functions_of
good_functions = refl

-- no bytes; one byte past a file part, also where memory goes on; one byte before a segment; in a
-- segment that isn't executable; in no segment; from one executable segment into the next
bad_functions :
    map (λ f. functions_of (f ∷ [])) (function 0x402004 0 ∷ function 0x401001 2
    ∷ function 0x402000 10 ∷ function 0x400FFF 2 ∷ function 0x403010 3 ∷ function 0x409000 1
    ∷ function 0x401000 0x1009 ∷ [])
    ≡ Some (BadFunction 0) ∷ Some (BadFunction 0) ∷ Some (BadFunction 0) ∷ Some (BadFunction 0)
    ∷ Some (BadFunction 0) ∷ Some (BadFunction 0) ∷ Some (BadFunction 0) ∷ []
unfolding functions_of
bad_functions = refl

-- sums past 2^64 come to 0x402004 and to 0x402003 if they wrap
wide_functions :
    map (λ f. functions_of (f ∷ []))
    (function 0x402004 0xFFFFFFFFFFFFFFFF ∷ function 0xFFFFFFFFFFFFFFFF 0x402004 ∷ [])
    ≡ Some (BadFunction 0) ∷ Some (BadFunction 0) ∷ []
unfolding functions_of
wide_functions = refl

-- out of order, one byte over the one before, the same once more, and of two bad ones the first
ordered_functions :
    functions_of (function 0x402000 9 ∷ function 0x401000 2 ∷ [])
    ∷ functions_of (function 0x402000 5 ∷ function 0x402004 5 ∷ [])
    ∷ functions_of (function 0x401000 1 ∷ function 0x401000 1 ∷ [])
    ∷ functions_of (function 0x401000 2 ∷ function 0x402000 0 ∷ function 0x401000 0 ∷ []) ∷ []
    ≡ Some (BadFunction 1) ∷ Some (BadFunction 1) ∷ Some (BadFunction 1) ∷ Some (BadFunction 1)
    ∷ []
unfolding functions_of
ordered_functions = refl

-- after the row of entries, and before that of the entry point
functions_row :
    let bytes = with_functions (function 0x401000 3 ∷ []) in
    fault_of (slice_set bytes 613 0x30) ∷ fault_of (slice_set bytes 25 0x30) ∷ []
    ≡ Some (EntryNotTrusted 2) ∷ Some (BadFunction 0) ∷ []
unfolding fault_of with_functions
functions_row = refl

-- the functions as they are said, whatever they are; an image without their note has none
told_functions :
    map image_functions
    (small_image ∷ with_functions []
    ∷ with_functions (function 0x401000 2 ∷ function 7 0 ∷ []) ∷ [])
    ≡ [] ∷ [] ∷ (function 0x401000 2 ∷ function 7 0 ∷ []) ∷ []
unfolding fault_of with_functions
told_functions = refl

-- e_entry in a page that isn't executable
entry_point : fault_of (with_byte 25 0x30) ≡ Some EntryPoint
unfolding fault_of
entry_point = refl

-- ---- what is loaded

abbrev segment : ℕ → ℕ → ℕ → ℕ → ℕ → Segment
segment flags offset vaddr filesz memsz =
    record { flags = flags; offset = offset; vaddr = vaddr; filesz = filesz; memsz = memsz }

all_segments : segments small_image ≡
    segment 5 512 0x401000 2 2 ∷ segment 5 514 0x402000 9 4096 ∷ segment 6 523 0x403010 3 0x1001
    ∷ segment 4 526 0x405000 1 1
    ∷ segment 6 0 0x406000 0 4096 ∷ segment 6 0 0x407000 0 4096 ∷ segment 7 527 0x408000 1 1 ∷ []
unfolding fault_of
all_segments = refl

trust :
    image_trust small_image
    ≡ plain_trust (record { start = 0x402000; length = 4096 } ∷ []) (0x402007 ∷ [])
unfolding fault_of image_trust
trust = refl

-- notes of alignment 8, of another name and of another type are passed over
no_trust :
    map image_trust (with_byte 504 8 ∷ with_byte 540 0x65 ∷ with_byte 536 3 ∷ [])
    ≡ plain_trust [] [] ∷ plain_trust [] []
    ∷ plain_trust [] [] ∷ []
unfolding fault_of image_trust
no_trust = refl

data_and_heaps :
    image_data small_image ∷ image_heaps small_image ∷ []
    ≡ (record { start = 0x406000; length = 4096 } ∷ [])
    ∷ (record { start = 0x407000; length = 4096 } ∷ []) ∷ []
unfolding fault_of image_data image_heaps
data_and_heaps = refl

-- the pages of executable segments: file bytes, and zeros after them
code :
    map (image_code small_image)
    (0x400FFF ∷ 0x401001 ∷ 0x401002 ∷ 0x401FFF ∷ 0x402000 ∷ 0x402008 ∷ 0x402009 ∷ 0x403010
    ∷ 0x408000 ∷ 0x408FFF ∷ 0x409000 ∷ [])
    ≡ None ∷ Some 0x90 ∷ Some 0 ∷ Some 0 ∷ Some 0xB8 ∷ Some 0x05 ∷ Some 0 ∷ None ∷ Some 0x45
    ∷ Some 0 ∷ None ∷ []
unfolding fault_of image_code
code = refl

-- trusted text alone
text_code :
    map (trusted_code small_image)
    (0x401000 ∷ 0x401FFF ∷ 0x402000 ∷ 0x402FFF ∷ 0x403010 ∷ 0x408000 ∷ [])
    ≡ None ∷ None ∷ Some 0xB8 ∷ Some 0 ∷ None ∷ None ∷ []
unfolding fault_of image_code image_trust trusted_code
text_code = refl

-- Images whose trust note has version 2, computed: their faults, their trust, the keys of pages.
-- Own.
use Rattle.std.proofs.Common.{◌≡◌, ℕ, List, [], ◌∷◌, ◌++◌, map, Option, Some, None, Bool, true}
use Rattle.std.proofs.Common.{false, refl}
use Rattle.erim_defs.specs.declared.fault.ImageFault.{ImageFault}
use Rattle.erim_defs.specs.declared.fault.ImageFault.TheVariants.{NoteVersion, BadRecord, DataRange}
use Rattle.erim_defs.specs.declared.fault.ImageFault.TheVariants.{EntryNotTrusted, TextNotExec}
use Rattle.erim_defs.specs.declared.trust.Span.{Span}
use Rattle.erim_defs.specs.Inspection.Image.{Record}
use Rattle.erim_defs.specs.Inspection.Image.{number_at, headers_from, headers, loadable_segments}
use Rattle.erim_defs.specs.Inspection.Image.{static_fault, range_fault, shared_fault}
use Rattle.erim_defs.specs.Inspection.Image.{notes_between, note_fault_between, note_fault, notes}
use Rattle.erim_defs.specs.Inspection.Image.{records_from, records_in, record_fault, all_pages}
use Rattle.erim_defs.specs.Inspection.Image.{text_fault, data_fault, entry_fault, functions_from}
use Rattle.erim_defs.specs.Inspection.Image.{functions_in, image_functions, function_fault}
use Rattle.erim_defs.specs.Inspection.Image.{head_fault, header_fault, segment_fault, trust_fault}
use Rattle.erim_defs.specs.Inspection.Image.{later_fault, first_fault, image_trust, image_data}
use Rattle.erim_defs.specs.Inspection.Image.{image_heaps, data_keys}
use Rattle.erim_defs.specs.Inspection.Trust.{TrustValue, plain_trust}
use Rattle.erim_defs.specs.Machine.Start.{page_key}
use Rattle.definition_rows.proofs.DomainImages.{mark, note_of, image_with, bare_image, text, entry}
use Rattle.definition_rows.proofs.DomainImages.{integrity, two_records, span, trust_of_two}

fault_of : List ℕ → Option ImageFault
unfolding image_with number_at headers_from headers loadable_segments static_fault range_fault
    shared_fault notes_between note_fault_between note_fault notes records_from records_in
    record_fault all_pages text_fault data_fault entry_fault functions_from functions_in
    image_functions function_fault head_fault header_fault segment_fault trust_fault later_fault
    first_fault
fault_of notes = first_fault (image_with notes)

-- the fault of an image with these records in a note of this version
fault_in : ℕ → List Record → Option ImageFault
unfolding fault_of
fault_in version rs = fault_of (note_of version rs)

accepted : fault_in 2 two_records ≡ None
unfolding fault_in
accepted = refl

-- ---- versions

-- of the trust note: 1 and 2 alone, and all four bytes count
trust_version :
    map (λ version. fault_in version (text 1 0x402000 ∷ entry 1 0x40200C ∷ []))
    (0 ∷ 1 ∷ 2 ∷ 3 ∷ 0x102 ∷ 0x02000000 ∷ [])
    ≡ Some NoteVersion ∷ None ∷ None ∷ Some NoteVersion ∷ Some NoteVersion ∷ Some NoteVersion ∷ []
unfolding fault_in
trust_version = refl

-- a functions note without functions
functions_of_version : ℕ → List ℕ
functions_of_version version =
    6 ∷ 0 ∷ 0 ∷ 0 ∷ 8 ∷ 0 ∷ 0 ∷ 0 ∷ 2 ∷ 0 ∷ 0 ∷ 0 ∷ 0x45 ∷ 0x52 ∷ 0x49 ∷ 0x4D ∷ 0x46 ∷ 0 ∷ 0 ∷ 0
    ∷ version ∷ 0 ∷ 0 ∷ 0 ∷ 0 ∷ 0 ∷ 0 ∷ 0 ∷ []

-- of the functions note: 1 alone, alone and with a trust note of either version before or after it
functions_version :
    map fault_of
    (functions_of_version 1 ∷ functions_of_version 2
    ∷ (note_of 2 (text 2 0x402000 ∷ []) ++ functions_of_version 1)
    ∷ (functions_of_version 1 ++ note_of 2 (text 2 0x402000 ∷ []))
    ∷ (note_of 2 (text 2 0x402000 ∷ []) ++ functions_of_version 2)
    ∷ (functions_of_version 2 ++ note_of 2 (text 2 0x402000 ∷ []))
    ∷ (note_of 1 (text 1 0x402000 ∷ []) ++ functions_of_version 2) ∷ [])
    ≡ None ∷ Some NoteVersion ∷ None ∷ None ∷ Some NoteVersion ∷ Some NoteVersion
    ∷ Some NoteVersion ∷ []
unfolding fault_of functions_of_version
functions_version = refl

-- a wrong version comes before a wrong record
version_first : fault_in 3 (text 7 0x402000 ∷ []) ≡ Some NoteVersion
unfolding fault_in
version_first = refl

-- ---- keys: 1 to 4 in version 2, 1 alone in version 1

-- data of each key, and of a key whose low byte is 1
data_keys_in : ℕ → List (Option ImageFault)
unfolding fault_in
data_keys_in version =
    map (λ key. fault_in version (mark 2 key 0x404000 4096 ∷ []))
    (0 ∷ 1 ∷ 2 ∷ 3 ∷ 4 ∷ 5 ∷ 15 ∷ 0x101 ∷ [])

keys_of_two : data_keys_in 2
    ≡ Some (BadRecord 0) ∷ None ∷ None ∷ None ∷ None ∷ Some (BadRecord 0) ∷ Some (BadRecord 0)
    ∷ Some (BadRecord 0) ∷ []
unfolding data_keys_in
keys_of_two = refl

keys_of_one : data_keys_in 1
    ≡ Some (BadRecord 0) ∷ None ∷ Some (BadRecord 0) ∷ Some (BadRecord 0) ∷ Some (BadRecord 0)
    ∷ Some (BadRecord 0) ∷ Some (BadRecord 0) ∷ Some (BadRecord 0) ∷ []
unfolding data_keys_in
keys_of_one = refl

-- text, an entry and a mark with the keys 0, 1, 4 and 5; the entry is in text of its own key
text_keys_in : List (Option ImageFault)
unfolding fault_in
text_keys_in = map (λ key. fault_in 2 (text key 0x402000 ∷ [])) (0 ∷ 1 ∷ 4 ∷ 5 ∷ [])

keys_of_texts : text_keys_in
    ≡ Some (BadRecord 0) ∷ None ∷ None ∷ Some (BadRecord 0) ∷ []
unfolding text_keys_in
keys_of_texts = refl

keys_of_entries :
    map (λ key. fault_in 2 (text 4 0x402000 ∷ entry key 0x402000 ∷ [])) (0 ∷ 4 ∷ 5 ∷ [])
    ≡ Some (BadRecord 1) ∷ None ∷ Some (BadRecord 1) ∷ []
unfolding fault_in
keys_of_entries = refl

keys_of_marks : map (λ key. fault_in 2 (integrity key ∷ [])) (0 ∷ 1 ∷ 2 ∷ 4 ∷ 5 ∷ [])
    ≡ Some (BadRecord 0) ∷ None ∷ None ∷ None ∷ Some (BadRecord 0) ∷ []
unfolding fault_in
keys_of_marks = refl

-- a key of 2 in version 1, at each place of the list
key_place :
    map (fault_in 1)
    ((text 2 0x402000 ∷ []) ∷ (text 1 0x402000 ∷ text 2 0x403000 ∷ [])
    ∷ (text 1 0x402000 ∷ text 1 0x403000 ∷ entry 2 0x403000 ∷ []) ∷ [])
    ≡ Some (BadRecord 0) ∷ Some (BadRecord 1) ∷ Some (BadRecord 2) ∷ []
unfolding fault_in
key_place = refl

-- a heap has key 1, also in version 2
keys_of_heaps :
    map (λ key. fault_in 2 (mark 4 key 0x404000 4096 ∷ [])) (0 ∷ 1 ∷ 2 ∷ 3 ∷ 4 ∷ 5 ∷ [])
    ≡ Some (BadRecord 0) ∷ None ∷ Some (BadRecord 0) ∷ Some (BadRecord 0) ∷ Some (BadRecord 0)
    ∷ Some (BadRecord 0) ∷ []
unfolding fault_in
keys_of_heaps = refl

-- ---- kinds: 1 to 5 in version 2, 1 to 4 in version 1

-- each with the fields of a mark, and 0x105, whose low byte is 5
kinds_of_marks :
    map (λ kind. fault_in 2 (mark kind 1 0 0 ∷ [])) (0 ∷ 5 ∷ 6 ∷ 0x105 ∷ [])
    ≡ Some (BadRecord 0) ∷ None ∷ Some (BadRecord 0) ∷ Some (BadRecord 0) ∷ []
unfolding fault_in
kinds_of_marks = refl

-- each with the fields of a range
kinds_of_ranges :
    map (λ kind. fault_in 2 (mark kind 1 0x404000 4096 ∷ [])) (0 ∷ 2 ∷ 4 ∷ 5 ∷ 6 ∷ [])
    ≡ Some (BadRecord 0) ∷ None ∷ None ∷ Some (BadRecord 0) ∷ Some (BadRecord 0) ∷ []
unfolding fault_in
kinds_of_ranges = refl

-- version 1 has no marks, whatever their fields are
kinds_of_one :
    map (λ r. fault_in 1 (r ∷ []))
    (integrity 1 ∷ integrity 2 ∷ mark 5 1 0x404000 4096 ∷ mark 6 1 0 0 ∷ [])
    ≡ Some (BadRecord 0) ∷ Some (BadRecord 0) ∷ Some (BadRecord 0) ∷ Some (BadRecord 0) ∷ []
unfolding fault_in
kinds_of_one = refl

-- ---- marks

-- start and length are 0: of each one byte, a page, and one in the upper half
mark_fields :
    map (λ r. fault_in 2 (text 1 0x402000 ∷ r ∷ []))
    (mark 5 1 1 0 ∷ mark 5 1 4096 0 ∷ mark 5 1 0x100000000 0 ∷ mark 5 1 0 1 ∷ mark 5 1 0 4096
    ∷ mark 5 1 0 0x100000000 ∷ [])
    ≡ Some (BadRecord 1) ∷ Some (BadRecord 1) ∷ Some (BadRecord 1) ∷ Some (BadRecord 1)
    ∷ Some (BadRecord 1) ∷ Some (BadRecord 1) ∷ []
unfolding fault_in
mark_fields = refl

-- one for each key: the second of a key is wrong, also with others between; a range of the key
-- isn't its mark
marks_of_keys :
    map (fault_in 2)
    ((integrity 1 ∷ integrity 2 ∷ integrity 3 ∷ integrity 4 ∷ [])
    ∷ (integrity 2 ∷ integrity 2 ∷ []) ∷ (integrity 2 ∷ integrity 1 ∷ integrity 2 ∷ [])
    ∷ (integrity 4 ∷ integrity 1 ∷ integrity 1 ∷ integrity 4 ∷ [])
    ∷ (text 2 0x402000 ∷ entry 2 0x402000 ∷ integrity 2 ∷ []) ∷ [])
    ≡ None ∷ Some (BadRecord 1) ∷ Some (BadRecord 2) ∷ Some (BadRecord 2) ∷ None ∷ []
unfolding fault_in
marks_of_keys = refl

-- a mark overlaps nothing, before ranges and after them; ranges of two keys overlap as those of one
-- do
overlaps_of_two :
    map (fault_in 2)
    ((integrity 1 ∷ text 1 0x402000 ∷ mark 2 1 0x404000 4096 ∷ [])
    ∷ (text 1 0x402000 ∷ mark 2 1 0x404000 4096 ∷ integrity 1 ∷ [])
    ∷ (text 1 0x402000 ∷ text 2 0x402000 ∷ [])
    ∷ (mark 2 1 0x404000 0x2000 ∷ mark 2 2 0x405000 0x2000 ∷ [])
    ∷ (mark 2 2 0x405000 4096 ∷ mark 4 1 0x404000 0x2000 ∷ [])
    ∷ (mark 2 1 0x404000 4096 ∷ mark 2 2 0x405000 4096 ∷ mark 2 2 0x406000 4096 ∷ []) ∷ [])
    ≡ None ∷ None ∷ Some (BadRecord 1) ∷ Some (BadRecord 1) ∷ Some (BadRecord 1) ∷ None ∷ []
unfolding fault_in
overlaps_of_two = refl

-- ---- entries: in text of their own key

entry_of_another :
    map (fault_in 2)
    ((text 2 0x402000 ∷ entry 1 0x402000 ∷ []) ∷ (text 1 0x402000 ∷ entry 2 0x402000 ∷ [])
    ∷ (text 1 0x402000 ∷ text 2 0x403000 ∷ entry 1 0x403000 ∷ [])
    ∷ (text 1 0x402000 ∷ text 2 0x403000 ∷ entry 2 0x402FFF ∷ [])
    ∷ (text 1 0x402000 ∷ entry 3 0x402000 ∷ []) ∷ (integrity 3 ∷ entry 3 0x402000 ∷ []) ∷ [])
    ≡ Some (EntryNotTrusted 1) ∷ Some (EntryNotTrusted 1) ∷ Some (EntryNotTrusted 2)
    ∷ Some (EntryNotTrusted 2) ∷ Some (EntryNotTrusted 1) ∷ Some (EntryNotTrusted 1) ∷ []
unfolding fault_in
entry_of_another = refl

-- the first and the last byte, before the record of its text too, in the second text of a key, and
-- the same entry twice
entry_of_its_own :
    map (fault_in 2)
    ((text 2 0x402000 ∷ entry 2 0x402000 ∷ entry 2 0x402FFF ∷ [])
    ∷ (entry 2 0x402000 ∷ text 2 0x402000 ∷ [])
    ∷ (text 2 0x402000 ∷ text 2 0x403000 ∷ entry 2 0x403000 ∷ [])
    ∷ (text 2 0x402000 ∷ entry 2 0x402000 ∷ entry 2 0x402000 ∷ []) ∷ [])
    ≡ None ∷ None ∷ None ∷ None ∷ []
unfolding fault_in
entry_of_its_own = refl

-- one address with two keys isn't in the text of both; an entry has no length in version 2 either
entry_of_both :
    fault_in 2 (text 2 0x402000 ∷ entry 2 0x402000 ∷ entry 1 0x402000 ∷ [])
    ∷ fault_in 2 (text 2 0x402000 ∷ mark 3 2 0x402000 1 ∷ []) ∷ []
    ≡ Some (EntryNotTrusted 2) ∷ Some (BadRecord 1) ∷ []
unfolding fault_in
entry_of_both = refl

-- ---- segments: text of every key in executable ones, data of every key in others

segments_of_two :
    map (fault_in 2)
    ((text 2 0x404000 ∷ []) ∷ (mark 2 2 0x402000 4096 ∷ []) ∷ (mark 2 3 0x409000 4096 ∷ []) ∷ [])
    ≡ Some (TextNotExec 0) ∷ Some (DataRange 0) ∷ Some (DataRange 0) ∷ []
unfolding fault_in
segments_of_two = refl

-- ---- the trust

trust_in : List ℕ → TrustValue
unfolding bare_image number_at headers_from headers loadable_segments notes_between notes
    records_from records_in image_trust
trust_in notes = image_trust (bare_image notes)

-- two domains, of which the second is an integrity domain
trust_of_records :
    trust_in (note_of 2 two_records)
    ≡ trust_of_two (false ∷ false ∷ true ∷ false ∷ false ∷ []) true
unfolding trust_in
trust_of_records = refl

-- version 1: one domain, and an entry is enough
trust_of_one :
    trust_in (note_of 1 (text 1 0x402000 ∷ text 1 0x403000 ∷ entry 1 0x40200C ∷ entry 1 0x40300C
    ∷ mark 2 1 0x404000 4096 ∷ []))
    ≡ plain_trust (span 0x402000 4096 ∷ span 0x403000 4096 ∷ []) (0x40200C ∷ 0x40300C ∷ [])
unfolding trust_in
trust_of_one = refl

-- texts and entries between others, in their order, with their keys
trust_in_order :
    trust_in (note_of 2 (entry 2 0x403004 ∷ text 2 0x403000 ∷ mark 2 4 0x404000 4096
    ∷ entry 1 0x402008 ∷ integrity 1 ∷ text 1 0x402000 ∷ entry 2 0x403000 ∷ []))
    ≡ record {
      texts = span 0x403000 4096 ∷ span 0x402000 4096 ∷ [];
      entries = 0x403004 ∷ 0x402008 ∷ 0x403000 ∷ [];
      text_keys = 2 ∷ 1 ∷ [];
      entry_keys = 2 ∷ 1 ∷ 2 ∷ [];
      domains = false ∷ true ∷ true ∷ false ∷ true ∷ [];
      integrity = false ∷ true ∷ false ∷ false ∷ false ∷ [];
      strict = true;
    }
unfolding trust_in
trust_in_order = refl

-- which keys are domains: 1 always; the others where a record of any kind names them
domains_of : List ℕ → List Bool
unfolding trust_in
domains_of notes = (trust_in notes).domains

named_domains :
    map (λ r. domains_of (note_of 2 (r ∷ [])))
    (mark 2 3 0x404000 4096 ∷ text 2 0x402000 ∷ entry 4 0x402000 ∷ integrity 3 ∷ [])
    ≡ (false ∷ true ∷ false ∷ true ∷ false ∷ []) ∷ (false ∷ true ∷ true ∷ false ∷ false ∷ [])
    ∷ (false ∷ true ∷ false ∷ false ∷ true ∷ []) ∷ (false ∷ true ∷ false ∷ true ∷ false ∷ []) ∷ []
unfolding domains_of
named_domains = refl

-- a note of version 2 without records is strict; no trust note isn't, also after functions
empty_trusts :
    map trust_in (note_of 2 [] ∷ [] ∷ functions_of_version 2 ∷ note_of 1 [] ∷ [])
    ≡ record (plain_trust [] []) { strict = true } ∷ plain_trust [] [] ∷ plain_trust [] []
    ∷ plain_trust [] [] ∷ []
unfolding trust_in functions_of_version
empty_trusts = refl

-- the version is the trust note's, whatever stands before it
strict_behind_functions :
    map (λ version.
    (trust_in (functions_of_version 1 ++ note_of version (text 1 0x402000 ∷ []))).strict)
    (1 ∷ 2 ∷ []) ≡ false ∷ true ∷ []
unfolding trust_in functions_of_version
strict_behind_functions = refl

-- ---- data and the keys of pages

data_in : List ℕ → List Span
unfolding trust_in image_data
data_in notes = image_data (bare_image notes)

heaps_in : List ℕ → List Span
unfolding trust_in image_heaps
heaps_in notes = image_heaps (bare_image notes)

keys_in : List ℕ → List ℕ
unfolding trust_in data_keys
keys_in notes = data_keys (bare_image notes)

data_of_two :
    data_in (note_of 2 two_records) ∷ heaps_in (note_of 2 two_records) ∷ []
    ≡ (span 0x404000 4096 ∷ span 0x405000 0x2000 ∷ []) ∷ (span 0x407000 4096 ∷ []) ∷ []
unfolding data_in heaps_in
data_of_two = refl

-- a key for each range of data, in its order; none for a heap
keys_of_data : keys_in (note_of 2 two_records) ≡ 2 ∷ 1 ∷ []
unfolding keys_in
keys_of_data = refl

-- code, text of 1 and of 2, data of 2, data of 1 on two pages, the heap, a page after it, and a
-- page that a mark's range would have
page_keys :
    map (page_key (bare_image (note_of 2 two_records)))
    (0x401 ∷ 0x402 ∷ 0x403 ∷ 0x404 ∷ 0x405 ∷ 0x406 ∷ 0x407 ∷ 0x408 ∷ 0 ∷ [])
    ≡ 0 ∷ 0 ∷ 0 ∷ 2 ∷ 1 ∷ 1 ∷ 1 ∷ 0 ∷ 0 ∷ []
unfolding trust_in
page_keys = refl

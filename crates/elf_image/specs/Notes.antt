-- What reading the notes of an image leaves known.
use Rattle.std.specs.Prelude.{◌≡◌, ℕ, ◌+◌, ◌*◌, ◌<◌, ◌≤◌, ◌==◌, ◌&&◌, nat_le, not, Bool, true}
use Rattle.std.specs.Prelude.{false, Option, Some, None, is_some, IfSome, Result, MatchResult, List}
use Rattle.std.specs.Prelude.{[], ◌∷◌, length, if◌then◌else◌}
use Rattle.erim_defs.specs.Inspection.Code.{or_else}
use Rattle.erim_defs.specs.declared.fault.ImageFault.{ImageFault}
use Rattle.erim_defs.specs.declared.trust.Span.{Span}
use Rattle.erim_defs.specs.Inspection.Image.{Header, Note, Record, header_count, header_note_fault}
use Rattle.erim_defs.specs.Inspection.Image.{header_notes, headers, is_functions, is_in_file}
use Rattle.erim_defs.specs.Inspection.Image.{is_note_shaped, is_noted, is_trust, is_versioned}
use Rattle.erim_defs.specs.Inspection.Image.{item_count, note_at, note_end, note_fault}
use Rattle.erim_defs.specs.Inspection.Image.{note_fault_between, notes, notes_between, notes_of}
use Rattle.erim_defs.specs.Inspection.Image.{functions_from, number_at, records_from}
use Rattle.erim_defs.specs.declared.note.TheConstants.{DOMAINS_VERSION}
use Rattle.elf_image.specs.declared.functions.FunctionTable.{FunctionTable}
use Rattle.elf_image.specs.declared.notes.NotesSeen.{NotesSeen}
use Rattle.elf_image.specs.declared.records.RecordTable.{RecordTable}
use Rattle.elf_image.specs.Table.{header_of, headers_left}

-- a note's header, name and desc lie in the bytes
pub record HasNote (bytes : List ℕ) (place : ℕ) : Type 0 where
  pub header : place + 12 ≤ length bytes
  pub whole : note_end bytes place ≤ length bytes

-- a note's desc lies in the bytes, unless it has none
abbrev pub HasDesc : List ℕ → Note → Type 0
HasDesc bytes note = 0 < note.size → note.desc + note.size ≤ length bytes

-- the records of a table lie in the bytes
pub record HasTableOf (bytes : List ℕ) (table : RecordTable) : Type 0 where
  pub few : table.count ≤ 256
  pub within : table.place + 24 * table.count ≤ length bytes

-- the functions of a table lie in the bytes
pub record HasFunctionsOf (bytes : List ℕ) (table : FunctionTable) : Type 0 where
  pub few : table.count ≤ 4096
  pub within : table.place + 16 * table.count ≤ length bytes

-- what was seen lies in the bytes
pub record HasItems (bytes : List ℕ) (seen : NotesSeen) : Type 0 where
  pub trust : IfSome seen.trust (HasTableOf bytes)
  pub functions : IfSome seen.functions (HasFunctionsOf bytes)

-- the note at a place is whole and shaped, and no second one of its kind
unfoldable pub is_sound : List ℕ → ℕ → ℕ → Bool → Bool → Bool
is_sound bytes place end trust functions =
    nat_le (place + 12) end && (nat_le (note_end bytes place) end
    && (is_note_shaped bytes (note_at bytes place)
    && (not (trust && is_trust (note_at bytes place))
    && not (functions && is_functions (note_at bytes place)))))

-- the records that a trust note lists
abbrev pub table_of : List ℕ → Note → RecordTable
table_of bytes note = record {
  place = note.desc + 8;
  count = item_count bytes note;
  has_domains = number_at bytes note.desc 4 == DOMAINS_VERSION;
}

-- the functions that a functions note lists
abbrev pub functions_of : List ℕ → Note → FunctionTable
functions_of bytes note = record { place = note.desc + 8; count = item_count bytes note }

abbrev pub nothing_seen : NotesSeen
nothing_seen = record { trust = None; functions = None; versioned = true }

-- what is known after one more note, and after so many
unfoldable pub see : List ℕ → NotesSeen → Note → NotesSeen
see bytes seen note = record {
  trust = (if is_trust note then or_else seen.trust (Some (table_of bytes note)) else seen.trust);
  functions = (if is_functions note
      then or_else seen.functions (Some (functions_of bytes note)) else seen.functions);
  versioned = seen.versioned && is_versioned bytes note;
}

unfoldable pub see_all : List ℕ → NotesSeen → List Note → NotesSeen
see_all bytes seen [] = seen
see_all bytes seen (note ∷ others) = see_all bytes (see bytes seen note) others

-- the records of what was seen
abbrev pub seen_records : List ℕ → Option RecordTable → List Record
seen_records bytes None = []
seen_records bytes (Some table) = records_from bytes table.place table.count

-- has the trust note that was seen version 2
abbrev pub seen_domains : Option RecordTable → Bool
seen_domains None = false
seen_domains (Some table) = table.has_domains

-- the functions of what was seen
abbrev pub seen_functions : List ℕ → Option FunctionTable → List Span
seen_functions bytes None = []
seen_functions bytes (Some table) = functions_from bytes table.place table.count

-- the notes in a given number of bytes from a place on are read: what is known then, or their first
-- fault
abbrev pub Reads : List ℕ → ℕ → ℕ → NotesSeen → Result NotesSeen ImageFault → Type 0
Reads bytes size start before result =
    MatchResult result
    (λ after. (note_fault_between bytes size start (start + size) (is_some before.trust)
    (is_some before.functions) ≡ None)
    × (after ≡ see_all bytes before (notes_between bytes size start (start + size)))
    × HasItems bytes after)
    (λ fault. note_fault_between bytes size start (start + size) (is_some before.trust)
    (is_some before.functions) ≡ Some fault)

-- the same of the notes of one header
abbrev pub ReadsHeader : List ℕ → Header → NotesSeen → Result NotesSeen ImageFault → Type 0
ReadsHeader bytes h before result =
    MatchResult result
    (λ after. (header_note_fault bytes h (is_some before.trust) (is_some before.functions) ≡ None)
    × (after ≡ see_all bytes before (header_notes bytes h)) × HasItems bytes after)
    (λ fault. header_note_fault bytes h (is_some before.trust) (is_some before.functions)
    ≡ Some fault)

-- what is left from a place on gives what all of them give
pub record IsReadTo (bytes : List ℕ) (end left place : ℕ) (seen : NotesSeen) (size start : ℕ)
    (before : NotesSeen) : Type 0 where
  pub fault : note_fault_between bytes left place end (is_some seen.trust) (is_some seen.functions)
      ≡ note_fault_between bytes size start end (is_some before.trust) (is_some before.functions)
  pub seen_is : see_all bytes seen (notes_between bytes left place end)
      ≡ see_all bytes before (notes_between bytes size start end)
  pub items : HasItems bytes seen
  pub place_le : place ≤ end

-- the notes of each header lie in the bytes
abbrev pub HasNotes : List ℕ → Type 0
HasNotes bytes = (index : ℕ) → index < header_count bytes → is_noted (header_of bytes index) ≡ true
    → is_in_file (length bytes) (header_of bytes index).segment ≡ true

-- all notes are read: what is known then, or their first fault
abbrev pub ReadsAll : List ℕ → Result NotesSeen ImageFault → Type 0
ReadsAll bytes result =
    MatchResult result
    (λ after. (note_fault bytes (headers bytes) false false ≡ None)
    × (after ≡ see_all bytes nothing_seen (notes bytes)) × HasItems bytes after)
    (λ fault. note_fault bytes (headers bytes) false false ≡ Some fault)

-- the notes of the headers before an index are read
pub record IsReadBefore (bytes : List ℕ) (index : ℕ) (seen : NotesSeen) : Type 0 where
  pub fault : note_fault bytes (headers_left bytes index) (is_some seen.trust)
      (is_some seen.functions) ≡ note_fault bytes (headers bytes) false false
  pub seen_is : see_all bytes seen (notes_of bytes (headers_left bytes index))
      ≡ see_all bytes nothing_seen (notes bytes)
  pub items : HasItems bytes seen

-- The bytes of an image that is laid: parts of a program, and notes of its trusted part and its functions,
-- laid out as a file. ELF-64 Object File Format, "File header", "Program header" and "Note
-- section"; the places and the two notes are own.
use Rattle.std.specs.Prelude.{ℕ, ◌+◌, ◌-◌, ◌*◌, ◌/◌, ◌==◌, max, List, [], ◌∷◌, ◌++◌, length}
use Rattle.std.specs.Prelude.{replicate, codes, if◌then◌else◌}
use Rattle.std.specs.List.{flat_map}
use Rattle.std.specs.Int.{w16, w32, w64, to_le_bytes}
use Rattle.erim_defs.specs.declared.elf.TheConstants.{ELFCLASS64, ELFDATA2LSB, EM_X86_64, ET_EXEC}
use Rattle.erim_defs.specs.declared.elf.TheConstants.{EV_CURRENT, PF_R, PT_LOAD, PT_NOTE}
use Rattle.erim_defs.specs.declared.note.TheConstants.{FUNCTIONS_NOTE, NOTE_VERSION}
use Rattle.erim_defs.specs.declared.note.TheConstants.{TRUST_NOTE}
use Rattle.erim_defs.specs.declared.page.TheConstants.{TRUSTED_KEY}
use Rattle.erim_defs.specs.declared.trust.Span.{Span}

-- the bytes that a segment loads, where it loads them, and how many bytes it has in memory
pub record Part : Type 0 where
  pub vaddr : ℕ
  pub flags : ℕ
  pub bytes : List ℕ
  pub memsz : ℕ

-- a record of the trust note
pub record Mark : Type 0 where
  pub kind : ℕ
  pub start : ℕ
  pub length : ℕ

-- ---- fields of 2, 4 and 8 bytes, low byte first (ELF-64, "Data representation")

abbrev pub halves : List ℕ → List ℕ
halves numbers = flat_map (to_le_bytes w16) numbers

abbrev pub words : List ℕ → List ℕ
words numbers = flat_map (to_le_bytes w32) numbers

abbrev pub xwords : List ℕ → List ℕ
xwords numbers = flat_map (to_le_bytes w64) numbers

-- ---- places

-- the least multiple of a size that isn't below n
abbrev pub multiple_from : ℕ → ℕ → ℕ
multiple_from size n = (n + (size - 1)) / size * size

-- the bytes with zeros after them up to a place
abbrev pub with_padding : ℕ → List ℕ → List ℕ
with_padding place bytes = bytes ++ replicate (place - length bytes) 0

-- ---- notes (ELF-64, "Note section")

-- the sizes of name and desc, the type, the name filled up to a multiple of 4, and the desc:
-- version 1, how many items there are, and the items. Without items there is no note
abbrev pub note : List ℕ → ℕ → ℕ → List ℕ → List ℕ
note name kind count items =
    if count == 0 then []
    else words (length name ∷ (8 + length items) ∷ kind ∷ [])
    ++ (with_padding (multiple_from 4 (length name)) name
    ++ (words (NOTE_VERSION ∷ count ∷ []) ++ items))

-- kind, key, start, length
abbrev pub mark_bytes : Mark → List ℕ
mark_bytes m = words (m.kind ∷ TRUSTED_KEY ∷ []) ++ xwords (m.start ∷ m.length ∷ [])

abbrev pub span_bytes : Span → List ℕ
span_bytes s = xwords (s.start ∷ s.length ∷ [])

abbrev pub trust_note : List Mark → List ℕ
trust_note marks = note (codes "ERIM" ++ 0 ∷ []) TRUST_NOTE (length marks)
    (flat_map mark_bytes marks)

abbrev pub functions_note : List Span → List ℕ
functions_note functions =
    note (codes "ERIMF" ++ 0 ∷ []) FUNCTIONS_NOTE (length functions) (flat_map span_bytes functions)

-- ---- pieces of the file, each with a program header

-- what the header says, and the bytes that stand at the place
pub record Piece : Type 0 where
  pub kind : ℕ
  pub flags : ℕ
  pub place : ℕ
  pub vaddr : ℕ
  pub bytes : List ℕ
  pub memsz : ℕ
  pub align : ℕ

-- p_type, p_flags; p_offset, p_vaddr, p_paddr, p_filesz, p_memsz, p_align (ELF-64, "Program
-- header")
abbrev pub program_header : Piece → List ℕ
program_header p = words (p.kind ∷ p.flags ∷ [])
    ++ xwords (p.place ∷ p.vaddr ∷ p.vaddr ∷ length p.bytes ∷ p.memsz ∷ p.align ∷ [])

-- a PT_LOAD: its place is after the end of all before, and 0 where it has no bytes
abbrev pub part_piece : ℕ → Part → Piece
part_piece end p = record {
  kind = PT_LOAD;
  flags = p.flags;
  place = if length p.bytes == 0 then 0 else multiple_from 4096 end;
  vaddr = p.vaddr;
  bytes = p.bytes;
  memsz = p.memsz;
  align = 4096;
}

-- a PT_NOTE, for reading
abbrev pub notes_piece : ℕ → List ℕ → Piece
notes_piece end notes = record {
  kind = PT_NOTE;
  flags = PF_R;
  place = multiple_from 4 end;
  vaddr = 0;
  bytes = notes;
  memsz = length notes;
  align = 4;
}

-- the end of all before and of a piece
abbrev pub end_with : ℕ → Piece → ℕ
end_with end p = max end (p.place + length p.bytes)

-- the parts after an end, and last the notes where there are any
unfoldable pub pieces : ℕ → List Part → List ℕ → List Piece
pieces end [] notes = if length notes == 0 then [] else notes_piece end notes ∷ []
pieces end (p ∷ ps) notes = part_piece end p ∷ pieces (end_with end (part_piece end p)) ps notes

-- the file so far, and after it each piece at its place; gaps are zero
unfoldable pub file_with_pieces : List ℕ → List Piece → List ℕ
file_with_pieces file [] = file
file_with_pieces file (p ∷ ps) = file_with_pieces (with_padding p.place file ++ p.bytes) ps

-- ---- the whole

-- e_ident; e_type, e_machine; e_version; e_entry, e_phoff, e_shoff; e_flags; e_ehsize, e_phentsize,
-- e_phnum, e_shentsize, e_shnum, e_shstrndx (ELF-64, "File header")
abbrev pub file_header : ℕ → ℕ → List ℕ
file_header count entry =
    0x7F ∷ 0x45 ∷ 0x4C ∷ 0x46 ∷ ELFCLASS64 ∷ ELFDATA2LSB ∷ EV_CURRENT ∷ replicate 9 0
    ++ (halves (ET_EXEC ∷ EM_X86_64 ∷ [])
    ++ (words (EV_CURRENT ∷ []) ++ (xwords (entry ∷ 64 ∷ 0 ∷ [])
    ++ (words (0 ∷ []) ++ halves (64 ∷ 56 ∷ count ∷ 0 ∷ 0 ∷ 0 ∷ [])))))

abbrev pub header_count : List Part → List ℕ → ℕ
header_count parts notes = length parts + (if length notes == 0 then 0 else 1)

-- the file header, the program headers, and the pieces after them
abbrev pub file_of_parts : List Part → List ℕ → ℕ → List ℕ
file_of_parts parts notes entry =
    let count = header_count parts notes in
    let all = pieces (64 + 56 * count) parts notes in
    file_with_pieces (file_header count entry ++ flat_map program_header all) all

unfoldable pub laid_image : List Part → List Mark → List Span → ℕ → List ℕ
laid_image parts marks functions entry =
    file_of_parts parts (trust_note marks ++ functions_note functions) entry

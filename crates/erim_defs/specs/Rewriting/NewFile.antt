-- The file of a rewritten image: the old bytes with the regions changed, the new segment, and a new
-- table of program headers. ELF-64 Object File Format, "File header" and "Program header"; the
-- places are own.
use Rattle.std.specs.Prelude.{◌≤◌, ℕ, ◌+◌, ◌-◌, ◌*◌, ◌==◌, ◌&&◌, ◌||◌, not, max, nat_le, nat_lt}
use Rattle.std.specs.Prelude.{map}
use Rattle.std.specs.Prelude.{Bool, List, [], ◌∷◌, ◌++◌, length, take, drop, slice_range, count_by}
use Rattle.std.specs.Prelude.{Option, Some, None, if◌then◌else◌}
use Rattle.std.specs.List.{list_any}
use Rattle.erim_defs.specs.declared.elf.TheConstants.{E_PHNUM, E_PHOFF, FILE_HEADER_SIZE, PF_R}
use Rattle.erim_defs.specs.declared.elf.TheConstants.{PF_X, PT_LOAD, PT_NOTE}
use Rattle.erim_defs.specs.declared.limits.TheConstants.{MOST_PAGES}
use Rattle.erim_defs.specs.declared.segment.Segment.{Segment}
use Rattle.erim_defs.specs.declared.trust.Span.{Span}
use Rattle.erim_defs.specs.Inspection.Image.{Header, headers, header_count, table_place, segments}
use Rattle.erim_defs.specs.Inspection.Image.{is_executable, end_page, touches, image_code}
use Rattle.erim_defs.specs.Inspection.Image.{image_functions, image_trust, entry_point}
use Rattle.erim_defs.specs.Machine.Least.{least_below}
use Rattle.erim_defs.specs.Machine.Pages.{code_bytes}
use Rattle.erim_defs.specs.Output.LayImage.{Piece, multiple_from, with_padding, halves, xwords}
use Rattle.erim_defs.specs.Output.LayImage.{program_header}
use Rattle.erim_defs.specs.Rewriting.Sites.{Function, Program, Region, region_start, region_end}
use Rattle.erim_defs.specs.Rewriting.Layout.{Copy, region_bytes, segment_bytes}

-- ---- what rewriting looks at

abbrev pub function_of : List ℕ → Span → Function
function_of bytes s =
    record { start = s.start; bytes = code_bytes (image_code bytes) s.start s.length }

unfoldable pub program_of : List ℕ → Program
program_of bytes = record {
  functions = map (function_of bytes) (image_functions bytes);
  trust = image_trust bytes;
  entry = entry_point bytes;
}

-- ---- where the new segment begins

-- after the highest page of an executable segment
abbrev pub high_page : List Segment → ℕ
high_page [] = 0
high_page (s ∷ ss) = if is_executable s then max (end_page s) (high_page ss) else high_page ss

abbrev pub is_taken : List Segment → ℕ → Bool
is_taken ss page = list_any (λ s. touches s page) ss

abbrev pub or_zero : Option ℕ → ℕ
or_zero None = 0
or_zero (Some n) = n

-- the first free page from there on: no more pages are taken than an image may have
unfoldable pub free_page : List Segment → ℕ
free_page ss =
    let high = high_page ss in
    high + or_zero (least_below (MOST_PAGES + 1) (λ n. not (is_taken ss (high + n))))

abbrev pub new_base : List ℕ → ℕ
new_base bytes = 4096 * free_page (segments bytes)

-- ---- places in the file

-- an address lies in the file part of an executable segment
abbrev pub has_in_file : ℕ → Segment → Bool
has_in_file a s = is_executable s && (nat_le s.vaddr a && nat_lt a (s.vaddr + s.filesz))

-- the place of such an address
abbrev pub file_place : List Segment → ℕ → ℕ
file_place [] a = 0
file_place (s ∷ ss) a = if has_in_file a s then s.offset + (a - s.vaddr) else file_place ss a

-- the file part of a header has a byte from a place up to another
abbrev pub meets : ℕ → ℕ → Header → Bool
meets low high h = nat_lt 0 h.segment.filesz
    && (nat_lt low (h.segment.offset + h.segment.filesz) && nat_lt h.segment.offset high)

abbrev pub meets_as : ℕ → ℕ → ℕ → Header → Bool
meets_as kind low high h = h.kind == kind && meets low high h

-- a byte from a place up to another lies in a PT_NOTE
abbrev pub in_note : List ℕ → ℕ → ℕ → Bool
in_note bytes low high = list_any (meets_as PT_NOTE low high) (headers bytes)

-- it lies in more PT_LOADs than its own
abbrev pub in_other_part : List ℕ → ℕ → ℕ → Bool
in_other_part bytes low high = nat_lt 1 (count_by (meets_as PT_LOAD low high) (headers bytes))

-- a byte of the region in the file also lies in the file header, in a PT_NOTE or in another PT_LOAD
unfoldable pub lies_elsewhere : List ℕ → Region → Bool
lies_elsewhere bytes r =
    let low = file_place (segments bytes) (region_start r) in
    let high = low + (region_end r - region_start r) in
    nat_lt low FILE_HEADER_SIZE || (in_note bytes low high || in_other_part bytes low high)

-- a byte of e_phoff or e_phnum lies in a PT_NOTE
unfoldable pub header_in_note : List ℕ → Bool
header_in_note bytes = in_note bytes E_PHOFF (E_PHOFF + 8) || in_note bytes E_PHNUM (E_PHNUM + 2)

-- ---- the bytes

-- bytes with others at a place
abbrev pub with_bytes : ℕ → List ℕ → List ℕ → List ℕ
with_bytes place new old = take place old ++ (new ++ drop (place + length new) old)

-- each region's bytes at its place
abbrev pub with_jumps : List Segment → List Copy → List ℕ → List ℕ
with_jumps ss [] file = file
with_jumps ss (k ∷ ks) file =
    with_jumps ss ks (with_bytes (file_place ss (region_start k.region)) (region_bytes k) file)

abbrev pub segment_place : List ℕ → ℕ
segment_place bytes = multiple_from 4096 (length bytes)

abbrev pub new_table_place : List ℕ → List Copy → ℕ
new_table_place bytes copies =
    multiple_from 8 (segment_place bytes + length (segment_bytes copies))

-- the bytes of a region stand in the file from its place on, five at least
pub record HasPlace (bytes : List ℕ) (r : Region) : Type 0 where
  pub within : file_place (segments bytes) (region_start r) + (region_end r - region_start r)
      ≤ length bytes
  pub five : region_start r + 5 ≤ region_end r

-- the headers as they stood
abbrev pub old_table : List ℕ → List ℕ
old_table bytes =
    let place = table_place bytes in slice_range bytes place (place + 56 * header_count bytes)

abbrev pub new_piece : List ℕ → ℕ → List Copy → Piece
new_piece bytes base copies = record {
  kind = PT_LOAD;
  flags = PF_R + PF_X;
  place = segment_place bytes;
  vaddr = base;
  bytes = segment_bytes copies;
  memsz = length (segment_bytes copies);
  align = 4096;
}

-- the file with its regions changed, and what it says of the table
abbrev pub file_with_jumps : List ℕ → List Copy → List ℕ
file_with_jumps bytes copies =
    with_bytes E_PHOFF (xwords (new_table_place bytes copies ∷ []))
    (with_bytes E_PHNUM (halves ((header_count bytes + 1) ∷ []))
    (with_jumps (segments bytes) copies bytes))

-- after it the new segment, and then the headers and one more
unfoldable pub new_file : List ℕ → ℕ → List Copy → List ℕ
new_file bytes base copies =
    with_padding (new_table_place bytes copies)
    (with_padding (segment_place bytes) (file_with_jumps bytes copies) ++ segment_bytes copies)
    ++ (old_table bytes ++ program_header (new_piece bytes base copies))

-- The definition of laid images on small ones, computed. The bytes and places are from the format.
use Rattle.std.proofs.Common.{◌≡◌, ℕ, List, [], ◌∷◌, map, replicate, refl}
use Rattle.erim_defs.specs.declared.trust.Span.{Span}
use Rattle.erim_defs.specs.Output.LayImage.{Part, Mark, pieces, file_with_pieces, laid_image}
use Rattle.erim_defs.specs.Output.LayImage.{program_header, file_header, trust_note, functions_note}

-- one page of trusted text
text_mark : List Mark
text_mark = record { kind = 1; start = 0x402000; length = 4096 } ∷ []

one_function : List Span
one_function = record { start = 0x401000; length = 9 } ∷ []

part_of : List ℕ → Part
part_of bytes = record { vaddr = 0x401000; flags = 5; bytes = bytes; memsz = 16 }

-- no part and one mark: the file header, the header of the notes, and the trust note at 120
one_mark : laid_image [] text_mark [] 0x401000 ≡
    0x7F ∷ 0x45 ∷ 0x4C ∷ 0x46 ∷ 2 ∷ 1 ∷ 1 ∷ 0 ∷ 0 ∷ 0 ∷ 0 ∷ 0 ∷ 0 ∷ 0 ∷ 0 ∷ 0
    ∷ 2 ∷ 0 ∷ 62 ∷ 0 ∷ 1 ∷ 0 ∷ 0 ∷ 0 ∷ 0 ∷ 0x10 ∷ 0x40 ∷ 0 ∷ 0 ∷ 0 ∷ 0 ∷ 0
    ∷ 64 ∷ 0 ∷ 0 ∷ 0 ∷ 0 ∷ 0 ∷ 0 ∷ 0 ∷ 0 ∷ 0 ∷ 0 ∷ 0 ∷ 0 ∷ 0 ∷ 0 ∷ 0
    ∷ 0 ∷ 0 ∷ 0 ∷ 0 ∷ 64 ∷ 0 ∷ 56 ∷ 0 ∷ 1 ∷ 0 ∷ 0 ∷ 0 ∷ 0 ∷ 0 ∷ 0 ∷ 0
    ∷ 4 ∷ 0 ∷ 0 ∷ 0 ∷ 4 ∷ 0 ∷ 0 ∷ 0 ∷ 120 ∷ 0 ∷ 0 ∷ 0 ∷ 0 ∷ 0 ∷ 0 ∷ 0
    ∷ 0 ∷ 0 ∷ 0 ∷ 0 ∷ 0 ∷ 0 ∷ 0 ∷ 0 ∷ 0 ∷ 0 ∷ 0 ∷ 0 ∷ 0 ∷ 0 ∷ 0 ∷ 0
    ∷ 52 ∷ 0 ∷ 0 ∷ 0 ∷ 0 ∷ 0 ∷ 0 ∷ 0 ∷ 52 ∷ 0 ∷ 0 ∷ 0 ∷ 0 ∷ 0 ∷ 0 ∷ 0
    ∷ 4 ∷ 0 ∷ 0 ∷ 0 ∷ 0 ∷ 0 ∷ 0 ∷ 0
    ∷ 5 ∷ 0 ∷ 0 ∷ 0 ∷ 32 ∷ 0 ∷ 0 ∷ 0 ∷ 1 ∷ 0 ∷ 0 ∷ 0 ∷ 0x45 ∷ 0x52 ∷ 0x49 ∷ 0x4D ∷ 0 ∷ 0 ∷ 0 ∷ 0
    ∷ 1 ∷ 0 ∷ 0 ∷ 0 ∷ 1 ∷ 0 ∷ 0 ∷ 0
    ∷ 1 ∷ 0 ∷ 0 ∷ 0 ∷ 1 ∷ 0 ∷ 0 ∷ 0 ∷ 0 ∷ 0x20 ∷ 0x40 ∷ 0 ∷ 0 ∷ 0 ∷ 0 ∷ 0 ∷ 0 ∷ 0x10 ∷ 0 ∷ 0 ∷ 0 ∷ 0
    ∷ 0 ∷ 0 ∷ []
unfolding laid_image pieces file_with_pieces text_mark
one_mark = refl

-- the functions note
function_bytes : functions_note one_function ≡
    6 ∷ 0 ∷ 0 ∷ 0 ∷ 24 ∷ 0 ∷ 0 ∷ 0 ∷ 2 ∷ 0 ∷ 0 ∷ 0 ∷ 0x45 ∷ 0x52 ∷ 0x49 ∷ 0x4D ∷ 0x46 ∷ 0 ∷ 0 ∷ 0
    ∷ 1 ∷ 0 ∷ 0 ∷ 0 ∷ 1 ∷ 0 ∷ 0 ∷ 0
    ∷ 0 ∷ 0x10 ∷ 0x40 ∷ 0 ∷ 0 ∷ 0 ∷ 0 ∷ 0 ∷ 9 ∷ 0 ∷ 0 ∷ 0 ∷ 0 ∷ 0 ∷ 0 ∷ 0 ∷ []
unfolding one_function
function_bytes = refl

-- nothing at all is the file header alone
no_piece : laid_image [] [] [] 0 ≡ file_header 0 0
unfolding laid_image pieces file_with_pieces
no_piece = refl

-- the header of a part of two bytes, the first after the table
part_header : map program_header (pieces 120 (part_of (0x0F ∷ 0x05 ∷ []) ∷ []) []) ≡ (
    1 ∷ 0 ∷ 0 ∷ 0 ∷ 5 ∷ 0 ∷ 0 ∷ 0 ∷ 0 ∷ 0x10 ∷ 0 ∷ 0 ∷ 0 ∷ 0 ∷ 0 ∷ 0
    ∷ 0 ∷ 0x10 ∷ 0x40 ∷ 0 ∷ 0 ∷ 0 ∷ 0 ∷ 0 ∷ 0 ∷ 0x10 ∷ 0x40 ∷ 0 ∷ 0 ∷ 0 ∷ 0 ∷ 0
    ∷ 2 ∷ 0 ∷ 0 ∷ 0 ∷ 0 ∷ 0 ∷ 0 ∷ 0 ∷ 16 ∷ 0 ∷ 0 ∷ 0 ∷ 0 ∷ 0 ∷ 0 ∷ 0
    ∷ 0 ∷ 0x10 ∷ 0 ∷ 0 ∷ 0 ∷ 0 ∷ 0 ∷ 0 ∷ []) ∷ []
unfolding pieces part_of
part_header = refl

-- a part without bytes moves nothing; notes stand at the next multiple of 4
places : map (λ p. p.place) (pieces 288 (part_of (0x0F ∷ 0x05 ∷ []) ∷ part_of []
    ∷ part_of (replicate 3 0x90) ∷ []) (trust_note text_mark)) ≡ 4096 ∷ 0 ∷ 8192 ∷ 8196 ∷ []
unfolding pieces part_of text_mark
places = refl

-- a part that ends at a multiple of 4096 leaves no gap
no_gap : map (λ p. p.place) (pieces 176 (part_of (replicate 4096 0x90) ∷ part_of (0x90 ∷ [])
    ∷ []) []) ≡ 4096 ∷ 8192 ∷ []
unfolding pieces part_of
no_gap = refl

-- a piece stands at its place
filled_gap : file_with_pieces (7
    ∷ []) (record {
      kind = 1;
      flags = 5;
      place = 4;
      vaddr = 0;
      bytes = 8 ∷ 9
          ∷ [];
      memsz = 2;
      align = 4096;
    } ∷ []) ≡ 7 ∷ 0 ∷ 0 ∷ 0 ∷ 8 ∷ 9 ∷ []
unfolding file_with_pieces
filled_gap = refl

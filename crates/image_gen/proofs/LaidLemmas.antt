-- Laid images: what stands after the first of two lists is read as of the second alone, what a
-- piece adds to a file, and that a laid image is made of bytes.
use Rattle.std.proofs.Common.{◌≡◌, ◌∙◌, ℕ, zero, suc, ◌+◌, ◌-◌, ◌*◌, ◌<◌, ◌≤◌, ◌==◌, Bool, true}
use Rattle.std.proofs.Common.{false, if◌then◌else◌, List, [], ◌∷◌, ◌++◌, length, replicate, refl}
use Rattle.std.proofs.Common.{ap, arith, lit<, append-nil, append_assoc, length-append}
use Rattle.std.proofs.Math.Seq.{drop-append-add}
use Rattle.std.proofs.lemmas.List.{get_or-append_right, length-replicate}
use Rattle.std.specs.Int.{Width, w32, w64, byte_at, byte_len, bytes_low_first, to_le_bytes}
use Rattle.std.specs.List.{AllByRecursion, flat_map}
use Rattle.std.specs.Prelude.{codes, slice_range}
use Rattle.erim_defs.specs.declared.note.TheConstants.{FUNCTIONS_NOTE, NOTE_VERSION, TRUST_NOTE}
use Rattle.erim_defs.specs.declared.page.TheConstants.{TRUSTED_KEY}
use Rattle.erim_defs.specs.declared.trust.Span.{Span}
use Rattle.erim_defs.specs.Encoding.Parts.{AreBytes}
use Rattle.erim_defs.specs.Inspection.Image.{number_at, records_from}
use Rattle.erim_defs.specs.Output.LayImage.{Mark, Part, Piece, end_with, file_header}
use Rattle.erim_defs.specs.Output.LayImage.{file_with_pieces, functions_note, header_count}
use Rattle.erim_defs.specs.Output.LayImage.{laid_image, mark_bytes, multiple_from, note}
use Rattle.erim_defs.specs.Output.LayImage.{notes_piece, part_piece, pieces, program_header}
use Rattle.erim_defs.specs.Output.LayImage.{span_bytes, trust_note, with_padding, words, xwords}
use Rattle.erim_defs.proofs.ByteLemmas.{bytes_append}

-- ---- read after the first of two lists, of a given number of bytes; places count from its end

pub number_behind : (xs ys : List ℕ) (base place from n : ℕ) → length xs ≡ base
    → place ≡ base + from → number_at (xs ++ ys) place n ≡ number_at ys from n
unfolding number_at
number_behind xs ys base place from zero long e = refl
number_behind xs ys base place from (suc n) long e =
    let away : place - base ≡ from = omega arith in
    rw (
      get_or-append_right xs ys base place 0 long (omega arith),
      away,
      number_behind xs ys base (suc place) (suc from) n long (omega arith),
    ) refl

pub range_behind : (xs ys : List ℕ) (base place from size : ℕ) → length xs ≡ base
    → place ≡ base + from
    → slice_range (xs ++ ys) place (place + size) ≡ slice_range ys from (from + size)
range_behind xs ys base place from size long e =
    let there : place ≡ length xs + from = omega arith in
    let here : place + size - place ≡ size = omega arith in
    let away : from + size - from ≡ size = omega arith in
    rw (here, away, there, drop-append-add) refl

pub records_behind : (xs ys : List ℕ) (base place from n : ℕ) → length xs ≡ base
    → place ≡ base + from → records_from (xs ++ ys) place n ≡ records_from ys from n
unfolding records_from
records_behind xs ys base place from zero long e = refl
records_behind xs ys base place from (suc n) long e =
    rw (
      number_behind xs ys base place from 4 long e,
      number_behind xs ys base (place + 4) (from + 4) 4 long (omega arith),
      number_behind xs ys base (place + 8) (from + 8) 8 long (omega arith),
      number_behind xs ys base (place + 16) (from + 16) 8 long (omega arith),
      records_behind xs ys base (place + 24) (from + 24) n long (omega arith),
    ) refl

-- ---- a file, piece by piece

-- a piece stands after as many zeros as are missing up to its place
pub piece_laid : (file : List ℕ) (p : Piece) (ps : List Piece) (n : ℕ) → length file ≡ n
    → file_with_pieces file (p ∷ ps)
    ≡ file_with_pieces (file ++ (replicate (p.place - n) 0 ++ p.bytes)) ps
unfolding file_with_pieces
piece_laid file p ps n e =
    rw e (ap (λ bytes. file_with_pieces bytes ps)
    (append_assoc file (replicate (p.place - n) 0) p.bytes))

-- and ends as many bytes after it
pub length-piece_laid : (file : List ℕ) (n place : ℕ) (bytes : List ℕ) → length file ≡ n
    → n ≤ place → length (file ++ (replicate (place - n) 0 ++ bytes)) ≡ place + length bytes
length-piece_laid file n place bytes e h =
    simp (length-append, length-replicate) (omega arith)

-- a part without bytes adds nothing
pub piece_passed : (file : List ℕ) (p : Piece) (ps : List Piece) → p.place ≡ 0 → p.bytes ≡ []
    → file_with_pieces file (p ∷ ps) ≡ file_with_pieces file ps
unfolding file_with_pieces
piece_passed file p ps e none =
    let gap : 0 - length file ≡ 0 = omega arith in
    rw (e, gap, none) (ap (λ bytes. file_with_pieces bytes ps)
    (append-nil (file ++ []) ∙ append-nil file))

-- after the last piece
pub laid_end : (file : List ℕ) → file_with_pieces file [] ≡ file
unfolding file_with_pieces
laid_end file = refl

-- ---- each is a byte

byte_below : (i n : ℕ) → byte_at i n < 256
byte_below zero n = omega arith
byte_below (suc i) n = omega arith

low_bytes : (i k n : ℕ) → AreBytes (bytes_low_first i k n)
low_bytes i zero n = tt
low_bytes i (suc k) n = (byte_below i n, low_bytes (suc i) k n)

-- whatever the numbers
fields_bytes : (w : Width) (numbers : List ℕ) → AreBytes (flat_map (to_le_bytes w) numbers)
fields_bytes w [] = tt
fields_bytes w (n ∷ ns) =
    bytes_append (to_le_bytes w n) (flat_map (to_le_bytes w) ns) (low_bytes 0 (byte_len w) n)
    (fields_bytes w ns)

zero_bytes : (n : ℕ) → AreBytes (replicate n 0)
zero_bytes zero = tt
zero_bytes (suc n) = (lit< tt, zero_bytes n)

header_bytes : (p : Piece) → AreBytes (program_header p)
header_bytes p =
    let numbers = p.place ∷ p.vaddr ∷ p.vaddr ∷ length p.bytes ∷ p.memsz ∷ p.align ∷ [] in
    bytes_append (words (p.kind ∷ p.flags ∷ [])) (xwords numbers)
    (fields_bytes w32 (p.kind ∷ p.flags ∷ [])) (fields_bytes w64 numbers)

table_bytes : (ps : List Piece) → AreBytes (flat_map program_header ps)
table_bytes [] = tt
table_bytes (p ∷ ps) =
    bytes_append (program_header p) (flat_map program_header ps) (header_bytes p) (table_bytes ps)

file_header_bytes : (count entry : ℕ) → AreBytes (file_header count entry)
file_header_bytes count entry = omega arith

pieces_bytes : (end : ℕ) (parts : List Part) (notes : List ℕ)
    → AllByRecursion (λ (p : Part). AreBytes p.bytes) parts → AreBytes notes
    → AllByRecursion (λ (p : Piece). AreBytes p.bytes) (pieces end parts notes)
unfolding pieces
pieces_bytes end [] notes h k = by (length notes == 0)
  where
    by : (b : Bool)
        → AllByRecursion (λ (p : Piece). AreBytes p.bytes)
        (if b then [] else notes_piece end notes ∷ [])
    by true = tt
    by false = (k, tt)
pieces_bytes end (p ∷ ps) notes h k =
    (h.0, pieces_bytes (end_with end (part_piece end p)) ps notes h.1 k)

padding_bytes : (place : ℕ) (file : List ℕ) → AreBytes file → AreBytes (with_padding place file)
padding_bytes place file h =
    bytes_append file (replicate (place - length file) 0) h (zero_bytes (place - length file))

file_bytes : (file : List ℕ) (ps : List Piece) → AreBytes file
    → AllByRecursion (λ (p : Piece). AreBytes p.bytes) ps → AreBytes (file_with_pieces file ps)
unfolding file_with_pieces
file_bytes file [] h k = h
file_bytes file (p ∷ ps) h k =
    file_bytes (with_padding p.place file ++ p.bytes) ps
    (bytes_append (with_padding p.place file) p.bytes (padding_bytes p.place file h) k.0) k.1

note_bytes : (name : List ℕ) (kind count : ℕ) (items : List ℕ) → AreBytes name → AreBytes items
    → AreBytes (note name kind count items)
note_bytes name kind count items h k = by (count == 0)
  where
    head : List ℕ
    head = length name ∷ (8 + length items) ∷ kind ∷ []

    filled : List ℕ
    filled = with_padding (multiple_from 4 (length name)) name

    whole : AreBytes (words head ++ (filled ++ (words (NOTE_VERSION ∷ count ∷ []) ++ items)))
    whole =
        bytes_append (words head) (filled ++ (words (NOTE_VERSION ∷ count ∷ []) ++ items))
        (fields_bytes w32 head)
        (bytes_append filled (words (NOTE_VERSION ∷ count ∷ []) ++ items)
        (padding_bytes (multiple_from 4 (length name)) name h)
        (bytes_append (words (NOTE_VERSION ∷ count ∷ [])) items
        (fields_bytes w32 (NOTE_VERSION ∷ count ∷ [])) k))

    by : (b : Bool)
        → AreBytes (if b then [] else words head
        ++ (filled ++ (words (NOTE_VERSION ∷ count ∷ []) ++ items)))
    by true = tt
    by false = whole

marks_bytes : (ms : List Mark) → AreBytes (flat_map mark_bytes ms)
marks_bytes [] = tt
marks_bytes (m ∷ ms) =
    bytes_append (mark_bytes m) (flat_map mark_bytes ms)
    (bytes_append (words (m.kind ∷ TRUSTED_KEY ∷ [])) (xwords (m.start ∷ m.length ∷ []))
    (fields_bytes w32 (m.kind ∷ TRUSTED_KEY ∷ [])) (fields_bytes w64 (m.start ∷ m.length ∷ [])))
    (marks_bytes ms)

spans_bytes : (ss : List Span) → AreBytes (flat_map span_bytes ss)
spans_bytes [] = tt
spans_bytes (s ∷ ss) =
    bytes_append (span_bytes s) (flat_map span_bytes ss)
    (fields_bytes w64 (s.start ∷ s.length ∷ [])) (spans_bytes ss)

-- a laid image is made of bytes where its parts are
pub laid_bytes : (parts : List Part) (marks : List Mark) (functions : List Span) (entry : ℕ)
    → AllByRecursion (λ (p : Part). AreBytes p.bytes) parts
    → AreBytes (laid_image parts marks functions entry)
unfolding laid_image
laid_bytes parts marks functions entry h =
    let notes = trust_note marks ++ functions_note functions in
    let count = header_count parts notes in
    let all = pieces (64 + 56 * count) parts notes in
    let noted : AreBytes notes =
    bytes_append (trust_note marks) (functions_note functions)
    (note_bytes (codes "ERIM" ++ 0 ∷ []) TRUST_NOTE (length marks) _ (omega arith)
    (marks_bytes marks))
    (note_bytes (codes "ERIMF" ++ 0 ∷ []) FUNCTIONS_NOTE (length functions) _ (omega arith)
    (spans_bytes functions)) in
    file_bytes (file_header count entry ++ flat_map program_header all) all
    (bytes_append (file_header count entry) (flat_map program_header all)
    (file_header_bytes count entry) (table_bytes all))
    (pieces_bytes (64 + 56 * count) parts notes h noted)

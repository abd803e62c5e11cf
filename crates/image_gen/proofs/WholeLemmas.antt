-- The whole of a note and of an image, from what its parts are.
use Rattle.std.proofs.Common.{◌≡◌, ◌∙◌, ℕ, ◌+◌, ◌*◌, ◌==◌, ◌≤◌, List, [], ◌∷◌, ◌++◌, length, take}
use Rattle.std.proofs.Common.{refl, ap, arith, length-append, append_assoc, if◌then◌else◌, Bool}
use Rattle.std.proofs.Common.{true, false}
use Rattle.std.specs.Prelude.{codes}
use Rattle.std.proofs.lemmas.List.{length-map, take_all}
use Rattle.std.specs.List.{flat_map}
use Rattle.erim_defs.specs.declared.trust.Span.{Span}
use Rattle.erim_defs.specs.Output.LayImage as Lay
use Rattle.erim_defs.specs.Output.LayImage.{end_with, file_header, with_padding, functions_note}
use Rattle.erim_defs.specs.Output.LayImage.{header_count, file_with_pieces, laid_image}
use Rattle.erim_defs.specs.Output.LayImage.{file_of_parts, mark_bytes, multiple_from, note}
use Rattle.erim_defs.specs.Output.LayImage.{notes_piece, part_piece, pieces, program_header}
use Rattle.erim_defs.specs.Output.LayImage.{span_bytes, trust_note, words}
use Rattle.image_gen.specs.declared.part.Mark.{Mark}
use Rattle.image_gen.specs.Parts.{mark_value, mark_values}

-- ---- notes

note_whole : (old head now items name filled_name : List ℕ) (kind size count : ℕ)
    → filled_name ≡ with_padding (multiple_from 4 (length name)) name → false ≡ (count == 0) →
    size ≡ 8 + length items → head
    ≡ old ++ (words (length name ∷ size ∷ kind ∷ []) ++ (filled_name ++ words (1 ∷ count ∷ [])))
    → now ≡ head ++ items →
    now ≡ old ++ note name kind count items
note_whole old head now items name filled_name kind size count e b e1 e2 e3 =
    rw (← b) (rw (e3, e2, e1, e) (simp append_assoc))

marks_length : (ms : List Lay.Mark) → length (flat_map mark_bytes ms) ≡ 24 * length ms
marks_length [] = refl
marks_length (m ∷ ms) = let e = marks_length ms in omega arith

functions_length : (fs : List Span) → length (flat_map span_bytes fs) ≡ 16 * length fs
functions_length [] = refl
functions_length (f ∷ fs) = let e = functions_length fs in omega arith

pub trust_whole : (old head now : List ℕ) (marks : List Mark) (i : ℕ) → false ≡ (length marks == 0)
    → length marks ≤ i →
    head ≡ old ++ (words (5 ∷ (8 + 24 * length marks) ∷ 1 ∷ [])
    ++ (0x45 ∷ 0x52 ∷ 0x49 ∷ 0x4D ∷ 0 ∷ 0 ∷ 0 ∷ 0 ∷ [] ++ words (1 ∷ length marks ∷ []))) →
    now ≡ head ++ flat_map mark_bytes (mark_values (take i marks))
    → now ≡ old ++ trust_note (mark_values marks)
trust_whole old head now marks i b h e e1 =
    let n : length (mark_values marks) ≡ length marks = length-map marks mark_value in
    let m = marks_length (mark_values marks) in
    let size : 8 + 24 * length marks ≡ 8 + length (flat_map mark_bytes (mark_values marks)) =
    omega arith in
    note_whole old head now (flat_map mark_bytes (mark_values marks)) (codes "ERIM" ++ 0 ∷ []) (0x45
    ∷ 0x52 ∷ 0x49 ∷ 0x4D ∷ 0 ∷ 0 ∷ 0 ∷ 0
    ∷ []) 1 _ (length (mark_values marks)) refl (rw n b) size (rw n
    e) (rw (take_all i marks h) at e1)

pub functions_whole : (old head now : List ℕ) (functions : List Span) (i : ℕ)
    → false ≡ (length functions == 0) → length functions ≤ i →
    head ≡ old ++ (words (6 ∷ (8 + 16 * length functions) ∷ 2 ∷ [])
    ++ (0x45 ∷ 0x52 ∷ 0x49 ∷ 0x4D ∷ 0x46 ∷ 0 ∷ 0 ∷ 0 ∷ []
    ++ words (1 ∷ length functions ∷ []))) →
    now ≡ head ++ flat_map span_bytes (take i functions) → now ≡ old ++ functions_note functions
functions_whole old head now functions i b h e e1 =
    let m = functions_length functions in
    let size : 8 + 16 * length functions ≡ 8 + length (flat_map span_bytes functions) =
    omega arith in
    note_whole old head now (flat_map span_bytes functions) (codes "ERIMF" ++ 0 ∷ []) (0x45 ∷ 0x52
    ∷ 0x49 ∷ 0x4D ∷ 0x46 ∷ 0 ∷ 0 ∷ 0
    ∷ []) 2 _ (length functions) refl b size e (rw (take_all i functions h) at e1)

-- ---- lengths

headers_length : (ps : List Lay.Piece) → length (flat_map program_header ps) ≡ 56 * length ps
headers_length [] = refl
headers_length (p ∷ ps) = let e = headers_length ps in omega arith

no_notes : (b : Bool) (end : ℕ) (notes : List ℕ)
    → length (if b then [] else notes_piece end notes ∷ []) ≡ 0 + (if b then 0 else 1)
no_notes true end notes = refl
no_notes false end notes = refl

pieces_length : (end : ℕ) (ps : List Lay.Part) (notes : List ℕ)
    → length (pieces end ps notes) ≡ header_count ps notes
unfolding pieces
pieces_length end [] notes = no_notes (length notes == 0) end notes
pieces_length end (p ∷ ps) notes = let e =
    pieces_length (end_with end (part_piece end p)) ps notes in omega arith

-- ---- the image

pub image_whole : (parts : List Lay.Part) (marks : List Lay.Mark) (functions : List Span)
    (entry count : ℕ) (notes head table file : List ℕ) →
    notes ≡ trust_note marks ++ functions_note functions → count ≡ header_count parts notes
    → head ≡ file_header count entry →
    table ≡ head ++ flat_map program_header (pieces (64 + 56 * count) parts notes)
    → file ≡ file_with_pieces table (pieces (length table) parts notes) →
    file ≡ laid_image parts marks functions entry
unfolding laid_image
image_whole parts marks functions entry count notes head table file e e1 e2 e3 e4 =
    let n1 : length head ≡ 64 = ap length e2 in
    let n2 = headers_length (pieces (64 + 56 * count) parts notes) in
    let n3 = pieces_length (64 + 56 * count) parts notes in
    let n4 : length table ≡ length head + length
    (flat_map program_header (pieces (64 + 56 * count) parts notes)) =
    ap length e3 ∙ length-append _ _ in
    let n : length table ≡ 64 + 56 * count = omega arith in
    let k : file ≡ file_of_parts parts notes entry = rw (e4, n, e3, e2, e1) refl in
    k ∙ ap (λ ns. file_of_parts parts ns entry) e

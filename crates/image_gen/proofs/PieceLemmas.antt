-- Pieces one by one: what each adds to the headers, to the file and to its end.
use Rattle.std.proofs.Common.{◌≡◌, ◌∙◌, ℕ, ◌+◌, ◌-◌, ◌*◌, ◌<◌, ◌≤◌, ◌==◌, max, List, ◌∷◌, ◌++◌}
use Rattle.std.proofs.Common.{length, drop, get_or, refl, ap, sym, arith, length-append}
use Rattle.std.proofs.Common.{append_assoc, append-nil, if◌then◌else◌, Bool, true, false}
use Rattle.std.proofs.lemmas.List.{length-replicate, drop_more, drop_all}
use Rattle.std.proofs.lemmas.List.Sums.{sum_by-cons}
use Rattle.std.specs.List.{flat_map}
use Rattle.erim_defs.specs.Output.LayImage as Lay
use Rattle.erim_defs.specs.Output.LayImage.{end_with, with_padding, file_with_pieces, multiple_from}
use Rattle.erim_defs.specs.Output.LayImage.{part_piece, pieces, program_header}
use Rattle.image_gen.specs.declared.part.Part.{Part}
use Rattle.image_gen.specs.Parts.{header_bytes, part_value, part_values, total_bytes}

-- an upper bound of what a given number of parts add to the end
abbrev pub room_for : List Part → ℕ
room_for parts = total_bytes parts + 4096 * length parts

-- ---- places

place_bound : (empty : Bool) (end : ℕ) → (if empty then 0 else multiple_from 4096 end) ≤ end + 4095
place_bound true end = omega arith
place_bound false end = omega arith

end_after : (file : List ℕ) (size : ℕ) →
    max (length file) ((if size == 0 then 0 else multiple_from 4096 (length file)) + size)
    ≡ length file + ((if size == 0 then 0
    else multiple_from 4096 (length file)) - length file) + size
end_after file size = grind arith

end_after_part : (file : List ℕ) (p : Lay.Part) →
    end_with (length file) (part_piece (length file) p)
    ≡ length (with_padding (part_piece (length file) p).place file ++ p.bytes)
end_after_part file p = simp (length-append, length-replicate) (end_after file (length p.bytes))

-- the next of the parts
next_part : (parts : List Part) (i : ℕ) (p : Part) → i < length parts → p ≡ get_or parts i p
    → drop i parts ≡ p ∷ drop (i + 1) parts
next_part parts i p h e = drop_more parts i p h ∙ ap (λ q. q ∷ drop (i + 1) parts) (sym e)

-- ---- the file

laid_part : (file : List ℕ) (p : Lay.Part) (ps : List Lay.Part) (notes : List ℕ) →
    file_with_pieces (with_padding (part_piece (length file) p).place file
    ++ p.bytes) (pieces (length (with_padding (part_piece (length file) p).place file
    ++ p.bytes)) ps notes)
    ≡ file_with_pieces file (pieces (length file) (p ∷ ps) notes)
unfolding file_with_pieces pieces
laid_part file p ps notes =
    ap (λ n. file_with_pieces (with_padding (part_piece (length file) p).place file
    ++ p.bytes) (pieces n ps notes)) (sym (end_after_part file p))

pub piece_step : (file new part_bytes whole notes : List ℕ) (parts : List Part) (i : ℕ) (p : Part)
    (place end size : ℕ) → i < length parts → p ≡ get_or parts i p →
    end ≡ length file → size ≡ length p.bytes.items
    → place ≡ (if size == 0 then 0 else multiple_from 4096 end) → part_bytes ≡ p.bytes.items →
    new ≡ with_padding place file ++ part_bytes
    → file_with_pieces file (pieces (length file) (part_values (drop i parts)) notes) ≡ whole →
    file_with_pieces new (pieces (length new) (part_values (drop (i + 1) parts)) notes) ≡ whole
piece_step file new part_bytes whole notes parts i p place end size h e e1 e2 e3 e4 e5 inv =
    let next : drop i parts ≡ p ∷ drop (i + 1) parts = next_part parts i p h e in
    let e6 : place ≡ (part_piece (length file) (part_value p)).place = rw (e3, e2, e1) refl in
    let e7 : new ≡ with_padding (part_piece (length file) (part_value p)).place file
    ++ p.bytes.items = rw (e5, e4, e6) refl in
    rw e7 (laid_part file (part_value p) (part_values (drop (i + 1) parts)) notes
    ∙ (rw next at inv))

-- after the last part, with no notes
pub pieces_end : (bytes whole notes : List ℕ) (parts : List Part) (i : ℕ) → length parts ≤ i
    → true ≡ (length notes == 0) →
    file_with_pieces bytes (pieces (length bytes) (part_values (drop i parts)) notes) ≡ whole
    → bytes ≡ whole
unfolding file_with_pieces pieces
pieces_end bytes whole notes parts i h e inv = let k = rw (drop_all i parts h) at inv in
    rw (← e) at k

pub pieces_last : (bytes new whole notes : List ℕ) (parts : List Part) (i place end : ℕ)
    → length parts ≤ i → false ≡ (length notes == 0) →
    end ≡ length bytes → place ≡ multiple_from 4 end → new ≡ with_padding place bytes ++ notes →
    file_with_pieces bytes (pieces (length bytes) (part_values (drop i parts)) notes) ≡ whole
    → new ≡ whole
unfolding file_with_pieces pieces
pieces_last bytes new whole notes parts i place end h e e1 e2 e3 inv =
    let k = rw (drop_all i parts h) at inv in
    let k2 = rw (← e) at k in
    rw (e3, e2, e1) k2

-- ---- the headers

pub header_step : (bytes new whole notes : List ℕ) (parts : List Part) (i : ℕ) (p : Part)
    (place end size : ℕ) → i < length parts → p ≡ get_or parts i p →
    size ≡ length p.bytes.items → place ≡ (if size == 0 then 0 else multiple_from 4096 end) →
    new ≡ bytes ++ header_bytes
    (record {
      kind = 1;
      flags = p.flags;
      place = place;
      vaddr = p.vaddr;
      filesz = size;
      memsz = p.memsz;
      align = 4096;
    }) →
    bytes ++ flat_map program_header (pieces end (part_values (drop i parts)) notes) ≡ whole →
    new ++ flat_map program_header
    (pieces (max end (place + size)) (part_values (drop (i + 1) parts)) notes) ≡ whole
unfolding pieces
header_step bytes new whole notes parts i p place end size h e e1 e2 e3 inv =
    let next : drop i parts ≡ p ∷ drop (i + 1) parts = next_part parts i p h e in
    let k = rw next at inv in
    rw e3 (append_assoc bytes _ _ ∙ rw (e2, e1) k)

pub room_step : (parts : List Part) (i : ℕ) (p : Part) (place end size new whole : ℕ)
    → i < length parts → p ≡ get_or parts i p →
    size ≡ length p.bytes.items → place ≡ (if size == 0 then 0 else multiple_from 4096 end)
    → new ≡ max end (place + size) →
    end + room_for (drop i parts) ≤ whole → new + room_for (drop (i + 1) parts) ≤ whole
room_step parts i p place end size new whole h e e1 e2 e3 inv =
    let next : drop i parts ≡ p ∷ drop (i + 1) parts = next_part parts i p h e in
    let k = rw next at inv in
    let sum : total_bytes (p ∷ drop (i + 1) parts)
    ≡ length p.bytes.items + total_bytes (drop (i + 1) parts) =
    sum_by-cons (λ (q : Part). length q.bytes.items) p (drop (i + 1) parts) in
    let b : place ≤ end + 4095 = rw e2 (place_bound (size == 0) end) in
    omega arith

pub headers_end : (bytes whole notes : List ℕ) (parts : List Part) (i end : ℕ) → length parts ≤ i
    → true ≡ (length notes == 0) →
    bytes ++ flat_map program_header (pieces end (part_values (drop i parts)) notes) ≡ whole
    → bytes ≡ whole
unfolding pieces
headers_end bytes whole notes parts i end h e inv =
    let k = rw (drop_all i parts h) at inv in
    let k2 = rw (← e) at k in
    sym (append-nil bytes) ∙ k2

pub headers_last : (bytes new whole notes : List ℕ) (parts : List Part) (i place end size : ℕ)
    → length parts ≤ i → false ≡ (length notes == 0) →
    size ≡ length notes → place ≡ multiple_from 4 end →
    new ≡ bytes ++ header_bytes
    (record {
      kind = 4;
      flags = 4;
      place = place;
      vaddr = 0;
      filesz = size;
      memsz = size;
      align = 4;
    }) →
    bytes ++ flat_map program_header (pieces end (part_values (drop i parts)) notes) ≡ whole
    → new ≡ whole
unfolding pieces
headers_last bytes new whole notes parts i place end size h e e1 e2 e3 inv =
    let k = rw (drop_all i parts h) at inv in
    let k2 = rw (← e) at k in
    rw (e3, e2, e1) k2

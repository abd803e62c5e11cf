use Rattle.std.proofs.Common.{◌≡◌, ◌∙◌, ap, refl, Bool, true, false, not, ◌==◌, length}
use Rattle.std.proofs.Common.{if◌then◌else◌}
use Rattle.std.proofs.lemmas.List.{length-map}
use mir.Val.{bool_byte}
use Rattle.erim_defs.specs.Output.LayImage.{file_header}
use Rattle.image_gen.specs.Parts.{mark_values, part_value, part_values}
use Rattle.image_gen.proofs.WholeLemmas.{image_whole}
use Rattle.image_gen.proofs.image.lay_image.Goals as goal

-- what is added to the count where there is no note, and where there are some
one_if : (b : Bool) → bool_byte (not b) ≡ (if b then 0 else 1)
one_if true = refl
one_if false = refl

pub returns : goal.returns
returns c =
    let notes = c.in_ok-notes.notes in
    let empty = c.is_empty.ensures ∙ ap (λ n. n == 0) notes.ok.0 in
    let one : c.from.result ≡ (if length notes.items == 0 then 0 else 1) =
    c.from.ensures ∙ ap (λ b. bool_byte (not b)) empty ∙ one_if (length notes.items == 0) in
    let count = c.from-2.ensures ∙ rw (one, ← length-map c.args.parts.now part_value) refl in
    let head : c.push_file_header.new.bytes.items ≡ file_header c.from-2.result c.args.entry =
    rw c.from-2.ensures (rw c.new-bytes.ensures.items at c.in_ok-push_file_header.ensures) in
    image_whole (part_values c.args.parts.now) (mark_values c.args.marks.now) c.args.functions.now
    c.args.entry c.from-2.result notes.items c.push_file_header.new.bytes.items
    c.push_headers.new.bytes.items c.push_pieces.new.bytes.items
    c.in_ok-notes.ensures count head (rw c.as_slice.ensures.value at c.in_ok-push_headers.ensures)
    (rw c.as_slice-2.ensures.value at c.in_ok-push_pieces.ensures)

-- The new file, one part after another.
use Rattle.std.proofs.Common.{◌≡◌, ◌++◌, ℕ, List, append_assoc}
use Rattle.erim_defs.specs.Output.LayImage.{program_header, with_padding}
use Rattle.erim_defs.specs.Rewriting.Layout.{Copy, segment_bytes}
use Rattle.erim_defs.specs.Rewriting.NewFile.{file_with_jumps, new_file, new_piece, new_table_place}
use Rattle.erim_defs.specs.Rewriting.NewFile.{old_table, segment_place}

pub file_parts : (bytes : List ℕ) (base : ℕ) (copies : List Copy)
    → (with_padding (new_table_place bytes copies)
    (with_padding (segment_place bytes) (file_with_jumps bytes copies) ++ segment_bytes copies)
    ++ old_table bytes) ++ program_header (new_piece bytes base copies)
    ≡ new_file bytes base copies
unfolding new_file
file_parts bytes base copies =
    append_assoc (with_padding (new_table_place bytes copies)
    (with_padding (segment_place bytes) (file_with_jumps bytes copies) ++ segment_bytes copies))
    (old_table bytes) (program_header (new_piece bytes base copies))

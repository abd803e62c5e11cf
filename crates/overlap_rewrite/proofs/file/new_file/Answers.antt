use Rattle.overlap_rewrite.proofs.FileLemmas.{file_parts}
use Rattle.overlap_rewrite.proofs.file.new_file.Goals as goal

pub returns : goal.returns
returns c =
    rw (
      c.in_ok-push_header.ensures,
      c.in_ok-push_at-2.ensures,
      c.in_ok-push_at.ensures,
      c.new_table_place.ensures,
      c.header_table.ensures,
      c.segment_place-place.ensures.place,
      c.in_ok-file.ensures,
      c.as_slice-segment.ensures.value,
      c.requires.bytes,
    )
    (file_parts c.args.image.now c.args.base c.args.layout.now.copies.items)

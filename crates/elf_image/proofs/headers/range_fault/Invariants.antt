use Rattle.std.proofs.Common.{◌≡◌, ◌≤◌, [], length, sum_by}
use Rattle.erim_defs.specs.Inspection.Image.{headers, header_pages, range_fault}
use Rattle.elf_image.specs.Table.{headers_left, seen_headers}
use Rattle.elf_image.proofs.headers.range_fault.Given as goal

abbrev pub invariant-loop-index : goal.invariant-loop-index
invariant-loop-index l = record {
  few : l.pages ≤ 4080;
  total : sum_by header_pages (seen_headers l.bytes l.index) ≡ l.pages;
  same : range_fault (length l.bytes) l.index (seen_headers l.bytes l.index)
      (headers_left l.bytes l.index) ≡ range_fault (length l.bytes) 0 [] (headers l.bytes);
}

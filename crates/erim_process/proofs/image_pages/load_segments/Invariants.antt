use Rattle.std.proofs.Common.{◌≡◌, ◌≤◌, length, drop, sum_by}
use Rattle.erim_defs.specs.Machine.Count.{mapped_pages}
use Rattle.erim_defs.specs.Inspection.Image.{page_count}
use Rattle.erim_defs.specs.Machine.Start.{byte_in}
use Rattle.erim_defs.specs.Machine.Access.{rights_in}
use Rattle.erim_process.specs.ImagePages.{segment_rights}
use Rattle.erim_process.proofs.image_pages.load_segments.Given as goal

abbrev pub invariant-loop-left : goal.invariant-loop-left
invariant-loop-left g l = record {
  within : l.left ≤ length l.segments;
  rights : rights_in (g.P.Memory.seen l.pages)
      ≡ segment_rights (drop l.left l.segments) l.image;
  bytes : g.P.Memory.bytes l.pages ≡ byte_in l.image (drop l.left l.segments);
  frames : g.P.Memory.frames l.pages ≡ g.P.Memory.frames l.fn.pages;
  count : mapped_pages (rights_in (g.P.Memory.seen l.pages))
      ≡ sum_by page_count (drop l.left l.segments);
}

abbrev pub decreases-loop-left : goal.decreases-loop-left
decreases-loop-left g l = l.left

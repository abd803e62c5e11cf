use Rattle.std.proofs.Common.{◌≡◌, ◌+◌}
use Rattle.erim_defs.specs.Machine.Count.{mapped_pages}
use Rattle.erim_defs.specs.Inspection.Image.{first_page, loaded_byte}
use Rattle.erim_defs.specs.Machine.Start.{asked_of}
use Rattle.erim_defs.specs.Machine.Access.{rights_in}
use Rattle.erim_process.specs.ImagePages.{is_between, bytes_over, page_rights, rights_over}
use Rattle.erim_process.proofs.image_pages.load_segment.Given as goal

abbrev pub invariant-loop-page : goal.invariant-loop-page
invariant-loop-page g l = record {
  rights : rights_in (g.P.Memory.seen l.pages)
      ≡ rights_over (is_between (first_page l.segment) l.page)
      (page_rights l.image (asked_of l.segment))
      (rights_in (g.P.Memory.seen l.fn.pages));
  bytes : g.P.Memory.bytes l.pages
      ≡ bytes_over (is_between (first_page l.segment) l.page) (loaded_byte l.image l.segment)
      (g.P.Memory.bytes l.fn.pages);
  frames : g.P.Memory.frames l.pages ≡ g.P.Memory.frames l.fn.pages;
  count : mapped_pages (rights_in (g.P.Memory.seen l.pages)) + first_page l.segment
      ≡ mapped_pages (rights_in (g.P.Memory.seen l.fn.pages)) + l.page;
}

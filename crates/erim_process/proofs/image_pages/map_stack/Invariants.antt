use Rattle.std.proofs.Common.{◌≡◌, ◌+◌}
use Rattle.erim_defs.specs.Machine.Count.{mapped_pages}
use Rattle.erim_defs.specs.Machine.Start.{unpublished_rights}
use Rattle.erim_defs.specs.Machine.Access.{rights_in}
use Rattle.erim_process.specs.ImagePages.{is_between, rights_over}
use Rattle.erim_process.proofs.image_pages.map_stack.Given as goal

abbrev pub invariant-loop-page : goal.invariant-loop-page
invariant-loop-page g l = record {
  rights : rights_in (g.P.Memory.seen l.pages)
      ≡ rights_over (is_between 0x7FFE0 l.page) (λ _. unpublished_rights 3 0)
      (rights_in (g.P.Memory.seen l.fn.pages));
  bytes : g.P.Memory.bytes l.pages ≡ g.P.Memory.bytes l.fn.pages;
  frames : g.P.Memory.frames l.pages ≡ g.P.Memory.frames l.fn.pages;
  count : mapped_pages (rights_in (g.P.Memory.seen l.pages)) + 0x7FFE0
      ≡ mapped_pages (rights_in (g.P.Memory.seen l.fn.pages)) + l.page;
}

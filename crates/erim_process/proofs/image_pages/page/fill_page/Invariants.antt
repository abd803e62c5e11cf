use Rattle.std.proofs.Common.{◌≡◌}
use Rattle.erim_defs.specs.Inspection.Image.{loaded_byte}
use Rattle.erim_process.proofs.LoadLemmas.{bytes_below}
use Rattle.erim_process.proofs.image_pages.page.fill_page.Given as goal

abbrev pub invariant-loop-addr : goal.invariant-loop-addr
invariant-loop-addr g l = record {
  bytes : g.P.Memory.bytes l.pages
      ≡ bytes_below l.page l.addr (loaded_byte l.bytes l.segment) (g.P.Memory.bytes l.fn.pages);
  seen : g.P.Memory.seen l.pages ≡ g.P.Memory.seen l.fn.pages;
  frames : g.P.Memory.frames l.pages ≡ g.P.Memory.frames l.fn.pages;
}

use Rattle.std.proofs.Common.{◌≡◌, ◌+◌}
use Rattle.erim_defs.specs.Machine.Count.{mapped_pages}
use Rattle.erim_defs.specs.Machine.MapCalls.{new_rights}
use Rattle.map_calls.specs.Ranges.{rights_within, zeros_within}
use Rattle.erim_defs.specs.Machine.Access.{rights_in}
use Rattle.map_calls.proofs.mapping.map_range.Given as goal

abbrev pub invariant-loop-page : goal.invariant-loop-page
invariant-loop-page g l = record {
  rights : rights_in (g.P.Memory.seen l.pages)
      ≡ rights_within (rights_in (g.P.Memory.seen l.fn.pages)) l.range.first l.page
      (λ _. new_rights l.asked);
  bytes : g.P.Memory.bytes l.pages
      ≡ zeros_within (g.P.Memory.bytes l.fn.pages) l.range.first l.page;
  counted : mapped_pages (rights_in (g.P.Memory.seen l.pages)) + l.range.first
      ≡ mapped_pages (rights_in (g.P.Memory.seen l.fn.pages)) + l.page;
  frames : g.P.Memory.frames l.pages ≡ g.P.Memory.frames l.fn.pages;
}

use Rattle.std.proofs.Common.{◌≡◌, ◌<◌, ◌+◌, ◌^◌, None, Option, Some, ap, ◌∙◌}
use Rattle.std.proofs.Common.{arith}
use Rattle.erim_defs.specs.declared.machine.Rights.{Rights}
use Rattle.erim_defs.specs.Machine.Count.{mapped_pages}
use Rattle.erim_defs.specs.Machine.MapCalls.{new_rights}
use Rattle.erim_defs.specs.Machine.Pages.{RightsMap, ByteMap, with_value_at, with_zero_page}
use Rattle.erim_defs.proofs.CountLemmas.{mapped_more}
use Rattle.map_calls.specs.Ranges.{rights_within, zeros_within}
use Rattle.map_calls.proofs.WalkLemmas.{within_behind, within_next, zeros_step}
use Rattle.erim_defs.specs.Machine.Access.{rights_in}
use Rattle.map_calls.proofs.mapping.map_range.Goals as goal

pub map_zero-requires-clause-unmapped : goal.map_zero-requires-clause-unmapped
map_zero-requires-clause-unmapped g c =
    let old = rights_in (g.P.Memory.seen c.args.pages.now) in
    let l = c.loop-page in
    let end = c.end-page-end.ensures.end in
    let t = c.loop-page-test.true in
    ap (λ (m : RightsMap). m l.page) l.invariant.rights
    ∙ within_behind old c.args.range.now.first l.page l.page (λ _. new_rights c.args.asked)
    (omega arith) ∙ c.requires.unmapped l.page l.auto.page (omega (arith, t, end))

pub loop-page-preserved : goal.loop-page-preserved
loop-page-preserved g c =
    let old = rights_in (g.P.Memory.seen c.args.pages.now) in
    let bytes = g.P.Memory.bytes c.args.pages.now in
    let first = c.args.range.now.first in
    let l = c.loop-page in
    let p = l.page in
    let f = λ (o : Option Rights). new_rights c.args.asked in
    let end = c.end-page-end.ensures in
    let t = c.loop-page-test.true in
    let user : p < 2 ^ 35 = omega (arith, t, end.low) in
    let low = l.auto.page in
    let none : rights_in (g.P.Memory.seen l.pages) p ≡ None =
    ap (λ (m : RightsMap). m p) l.invariant.rights
    ∙ (within_behind old first p p f (omega arith)
    ∙ c.requires.unmapped p low (omega (arith, t, end.end))) in
    let more = mapped_more (rights_in
    (g.P.Memory.seen l.pages)) p c.unpublished_rights.result user none in
    let new = ap mapped_pages (ap rights_in c.map_zero.ensures.seen) in
    let so_far = l.invariant.counted in
    record {
      rights = ap rights_in c.map_zero.ensures.seen
          ∙ ap (λ (m : RightsMap). with_value_at m p
          (Some c.unpublished_rights.result)) l.invariant.rights
          ∙ ap (λ (x : Rights). with_value_at (rights_within old first p f) p (Some x))
          c.unpublished_rights.ensures
          ∙ within_next old first p f low;
      bytes = c.map_zero.ensures.bytes
          ∙ ap (λ (b : ByteMap). with_zero_page b p) l.invariant.bytes
          ∙ zeros_step bytes first p p low (omega arith) (λ a x y. absurd (omega (arith, x, y)));
      counted = omega (arith, more, new, so_far);
      frames = c.map_zero.ensures.frames ∙ l.invariant.frames;
    }

pub returns-clause-rights : goal.returns-clause-rights
returns-clause-rights g c =
    let range = c.args.range.now in
    let l = c.loop-page in
    let end = c.end-page-end.ensures.end in
    let t = c.loop-page-test.false in
    let high = l.auto.page-end (omega (arith, end)) in
    let e : l.page ≡ range.first + range.count = omega (arith, end, t, high) in
    l.invariant.rights
    ∙ ap (λ n. rights_within (rights_in (g.P.Memory.seen c.args.pages.now)) range.first n
    (λ _. new_rights c.args.asked)) e

pub returns-clause-bytes : goal.returns-clause-bytes
returns-clause-bytes g c =
    let range = c.args.range.now in
    let l = c.loop-page in
    let end = c.end-page-end.ensures.end in
    let t = c.loop-page-test.false in
    let high = l.auto.page-end (omega (arith, end)) in
    let e : l.page ≡ range.first + range.count = omega (arith, end, t, high) in
    l.invariant.bytes
    ∙ ap (λ n. zeros_within (g.P.Memory.bytes c.args.pages.now) range.first n) e

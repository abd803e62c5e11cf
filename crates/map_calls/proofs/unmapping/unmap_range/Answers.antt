use Rattle.std.proofs.Common.{◌+◌, ◌/◌, None, refl, sym, ap, ◌∙◌, arith}
use Rattle.erim_defs.specs.Machine.Pages.{RightsMap, ByteMap, with_value_at, with_zero_page}
use Rattle.map_calls.proofs.WalkLemmas.{within_more, within_step, zeros_more, zeros_step}
use Rattle.erim_defs.specs.Machine.Access.{rights_in}
use Rattle.map_calls.proofs.unmapping.unmap_range.Goals as goal

pub loop-page-preserved : goal.loop-page-preserved
loop-page-preserved g c =
    let old = rights_in (g.P.Memory.seen c.args.pages.now) in
    let bytes = g.P.Memory.bytes c.args.pages.now in
    let first = c.args.range.now.first in
    let l = c.loop-page in
    let page = c.in-Some.ensures in
    let high = page.1 in
    let end = c.end.ensures.end in
    let from = l.invariant.from in
    record {
      from = omega (arith, from, page.0);
      low = omega (arith, high, end);
      rights = ap rights_in c.unmap.ensures.seen
          ∙ ap (λ (m : RightsMap). with_value_at m c.in-Some.page None) l.invariant.rights
          ∙ within_step old first l.from c.in-Some.page (λ _. None) refl from page.0
          (λ q x y. sym (ap (λ (m : RightsMap). m q) l.invariant.rights) ∙ page.3 q x y);
      bytes = c.unmap.ensures.bytes
          ∙ ap (λ (b : ByteMap). with_zero_page b c.in-Some.page) l.invariant.bytes
          ∙ zeros_step bytes first l.from c.in-Some.page from page.0
          (λ a x y. sym (ap (λ (b : ByteMap). b a) l.invariant.bytes)
          ∙ g.met.P.Pages.zeros l.pages a (page.3 (a / 4096) x y));
      frames = c.unmap.ensures.frames ∙ l.invariant.frames;
    }

pub returns-clause-rights : goal.returns-clause-rights
returns-clause-rights g c =
    let old = rights_in (g.P.Memory.seen c.args.pages.now) in
    let range = c.args.range.now in
    let l = c.loop-page in
    let end = c.end.ensures.end in
    l.invariant.rights
    ∙ within_more old range.first l.from (range.first + range.count)
    (λ _. None) refl l.invariant.from
    l.invariant.low (λ q x y. sym (ap (λ (m : RightsMap). m q) l.invariant.rights)
    ∙ c.in_default.ensures q x (omega (arith, y, end)))

pub returns-clause-bytes : goal.returns-clause-bytes
returns-clause-bytes g c =
    let range = c.args.range.now in
    let l = c.loop-page in
    let end = c.end.ensures.end in
    l.invariant.bytes
    ∙ zeros_more (g.P.Memory.bytes c.args.pages.now) range.first l.from (range.first + range.count)
    l.invariant.from l.invariant.low (λ a x y. sym (ap (λ (b : ByteMap). b a) l.invariant.bytes)
    ∙ g.met.P.Pages.zeros l.pages a (c.in_default.ensures (a / 4096) x (omega (arith, y, end))))

use Rattle.std.proofs.Common.{◌+◌, Option, refl, sym, ap, ◌∙◌, arith}
use Rattle.erim_defs.specs.declared.machine.Rights.{Rights}
use Rattle.erim_defs.specs.Machine.Pages.{RightsMap, with_value_at}
use Rattle.map_calls.specs.Ranges.{anew, rights_within}
use Rattle.map_calls.proofs.WalkLemmas.{within_behind, within_more, within_step}
use Rattle.erim_defs.specs.Machine.Access.{rights_in}
use Rattle.map_calls.proofs.protection.ask_range.Goals as goal

pub loop-page-preserved : goal.loop-page-preserved
loop-page-preserved g c =
    let old = rights_in (g.P.Memory.seen c.args.pages.now) in
    let first = c.args.range.now.first in
    let change = anew c.args.asked c.args.key in
    let l = c.loop-page in
    let p = c.in-Some.page in
    let page = c.in-Some.ensures in
    let high = page.1 in
    let end = c.end.ensures.end in
    let from = l.invariant.from in
    record {
      from = omega (arith, from, page.0);
      low = omega (arith, high, end);
      rights = c.ask_page.ensures.rights
          ∙ ap (λ (m : RightsMap). with_value_at m p (change (m p))) l.invariant.rights
          ∙ ap (λ (o : Option Rights). with_value_at (rights_within old first l.from change) p
          (change o))
          (within_behind old first l.from p change page.0)
          ∙ within_step old first l.from p change refl from page.0
          (λ q x y. sym (ap (λ (m : RightsMap). m q) l.invariant.rights) ∙ page.3 q x y);
      bytes = c.ask_page.ensures.bytes ∙ l.invariant.bytes;
      frames = c.ask_page.ensures.frames ∙ l.invariant.frames;
    }

pub returns-clause-rights : goal.returns-clause-rights
returns-clause-rights g c =
    let range = c.args.range.now in
    let l = c.loop-page in
    let end = c.end.ensures.end in
    l.invariant.rights
    ∙ within_more (rights_in (g.P.Memory.seen c.args.pages.now)) range.first l.from
    (range.first + range.count) (anew c.args.asked c.args.key) refl l.invariant.from l.invariant.low
    (λ q x y. sym (ap (λ (m : RightsMap). m q) l.invariant.rights)
    ∙ c.in_default.ensures q x (omega (arith, y, end)))

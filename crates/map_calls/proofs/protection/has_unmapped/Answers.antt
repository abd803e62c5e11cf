use Rattle.std.proofs.Common.{◌∙◌, sym, ap, arith, is_none, is_some, not}
use Rattle.map_calls.specs.Ranges.{page_range}
use Rattle.map_calls.proofs.RangeLemmas.{any_page_none, any_page_some}
use Rattle.erim_defs.specs.Machine.Access.{rights_in}
use Rattle.map_calls.proofs.protection.has_unmapped.Goals as goal

pub returns-then-is_none : goal.returns-then-is_none
returns-then-is_none g c =
    let rights = rights_in (g.P.Memory.seen c.args.pages.now) in
    let end = c.end-page-end.ensures.end in
    let l = c.loop-page in
    let from = l.auto.page in
    let t = c.loop-page-test.true in
    sym (any_page_some (page_range c.args.range.now) (λ q. is_none (rights q)) l.page
    (omega (arith, from)) (omega (arith, t, end))
    (ap not (ap is_some (sym c.rights.ensures.value) ∙ c.if-is_none.ensures)))

pub returns : goal.returns
returns g c =
    let rights = rights_in (g.P.Memory.seen c.args.pages.now) in
    let end = c.end-page-end.ensures.end in
    let t = c.loop-page-test.false in
    sym (any_page_none (page_range c.args.range.now) (λ q. is_none (rights q))
    (λ q low high. c.loop-page.invariant q low (omega (arith, high, end, t))))

use Rattle.std.proofs.Common.{◌∙◌, sym, ap, arith, inl, inr}
use Rattle.std.proofs.lemmas.Bool.{cases_lt}
use Rattle.erim_defs.specs.Machine.MapCalls.{is_denied_page}
use Rattle.map_calls.specs.Ranges.{page_range}
use Rattle.map_calls.proofs.RangeLemmas.{any_page_none, any_page_some}
use Rattle.erim_defs.specs.Machine.Access.{rights_in}
use Rattle.map_calls.proofs.guards.has_denied_page.Goals as goal

pub returns-then-is_denied_page : goal.returns-then-is_denied_page
returns-then-is_denied_page g c =
    let rights = rights_in (g.P.Memory.seen c.args.pages.now) in
    let is = c.in-Some.ensures in
    let high = is.1 in
    let end = c.end.ensures.end in
    sym (any_page_some (page_range c.args.range.now)
    (λ q. is_denied_page c.args.trust.now c.args.pkru
    (rights q))
    c.in-Some.page (let from = c.loop-page.invariant.from in omega (arith, from, is.0))
    (omega (arith, high, end)) (sym c.is_denied_page.ensures ∙ c.if-is_denied_page.true))

pub returns : goal.returns
returns g c =
    let rights = rights_in (g.P.Memory.seen c.args.pages.now) in
    let end = c.end.ensures.end in
    sym (any_page_none (page_range c.args.range.now)
    (λ q. is_denied_page c.args.trust.now c.args.pkru
    (rights q))
    (λ q low high. elim (cases_lt q c.loop-page.from) [
      | inl before ↦ c.loop-page.invariant.none q low before
      | inr behind ↦
          ap (is_denied_page c.args.trust.now c.args.pkru) (c.in_default.ensures q behind (omega
          (arith, high, end)))
    ]))

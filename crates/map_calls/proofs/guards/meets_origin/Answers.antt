use Rattle.std.proofs.Common.{sym, ◌∙◌, ◌+◌, ◌-◌, ◌^◌, ap, min}
use Rattle.map_calls.specs.Ranges.{page_range}
use Rattle.map_calls.proofs.GuardLemmas.{origin_pages}
use Rattle.map_calls.proofs.guards.meets_origin.Goals as goal

pub returns : goal.returns
returns c =
    c.meets.ensures
    ∙ sym (origin_pages (page_range c.args.range.now) c.args.origin.now c.saturating_add.result
    c.saturating_sub-last.result c.args.range.now.low
    (c.saturating_add.ensures
    ∙ ap (λ x. min (c.args.origin.now.at + x) (2 ^ 64 - 1)) c.from.ensures)
    c.saturating_sub-last.ensures)

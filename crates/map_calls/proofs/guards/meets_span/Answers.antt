use Rattle.std.proofs.Common.{sym, ◌∙◌}
use Rattle.map_calls.specs.Ranges.{page_range}
use Rattle.map_calls.proofs.GuardLemmas.{span_pages}
use Rattle.map_calls.proofs.guards.meets_span.Goals as goal

pub returns : goal.returns
returns c =
    c.meets.ensures
    ∙ sym (span_pages (page_range c.args.range.now) c.args.span.now c.div_ceil.result
    c.saturating_add-end.result c.div_ceil-2.result c.args.range.now.low c.div_ceil.ensures
    c.saturating_add-end.ensures c.div_ceil-2.ensures)

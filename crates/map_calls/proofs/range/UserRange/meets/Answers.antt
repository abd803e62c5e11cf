use Rattle.std.proofs.Common.{sym}
use Rattle.map_calls.specs.Ranges.{page_range}
use Rattle.map_calls.proofs.RangeLemmas.{any_page_between}
use Rattle.map_calls.proofs.range.UserRange.meets.Goals as goal

pub returns : goal.returns
returns c =
    rw (c.max.ensures, c.min.ensures, c.end.ensures.end)
    (sym (any_page_between (page_range c.args.self.now) c.args.low c.args.end))

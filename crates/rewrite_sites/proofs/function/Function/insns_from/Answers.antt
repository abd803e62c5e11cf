use Rattle.std.proofs.Common.{length}
use Rattle.rewrite_sites.proofs.ShortLemmas.{from_short, swept_rises}
use Rattle.rewrite_sites.proofs.function.Function.insns_from.Goals as goal

pub from_holding-requires : goal.from_holding-requires
from_holding-requires c =
    let f = c.self.inside in
    rw (c.as_slice.ensures.value, c.self.invariant.0.0)
    (swept_rises (length f.bytes.now) f.start f.bytes.now)

pub returns-clause-short : goal.returns-clause-short
returns-clause-short c =
    let f = c.self.inside in
    rw (c.from_holding.ensures, c.as_slice.ensures.value, c.self.invariant.0.0)
    (from_short c.args.a (length f.bytes.now) f.start f.bytes.now c.self.invariant.2)

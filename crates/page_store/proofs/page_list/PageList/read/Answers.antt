use Rattle.std.proofs.Common.{arith, sym, ◌∙◌, false}
use Rattle.page_store.proofs.MapLemmas.{stop_all, width_bounds}
use Rattle.page_store.proofs.page_list.PageList.read.Goals as goal

pub number-requires-clause-low : goal.number-requires-clause-low
number-requires-clause-low c =
    let w = width_bounds c.args.n c.requires.width in
    let h = (stop_all c.args.self.now.pages.items false c.args.pkru c.args.addr c.args.n
    (sym c.stop.ensures ∙ c.in-None.is) 0 w.0).0 in
    omega (arith, h)

use Rattle.std.proofs.Common.{arith, sym, ◌∙◌, true}
use Rattle.page_store.proofs.MapLemmas.{stop_all, width_bounds}
use Rattle.page_store.proofs.page_list.PageList.write.Goals as goal

pub set_number-requires-clause-low : goal.set_number-requires-clause-low
set_number-requires-clause-low c =
    let w = width_bounds c.args.n c.requires.width in
    let h = (stop_all c.args.self.now.pages.items true c.args.pkru c.args.addr c.args.n
    (sym c.stop.ensures ∙ c.in-None.is) 0 w.0).0 in
    omega (arith, h)

pub set_number-requires-clause-mapped : goal.set_number-requires-clause-mapped
set_number-requires-clause-mapped c =
    λ k l. (stop_all c.args.self.now.pages.items true c.args.pkru c.args.addr c.args.n
    (sym c.stop.ensures ∙ c.in-None.is) k l).1

use Rattle.std.proofs.Common.{◌<◌, ◌^◌, ◌/◌, None, Option, IsSome, arith, subst}
use Rattle.erim_defs.specs.declared.machine.Rights.{Rights}
use Rattle.page_store.proofs.MapLemmas.{find_page_low}
use Rattle.page_store.proofs.page_list.PageListPages.word.Goals as goal

pub number-requires-clause-low : goal.number-requires-clause-low
number-requires-clause-low c =
    let ps = c.args.self.now.pages.items in
    let low : c.args.addr / 4096 < 2 ^ 35 =
    find_page_low ps (c.args.addr / 4096) c.args.self.now.listed
    (λ none. let k : IsSome {T = Rights} None = subst (λ (o : Option Rights). IsSome o) none
    c.requires.mapped in cc) in
    omega (arith, low)

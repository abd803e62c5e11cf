use Rattle.std.proofs.Common.{arith}
use Rattle.page_store.proofs.EditLemmas.{list_mapped}
use Rattle.page_store.proofs.page_list.PageListPages.free_frames.Goals as goal

pub returns : goal.returns
returns c = let e = list_mapped c.args.self.now.pages.items c.args.self.now.listed in
    grind (arith, e)

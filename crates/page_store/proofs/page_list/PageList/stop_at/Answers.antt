use Rattle.std.proofs.Common.{◌<◌, sym, subst}
use Rattle.page_store.specs.declared.page_list.Page.{Page}
use Rattle.page_store.proofs.ListLemmas.{listed-key}
use Rattle.page_store.proofs.page_list.PageList.stop_at.Goals as goal

pub rights_stop-requires : goal.rights_stop-requires
rights_stop-requires c = subst (λ (p : Page). p.rights.key < 16) (sym c.index.ensures)
    (listed-key c.args.self.now.pages.items c.in-Some.i c.index.result.now c.args.self.now.listed
    c.in-Some.ensures.0)

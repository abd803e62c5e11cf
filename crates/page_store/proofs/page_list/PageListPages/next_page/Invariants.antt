use Rattle.std.proofs.Common.{◌≡◌, None, drop}
use Rattle.page_store.specs.Listed.{nearest}
use Rattle.page_store.proofs.page_list.PageListPages.next_page.Given as goal

abbrev pub invariant-loop-page : goal.invariant-loop-page
invariant-loop-page l = nearest (drop l.page-index l.self.pages.items) l.from l.least
    ≡ nearest l.self.pages.items l.from None

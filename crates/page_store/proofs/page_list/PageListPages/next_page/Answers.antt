use Rattle.std.proofs.Common.{arith}
use Rattle.page_store.proofs.NextLemmas.{next_at_end}
use Rattle.page_store.proofs.page_list.PageListPages.next_page.Goals as goal

pub returns : goal.returns
returns c = next_at_end c.args.self.now.pages.items c.args.from c.loop-page.least
    c.loop-page.page-index (omega arith) c.loop-page.invariant

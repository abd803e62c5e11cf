use Rattle.std.proofs.Common.{◌≡◌, ◌<◌, length, eqb-true, sym, ap, ◌∙◌, arith}
use Rattle.std.proofs.lemmas.List.{get_or_read_under}
use Rattle.page_store.specs.Listed.{find_page}
use Rattle.page_store.specs.declared.page_list.Page.{Page}
use Rattle.page_store.proofs.ListLemmas.{find_page-at}
use Rattle.page_store.proofs.page_list.PageList.is_at.Goals as goal

pub returns-then-i-len : goal.returns-then-i-len
returns-then-i-len c = λ e.
    let ps = c.args.self.now.pages.items in
    let n : length ps ≡ c.args.self.now.pages.len = grind arith in
    let count : c.len.result ≡ length ps = c.len.ensures ∙ sym n in
    let inside : c.args.i < length ps = rw count at c.if-i-len.true in (
      inside,
      λ d.
          let held = get_or_read_under ps c.args.i c.len.result c.index.result.now d c.index.ensures
          c.if-i-len.true count in
          let number = eqb-true _ _ e in
          let at = find_page-at ps c.args.i d c.args.self.now.listed inside in
          ap (find_page ps) (sym number ∙ ap (λ (p : Page). p.number) held) ∙ at,
    )

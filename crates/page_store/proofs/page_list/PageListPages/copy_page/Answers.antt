use Rattle.std.proofs.Common.{Some, length, sym, ap, ◌∙◌}
use Rattle.page_store.specs.declared.page_list.Page.{Page}
use Rattle.page_store.specs.Listed.{rights_of}
use Rattle.page_store.specs.ListLaws.{list_low, list_sound}
use Rattle.page_store.proofs.EditLemmas.{copied_zero}
use Rattle.page_store.proofs.ListLemmas.{listed-size}
use Rattle.page_store.proofs.page_list.PageListPages.copy_page.Goals as goal

pub returns-in-None-clause-bytes : goal.returns-in-None-clause-bytes
returns-in-None-clause-bytes c =
    λ i l. copied_zero c.args.self.now.pages.items c.args.page i c.in-None.ensures l

pub returns-in-Some-clause-long : goal.returns-in-Some-clause-long
returns-in-Some-clause-long c =
    let ps = c.args.self.now.pages.items in
    let d = c.index-from.result.now in
    ap (λ (p : Page). length p.bytes) c.index-from.ensures
    ∙ listed-size ps c.in-Some.i d c.args.self.now.listed c.in-Some.ensures.0

pub returns-in-Some-clause-sound : goal.returns-in-Some-clause-sound
returns-in-Some-clause-sound c =
    list_sound c.args.self.now.pages.items c.args.page c.index-from.result.now.rights
    c.args.self.now.listed
    (ap rights_of (c.in-Some.ensures.1 c.index-from.result.now)
    ∙ ap (λ (p : Page). Some p.rights) (sym c.index-from.ensures))

pub returns-in-Some-clause-low : goal.returns-in-Some-clause-low
returns-in-Some-clause-low c = λ _.
    list_low c.args.self.now.pages.items c.args.page c.index-from.result.now.rights
    c.args.self.now.listed
    (ap rights_of (c.in-Some.ensures.1 c.index-from.result.now)
    ∙ ap (λ (p : Page). Some p.rights) (sym c.index-from.ensures))

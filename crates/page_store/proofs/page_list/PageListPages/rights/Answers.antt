use Rattle.std.proofs.Common.{Some, sym, ap, ◌∙◌}
use Rattle.page_store.specs.declared.page_list.Page.{Page}
use Rattle.page_store.specs.Listed.{rights_of}
use Rattle.page_store.specs.ListLaws.{list_sound}
use Rattle.page_store.proofs.page_list.PageListPages.rights.Goals as goal

pub returns-in-Some-clause-sound : goal.returns-in-Some-clause-sound
returns-in-Some-clause-sound c =
    list_sound c.args.self.now.pages.items c.args.page c.index.result.now.rights
    c.args.self.now.listed
    (ap rights_of (c.in-Some.ensures.1 c.index.result.now)
    ∙ ap (λ (p : Page). Some p.rights) (sym c.index.ensures))

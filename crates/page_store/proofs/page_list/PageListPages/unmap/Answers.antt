use Rattle.std.proofs.Common.{get_or, ap, ◌∙◌, None}
use Rattle.erim_defs.specs.Machine.Pages.{with_value_at, with_zero_page}
use Rattle.erim_defs.specs.Machine.Access.{whole}
use Rattle.page_store.specs.Listed.{is_listed, list_rights, list_bytes}
use Rattle.page_store.proofs.SwapLemmas.{is_listed-swap}
use Rattle.page_store.proofs.MapLemmas.{find_page_number}
use Rattle.page_store.proofs.EditLemmas.{list_rights-swap, list_bytes-swap}
use Rattle.page_store.proofs.page_list.PageListPages.unmap.Goals as goal

pub invariant_of-self-clause-listed : goal.invariant_of-self-clause-listed
invariant_of-self-clause-listed c = ap is_listed c.swap_remove.ensures.items
    ∙ is_listed-swap c.args.self.now.pages.items c.in-Some.i c.swap_remove.result
    c.args.self.now.listed c.in-Some.ensures.0

pub returns-in-Some-clause-seen : goal.returns-in-Some-clause-seen
returns-in-Some-clause-seen c =
    let ps = c.args.self.now.pages.items in
    let i = c.in-Some.i in
    let d = c.swap_remove.result in
    ap (λ xs. whole (list_rights xs)) c.swap_remove.ensures.items
    ∙ ap whole (list_rights-swap ps i d c.args.self.now.listed c.in-Some.ensures.0
    ∙ ap (λ q. with_value_at (list_rights ps) q None)
    (find_page_number ps c.args.page (get_or ps i d) (c.in-Some.ensures.1 d)))

pub returns-in-Some-clause-bytes : goal.returns-in-Some-clause-bytes
returns-in-Some-clause-bytes c =
    let ps = c.args.self.now.pages.items in
    let i = c.in-Some.i in
    let d = c.swap_remove.result in
    ap list_bytes c.swap_remove.ensures.items
    ∙ list_bytes-swap ps i d c.args.self.now.listed c.in-Some.ensures.0
    ∙ ap (λ q. with_zero_page (list_bytes ps) q)
    (find_page_number ps c.args.page (get_or ps i d) (c.in-Some.ensures.1 d))

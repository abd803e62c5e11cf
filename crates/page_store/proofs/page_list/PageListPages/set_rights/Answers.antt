use Rattle.std.proofs.Common.{◌≡◌, length, get_or, ap, ◌∙◌, Some}
use Rattle.erim_defs.specs.Machine.Pages.{with_value_at}
use Rattle.page_store.specs.declared.page_list.Page.{Page}
use Rattle.page_store.specs.Listed.{list_rights}
use Rattle.page_store.proofs.ListLemmas.{listed-size, is_listed-set, sound_is}
use Rattle.page_store.proofs.MapLemmas.{list_rights-set, list_bytes-kept, find_page_number}
use Rattle.erim_defs.specs.Machine.Access.{whole}
use Rattle.page_store.proofs.page_list.PageListPages.set_rights.Goals as goal

pub invariant_of-self-clause-listed : goal.invariant_of-self-clause-listed
invariant_of-self-clause-listed c =
    let same = c.index_mut.ensures.value in
    let ps = c.args.self.now.pages.items in
    let i = c.in-Some.i in
    let d = c.index_mut.result.now in
    is_listed-set ps i (record d { rights = c.args.rights }) d c.args.self.now.listed
    c.in-Some.ensures.0 (ap (λ (p : Page). p.number) same)
    (sound_is c.args.rights c.requires.sound)
    (ap (λ (p : Page). length p.bytes) same
    ∙ listed-size ps i d c.args.self.now.listed c.in-Some.ensures.0)

pub returns-in-Some-clause-seen : goal.returns-in-Some-clause-seen
returns-in-Some-clause-seen c =
    let same = c.index_mut.ensures.value in
    let ps = c.args.self.now.pages.items in
    let i = c.in-Some.i in
    let d = c.index_mut.result.now in
    let number : d.number ≡ c.args.page = ap (λ (p : Page). p.number) same
    ∙ find_page_number ps c.args.page (get_or ps i d) (c.in-Some.ensures.1 d) in
    ap whole (list_rights-set ps i (record d { rights = c.args.rights }) d c.args.self.now.listed
    c.in-Some.ensures.0 (ap (λ (p : Page). p.number) same)
    ∙ ap (λ q. with_value_at (list_rights ps) q (Some c.args.rights)) number)

pub returns-in-Some-clause-bytes : goal.returns-in-Some-clause-bytes
returns-in-Some-clause-bytes c =
    let same = c.index_mut.ensures.value in
    let ps = c.args.self.now.pages.items in
    let i = c.in-Some.i in
    let d = c.index_mut.result.now in
    list_bytes-kept ps i (record d { rights = c.args.rights }) d c.args.self.now.listed
    c.in-Some.ensures.0 (ap (λ (p : Page). p.number) same) (ap (λ (p : Page). p.bytes) same)

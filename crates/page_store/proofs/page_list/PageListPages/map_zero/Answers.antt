use Rattle.std.proofs.Common.{◌≡◌, ◌++◌, [], ◌∷◌, ℕ, length, replicate, sym, ap, ◌∙◌, arith}
use Rattle.std.proofs.lemmas.List.{length-replicate}
use Rattle.erim_defs.specs.Machine.Access.{whole}
use Rattle.page_store.specs.declared.page_list.Page.{Page}
use Rattle.page_store.specs.Listed.{find_page, is_listed, list_rights, list_bytes}
use Rattle.page_store.proofs.ListLemmas.{is_listed-push, is_fresh-by, none_from_rights, sound_is}
use Rattle.page_store.proofs.EditLemmas.{list_rights-push, list_bytes-push, list_bytes-fresh}
use Rattle.page_store.proofs.EditLemmas.{list_mapped, push_items, zero_page}
use Rattle.page_store.proofs.page_list.PageListPages.map_zero.Goals as goal

was_pushed : (c : goal.After-push)
    → c.push.new.self.items ≡ c.args.self.now.pages.items
    ++ record { number = c.args.page; rights = c.args.rights; bytes = replicate 4096 0 } ∷ []
was_pushed c =
    let e = list_mapped c.args.self.now.pages.items c.args.self.now.listed in
    let f = c.requires.free in
    push_items c.push.result _ _ _ (c.push.ensures.succeeds (grind (arith, e, f)))
    c.push.ensures.items

pub invariant_of-self-clause-listed : goal.invariant_of-self-clause-listed
invariant_of-self-clause-listed c =
    let ps = c.args.self.now.pages.items in
    let none : find_page ps c.args.page ≡ _ =
    none_from_rights (find_page ps c.args.page) c.requires.unmapped in
    let new : Page = record {
      number = c.args.page;
      rights = c.args.rights;
      bytes = replicate 4096 0;
    } in
    ap is_listed (was_pushed c)
    ∙ is_listed-push ps new c.args.self.now.listed
    (is_fresh-by new ps none c.requires.low (sound_is c.args.rights c.requires.sound)
    (length-replicate {A = ℕ} 4096 0))

pub returns-clause-seen : goal.returns-clause-seen
returns-clause-seen c =
    let ps = c.args.self.now.pages.items in
    let none : find_page ps c.args.page ≡ _ =
    none_from_rights (find_page ps c.args.page) c.requires.unmapped in
    let new : Page = record {
      number = c.args.page;
      rights = c.args.rights;
      bytes = replicate 4096 0;
    } in
    ap (λ xs. whole (list_rights xs)) (was_pushed c.before)
    ∙ ap whole (list_rights-push ps new none)

pub returns-clause-bytes : goal.returns-clause-bytes
returns-clause-bytes c =
    let ps = c.args.self.now.pages.items in
    let none : find_page ps c.args.page ≡ _ =
    none_from_rights (find_page ps c.args.page) c.requires.unmapped in
    let new : Page = record {
      number = c.args.page;
      rights = c.args.rights;
      bytes = replicate 4096 0;
    } in
    ap list_bytes (was_pushed c.before) ∙ list_bytes-push ps new none zero_page
    ∙ sym (list_bytes-fresh ps c.args.page none)

pub invariant_of-self-clause-room : goal.invariant_of-self-clause-room
invariant_of-self-clause-room c =
    let e = list_mapped c.args.self.now.pages.items c.args.self.now.listed in
    let f = c.requires.free in
    let n : length c.args.self.now.pages.items ≡ c.args.self.now.pages.len = grind arith in
    let most = c.push.ensures.upper_bound in
    omega (arith, e, f, n, most)

use Rattle.std.proofs.Common.{◌≡◌, ◌%◌, length, sym, subst, ap, ◌∙◌, set, length-set, true}
use Rattle.page_store.specs.declared.page_list.Page.{Page}
use Rattle.page_store.specs.Listed.{is_sound}
use Rattle.page_store.proofs.ListLemmas.{listed-sound, listed-size, is_listed-set}
use Rattle.page_store.proofs.MapLemmas.{list_bytes-put, list_rights-kept, find_page_number}
use Rattle.page_store.proofs.page_list.PageList.set_byte.Goals as goal

pub invariant_of-self-clause-listed : goal.invariant_of-self-clause-listed
invariant_of-self-clause-listed c =
    let same = c.index_mut.ensures.value in
    let ps = c.args.self.now.pages.items in
    let i = c.in-Some.i in
    let d = c.index_mut.result.now in
    is_listed-set ps i (record d { bytes = set d.bytes (c.args.addr % 4096) c.args.value }) d
    c.args.self.now.listed c.in-Some.ensures.0 (ap (λ (p : Page). p.number) same)
    (subst (λ (p : Page). is_sound p.rights
    ≡ true) (sym same) (listed-sound ps i d c.args.self.now.listed c.in-Some.ensures.0))
    (length-set d.bytes (c.args.addr % 4096) c.args.value ∙ ap (λ (p : Page). length p.bytes) same
    ∙ listed-size ps i d c.args.self.now.listed c.in-Some.ensures.0)

pub returns-in-Some-clause-bytes : goal.returns-in-Some-clause-bytes
returns-in-Some-clause-bytes c =
    let same = c.index_mut.ensures.value in
    let ps = c.args.self.now.pages.items in
    let i = c.in-Some.i in
    let d = c.index_mut.result.now in
    list_bytes-put ps i (record d { bytes = set d.bytes (c.args.addr % 4096) c.args.value }) d
    c.args.addr c.args.value c.args.self.now.listed c.in-Some.ensures.0
    (ap (λ (p : Page). p.number) same)
    (sym (find_page_number ps _ _ (c.in-Some.ensures.1 d)) ∙ sym (ap (λ (p : Page). p.number) same))
    (listed-size ps i d c.args.self.now.listed c.in-Some.ensures.0)
    (ap (λ (p : Page). set p.bytes (c.args.addr % 4096) c.args.value) same)

pub returns-in-Some-clause-rights : goal.returns-in-Some-clause-rights
returns-in-Some-clause-rights c =
    let same = c.index_mut.ensures.value in
    let ps = c.args.self.now.pages.items in
    let i = c.in-Some.i in
    let d = c.index_mut.result.now in
    list_rights-kept ps i (record d { bytes = set d.bytes (c.args.addr % 4096) c.args.value }) d
    c.args.self.now.listed c.in-Some.ensures.0
    (ap (λ (p : Page). p.number) same) (ap (λ (p : Page). p.rights) same)

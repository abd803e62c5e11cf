use Rattle.std.proofs.Common.{◌≡◌, arith, ◌+◌, ◌-◌, ◌/◌, ap, sym, ◌∙◌}
use Rattle.page_store.specs.Listed.{list_rights}
use Rattle.page_store.proofs.page_list.PageList.set_number.Goals as goal

pub set_byte-requires : goal.set_byte-requires
set_byte-requires c = λ none.
    let e : c.args.addr + (c.args.n - c.loop-left.left) ≡ c.loop-left.at = omega arith in
    c.requires.mapped (c.args.n - c.loop-left.left) (omega arith)
    (ap (λ y. list_rights c.args.self.now.pages.items (y / 4096)) e
    ∙ sym (ap (λ f. f (c.loop-left.at / 4096)) c.loop-left.invariant.rights) ∙ none)

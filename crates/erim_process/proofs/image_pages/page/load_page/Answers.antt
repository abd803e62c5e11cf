use Rattle.std.proofs.Common.{Some, ap, ◌∙◌, ◌≡◌, true, false}
use Rattle.erim_defs.specs.declared.machine.Rights.{Rights}
use Rattle.erim_defs.specs.Machine.Pages.{with_value_at}
use Rattle.erim_defs.specs.Machine.Access.{Seen}
use Rattle.erim_defs.specs.Machine.Count.{mapped_pages}
use Rattle.erim_defs.proofs.CountLemmas.{mapped_more}
use Rattle.erim_defs.specs.Machine.Access.{rights_in}
use Rattle.erim_process.proofs.LoadLemmas.{put_put}
use Rattle.erim_process.proofs.image_pages.page.load_page.Goals as goal

pub returns-clause-count : goal.returns-clause-count
returns-clause-count g c =
    let old = rights_in (g.P.Memory.seen c.args.pages.now) in
    let first : Rights = record c.args.rights { write = true; exec = false } in
    let rights : rights_in (g.P.Memory.seen c.set_rights.new.self)
    ≡ with_value_at old c.args.page (Some c.args.rights) =
    ap rights_in c.set_rights.ensures.seen
    ∙ ap (λ (s : Seen). with_value_at (rights_in s) c.args.page (Some c.args.rights))
    (c.fill_page.ensures.seen ∙ c.map_zero.ensures.seen)
    ∙ put_put old c.args.page (Some first) (Some c.args.rights) in
    ap mapped_pages rights
    ∙ mapped_more old c.args.page c.args.rights c.requires.page c.requires.unmapped

use Rattle.std.proofs.Common.{◌<◌, arith, ap, ◌∙◌}
use Rattle.erim_defs.specs.Machine.Pages.{with_value_at}
use Rattle.erim_process.proofs.LoadLemmas.{store_one}
use Rattle.erim_process.proofs.image_pages.page.write_byte.Goals as goal

pub returns-then-byte-ne0-clause-bytes : goal.returns-then-byte-ne0-clause-bytes
returns-then-byte-ne0-clause-bytes g c =
    let small : c.from.result < 256 = omega arith in
    c.store.ensures.bytes
    ∙ store_one (g.P.Memory.seen c.args.pages.now) (g.P.Memory.bytes c.args.pages.now) c.args.addr
    c.from.result (g.met.P.Pages.holds_all c.args.pages.now) c.requires.user c.requires.writable
    small
    ∙ ap (with_value_at (g.P.Memory.bytes c.args.pages.now) c.args.addr) c.from.ensures

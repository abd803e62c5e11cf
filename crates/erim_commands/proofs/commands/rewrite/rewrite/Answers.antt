use Rattle.std.proofs.Common.{List, ℕ}
use Rattle.erim_defs.specs.Rewriting.Rewriting.{rewriting}
use Rattle.erim_commands.specs.Commands.{image_format, rewrite_plan}
use Rattle.erim_commands.specs.Delivery.{world}
use Rattle.erim_commands.specs.Plans.{Plan}
use Rattle.erim_commands.specs.Replies.{Answer}
use Rattle.erim_commands.proofs.DeliveryLemmas.{file_next}
use Rattle.erim_commands.proofs.commands.rewrite.rewrite.Goals as goal

-- what follows the image
abbrev next : List ℕ → List ℕ → Plan Answer
next out bytes = rewrite_plan out (rewriting bytes)

pub returns-in-Ok : goal.returns-in-Ok
returns-in-Ok g c =
    let old = world g.S.Store g.K.Sink c.args.store.now c.args.out.now in
    let mid = world g.S.Store g.K.Sink c.load_image.new.store c.load_image.new.out in
    let new = world g.S.Store g.K.Sink c.conclude.new.store c.conclude.new.out in
    file_next image_format c.args.image.now (next c.args.name.now) c.in-Ok.image old mid new
    c.conclude.result c.in-Ok.ensures
    (c.conclude.ensures (next c.args.name.now c.in-Ok.image) c.rewriting_reply.ensures)

pub returns-in-Err : goal.returns-in-Err
returns-in-Err g c = c.in-Err.ensures (next c.args.name.now)

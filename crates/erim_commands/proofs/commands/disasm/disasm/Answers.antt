use Rattle.std.proofs.Common.{List, ℕ}
use Rattle.erim_commands.specs.Commands.{image_format}
use Rattle.erim_commands.specs.Delivery.{world}
use Rattle.erim_commands.specs.Plans.{Plan, Tell}
use Rattle.erim_commands.specs.Replies.{Answer, One, disasm_reply}
use Rattle.erim_commands.proofs.DeliveryLemmas.{file_next, reply_for_one}
use Rattle.erim_commands.proofs.commands.disasm.disasm.Goals as goal

-- what follows the image
abbrev next : List ℕ → Plan Answer
next bytes = Tell (One (disasm_reply bytes))

pub returns-in-Ok : goal.returns-in-Ok
returns-in-Ok g c =
    let old = world g.S.Store g.K.Sink c.args.store.now c.args.out.now in
    let mid = world g.S.Store g.K.Sink c.load_image.new.store c.load_image.new.out in
    let new = world g.S.Store g.K.Sink c.conclude.new.store c.conclude.new.out in
    file_next image_format c.args.image.now next c.in-Ok.image old mid new c.conclude.result
    c.in-Ok.ensures
    (c.conclude.ensures (next c.in-Ok.image)
    (reply_for_one (disasm_reply c.in-Ok.image) c.disasm_reply.result c.disasm_reply.ensures))

pub returns-in-Err : goal.returns-in-Err
returns-in-Err g c = c.in-Err.ensures next

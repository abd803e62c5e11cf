use Rattle.std.proofs.Common.{refl}
use Rattle.erim_defs.specs.Output.Texts.{error_line}
use Rattle.erim_commands.specs.CallParts.{reply_of, save_of}
use Rattle.erim_commands.specs.Delivery.{world}
use Rattle.erim_commands.proofs.DeliveryLemmas.{delivers_unsaved}
use Rattle.erim_commands.proofs.delivery.deliver.Goals as goal

pub returns-in-Err-Failed : goal.returns-in-Err-Failed
unfolding error_line
returns-in-Err-Failed g c =
    let old = world g.S.Store g.K.Sink c.args.store.now c.args.out.now in
    let new = world g.S.Store g.K.Sink c.save.new.store c.put-in-Err-Failed.new.out in
    let save = rw c.in-Err-Failed.field-0-is at c.in-Err-Failed.ensures in
    delivers_unsaved (reply_of c.args.reply.now) (save_of c.args.reply.now.save) old new
    c.put-in-Err-Failed.result refl save.held save.loads save.saves c.put-in-Err-Failed.ensures

use Rattle.std.proofs.Common.{refl}
use Rattle.std.specs.Prelude.{codes, map}
use Rattle.std.specs.String.{string_bytes}
use Rattle.erim_defs.specs.Output.Words.{command_of}
use Rattle.erim_commands.specs.declared.reply.Status.TheVariants.{NotUnderstood}
use Rattle.erim_commands.specs.Commands.{plan_for}
use Rattle.erim_commands.specs.Delivery.{world}
use Rattle.erim_commands.specs.Replies.{line_reply}
use Rattle.erim_commands.proofs.DeliveryLemmas.{carries_line, carries_nothing, untouched}
use Rattle.erim_commands.proofs.top_call.obey.Goals as goal

pub returns-in-Ok-None : goal.returns-in-Ok-None
returns-in-Ok-None g c =
    let old = world g.S.Store g.K.Sink c.args.store.now c.args.out.now in
    let new = world g.S.Store g.K.Sink c.args.store.now c.not_understood.new.out in
    let meant = rw c.in-Ok-None.field-0-is at c.in-Ok-None.ensures.meant in
    rw (← meant)
    (carries_line (line_reply NotUnderstood (codes "words not understood"))
    old new c.not_understood.result (record { held = refl; loads = refl; saves = refl })
    c.not_understood.ensures)

pub returns-in-Err : goal.returns-in-Err
returns-in-Err g c =
    let old = world g.S.Store g.K.Sink c.args.store.now c.args.out.now in
    carries_nothing (plan_for (command_of (map string_bytes c.args.words.now))) old old 5 refl
    (untouched old)

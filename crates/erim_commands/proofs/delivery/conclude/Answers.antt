use Rattle.std.proofs.Common.{refl}
use Rattle.erim_commands.specs.Delivery.{world}
use Rattle.erim_commands.proofs.DeliveryLemmas.{carries_nothing, untouched}
use Rattle.erim_commands.proofs.delivery.conclude.Goals as goal

pub returns-in-Err : goal.returns-in-Err
returns-in-Err g c = λ plan replies. carries_nothing plan _ _ 5 refl
    (untouched (world g.S.Store g.K.Sink c.args.store.now c.args.out.now))

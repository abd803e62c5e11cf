use Rattle.erim_commands.specs.Plans.{Tell}
use Rattle.erim_commands.specs.Replies.{One, gen_reply}
use Rattle.erim_commands.proofs.DeliveryLemmas.{reply_for_one}
use Rattle.erim_commands.proofs.commands.generated.generate.Goals as goal

pub returns : goal.returns
returns g c =
    let reply = gen_reply c.args.seed c.args.name.now in
    c.conclude.ensures (Tell (One reply))
    (reply_for_one reply c.gen_reply.result c.gen_reply.ensures)

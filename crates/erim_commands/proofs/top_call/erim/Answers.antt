use Rattle.std.proofs.Common.{map}
use Rattle.std.specs.String.{string_bytes}
use Rattle.erim_defs.specs.Output.Words.{command_of}
use Rattle.erim_commands.specs.Delivery.{world}
use Rattle.erim_commands.proofs.PromiseLemmas.{promises}
use Rattle.erim_commands.proofs.top_call.erim.Goals as goal

pub returns : goal.returns
returns g c =
    promises (command_of (map string_bytes c.args.words.now))
    (world g.S.Store g.K.Sink c.args.store.now c.args.out.now)
    (world g.S.Store g.K.Sink c.obey.new.store c.obey.new.out)
    c.obey.result
    (record {
      rewriting = c.rewriting_is_clean.ensures;
      replaying = c.unbroken.ensures;
      generated_length = c.generated_startable.ensures.length;
      generated_accepted = c.generated_startable.ensures.accepted;
      generated_startable = c.generated_startable.ensures.startable;
    })
    c.obey.ensures

use Rattle.std.proofs.Common.{map}
use Rattle.std.specs.String.{string_bytes}
use Rattle.erim_defs.specs.Output.Words.{command_of}
use Rattle.erim_commands.specs.Commands.{plain}
use Rattle.erim_commands.specs.Delivery.{world}
use Rattle.erim_commands.proofs.PromiseLemmas.{promises}
use Rattle.erim_commands.proofs.top_call.erim_plain.Goals as goal

pub returns : goal.returns
returns g c =
    promises (plain (command_of (map string_bytes c.args.words.now)))
    (world g.S.Store g.K.Sink c.args.store.now c.args.out.now)
    (world g.S.Store g.K.Sink c.obey_plain.new.store c.obey_plain.new.out)
    c.obey_plain.result
    (record {
      rewriting = c.rewriting_is_clean.ensures;
      replaying = c.unbroken.ensures;
      generated_length = c.generated_startable.ensures.length;
      generated_accepted = c.generated_startable.ensures.accepted;
      generated_startable = c.generated_startable.ensures.startable;
    })
    c.obey_plain.ensures

use Rattle.erim_defs.specs.Output.Texts.{error_line}
use Rattle.erim_commands.proofs.delivery.not_understood.Goals as goal

pub returns : goal.returns
unfolding error_line
returns g c = rw c.code_of.ensures at c.put.ensures

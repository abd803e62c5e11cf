use Rattle.std.proofs.Common.{List, ℕ, refl}
use Rattle.erim_defs.specs.declared.limits.TheConstants.{USUAL_WORKERS}
use Rattle.erim_defs.specs.declared.machine.Entry.{Entry}
use Rattle.erim_defs.specs.Machine.State.{State}
use Rattle.erim_defs.specs.Output.GeneratedTexts.{soak_line}
use Rattle.erim_commands.specs.Commands.{soak_setup}
use Rattle.erim_commands.specs.Plans.{Tell}
use Rattle.erim_commands.specs.Replies.{Ran}
use Rattle.erim_commands.proofs.DeliveryLemmas.{reply_for_run}
use Rattle.erim_commands.proofs.commands.generated.soak.Goals as goal

pub returns : goal.returns
returns g c =
    let text_of : List Entry → State → List ℕ = λ entries s. soak_line c.args.seed s in
    let setup = soak_setup c.args.seed in
    c.conclude.ensures (Tell (Ran text_of c.args.journal.now USUAL_WORKERS setup))
    (reply_for_run text_of c.args.journal.now USUAL_WORKERS setup setup c.soak_reply.result refl
    c.soak_reply.ensures)

use Rattle.std.proofs.Common.{ap, ◌∙◌, ◌%◌}
use Rattle.erim_defs.specs.declared.machine.End.TheVariants.{Exit}
use Rattle.erim_defs.specs.Machine.Registers.{register}
use Rattle.erim_defs.specs.Machine.Step.{with_end}
use Rattle.erim_process.specs.Machine.{machine_state}
use Rattle.erim_process.proofs.machine.Machine.exit_group.Goals as goal

pub returns-clause-state : goal.returns-clause-state
returns-clause-state g c = λ setup trust frames heaps.
    ap (machine_state g.P.Memory setup) c.leave.ensures
    ∙ ap (with_end (Exit (register c.args.new.now 7 % 256)))
    (c.advance.ensures.state setup trust frames heaps)

use Rattle.std.proofs.Common.{rules}
use Rattle.std.proofs.Common.{Err, ◌≡◌}
use Rattle.erim_defs.specs.declared.machine.Thread.{Thread}
use Rattle.erim_defs.specs.declared.register.TheConstants.{RSP}
use Rattle.erim_defs.specs.Machine.Operands.{lowered_rsp}
use Rattle.erim_defs.specs.Machine.Registers.{register, with_register}
use Rattle.x86_step.proofs.flow.push.Goals as goal

pub returns-in_err-store_pushed-clause-executes : goal.returns-in_err-store_pushed-clause-executes
returns-in_err-store_pushed-clause-executes g c =
    let t : Thread = record (c.args.thread.now) { rip = c.args.rip } in
    let e : c.from_residual.result ≡ Err c.in_err-store_pushed.field-0.0 = search rules in
    rw e (c.in_err-store_pushed.ensures.puts (with_register t RSP
    (lowered_rsp (register t RSP))))

pub returns-clause-executes : goal.returns-clause-executes
returns-clause-executes g c = c.in_ok-store_pushed.ensures.puts _ _ c.lower.ensures

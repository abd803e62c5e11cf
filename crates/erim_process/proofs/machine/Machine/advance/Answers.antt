use Rattle.std.proofs.Common.{◌∙◌}
use Rattle.erim_process.specs.Machine.{machine_state}
use Rattle.erim_process.proofs.MoveLemmas.{settled_move}
use Rattle.erim_process.proofs.machine.Machine.advance.Goals as goal

pub returns-clause-state : goal.returns-clause-state
returns-clause-state g c = λ setup trust frames heaps.
    c.settle.ensures.state setup
    ∙ settled_move (record {
      runner = record { number = c.args.t; thread = c.args.old.now };
      after = c.args.new.now;
      executed = c.args.executed;
      free = c.args.free;
    }) c.args.trust.now (machine_state g.P.Memory setup c.args.self.now) c.set_origin.new.thread
    c.is_escape.result trust c.set_origin.ensures c.is_escape.ensures

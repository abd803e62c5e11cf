use Rattle.std.proofs.Common.{◌∙◌, ◌%◌, ap, sym}
use Rattle.std.specs.List.{list_any}
use Rattle.erim_defs.specs.declared.machine.Thread.{Thread}
use Rattle.erim_defs.specs.Machine.Registers.{register}
use Rattle.erim_process.specs.Machine.{machine_state}
use Rattle.erim_process.proofs.LiveLemmas.{last_call, other_call}
use Rattle.erim_process.proofs.machine.Machine.exit.Goals as goal

pub returns-then-not-any_live-clause-state : goal.returns-then-not-any_live-clause-state
returns-then-not-any_live-clause-state g c = λ setup trust frames heaps.
    ap (machine_state g.P.Memory setup) c.leave.ensures
    ∙ last_call (register c.args.new.now 7 % 256) (machine_state g.P.Memory setup c.advance.new.self) _
    (c.advance.ensures.state setup trust frames heaps)
    (ap (list_any (λ (t : Thread). t.live)) (sym c.list.ensures.list) ∙ sym c.any_live.ensures
    ∙ c.if-not-any_live.true)

pub returns-else-not-any_live-clause-state : goal.returns-else-not-any_live-clause-state
returns-else-not-any_live-clause-state g c = λ setup trust frames heaps.
    other_call (register c.args.new.now 7 % 256) (machine_state g.P.Memory setup c.advance.new.self) _
    (c.advance.ensures.state setup trust frames heaps)
    (ap (list_any (λ (t : Thread). t.live)) (sym c.list.ensures.list) ∙ sym c.any_live.ensures
    ∙ c.if-not-any_live.false)

use Rattle.std.proofs.Common.{◌≤◌, sym, ap, subst}
use Rattle.erim_defs.specs.Machine.State.{State}
use Rattle.erim_process.specs.ProcessValue.{ProcessValue}
use Rattle.erim_process.proofs.ProcessLemmas.{state_seen}
use Rattle.erim_process.proofs.process.Process.steps.Goals as goal

pub returns-clause-value : goal.returns-clause-value
returns-clause-value c =
    ap (λ (s : State). s.steps) (sym (state_seen _ c.self.inside _ c.self.view_is c.self.invariant))

pub returns-clause-within : goal.returns-clause-within
returns-clause-within c =
    subst (λ (v : ProcessValue). c.self.inside.machine.steps ≤ v.setup.budget) c.self.view_is
    c.self.invariant.within

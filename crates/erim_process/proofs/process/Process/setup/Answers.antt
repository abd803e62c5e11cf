use Rattle.std.proofs.Common.{◌≤◌, subst}
use Rattle.erim_defs.specs.Machine.Isolation.{IsIsolated}
use Rattle.erim_defs.specs.Machine.Lawful.{AreLawful}
use Rattle.erim_process.specs.ProcessValue.{ProcessValue}
use Rattle.erim_process.specs.ProcessInvariant.{setup_of}
use Rattle.erim_process.proofs.ProcessLemmas.{state_setup}
use Rattle.erim_process.proofs.process.Process.setup.Goals as goal

pub returns-clause-same : goal.returns-clause-same
returns-clause-same c = state_setup _ c.self.inside _ c.self.view_is c.self.invariant

pub returns-clause-budget : goal.returns-clause-budget
returns-clause-budget c =
    subst (λ (v : ProcessValue). v.setup.budget ≤ 4194304) c.self.view_is c.self.inside.setup.steps

pub returns-clause-frames : goal.returns-clause-frames
returns-clause-frames c =
    subst (λ (v : ProcessValue). v.setup.frames ≤ 4096) c.self.view_is c.self.inside.setup.pages

pub returns-clause-isolated : goal.returns-clause-isolated
returns-clause-isolated c =
    let setup = setup_of c.self.inside.setup in
    subst (λ (v : ProcessValue). IsIsolated v.setup) c.self.view_is
    (λ entries s runs. c.always_kept.ensures setup entries s c.self.invariant.startable runs)

pub returns-clause-some_budget : goal.returns-clause-some_budget
returns-clause-some_budget c =
    subst (λ (v : ProcessValue). 1 ≤ v.setup.budget) c.self.view_is c.self.inside.setup.some_steps

pub returns-clause-some_frames : goal.returns-clause-some_frames
returns-clause-some_frames c =
    subst (λ (v : ProcessValue). 64 ≤ v.setup.frames) c.self.view_is c.self.inside.setup.some_pages

pub returns-clause-lawful : goal.returns-clause-lawful
returns-clause-lawful c =
    subst (λ (v : ProcessValue). AreLawful v.setup) c.self.view_is
    (c.steps_are_lawful.ensures (setup_of c.self.inside.setup) c.self.invariant.startable)

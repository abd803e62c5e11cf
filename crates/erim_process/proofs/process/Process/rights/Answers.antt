use Rattle.std.proofs.Common.{sym, ap, ◌∙◌}
use Rattle.erim_defs.specs.Machine.State.{State}
use Rattle.erim_process.proofs.ProcessLemmas.{state_seen, kept_now, kept_sound, kept_below}
use Rattle.erim_process.proofs.process.Process.rights.Goals as goal

pub returns-clause-value : goal.returns-clause-value
returns-clause-value c = c.rights.ensures.value
    ∙ ap (λ (s : State). s.rights c.args.page)
    (sym (state_seen _ c.self.inside _ c.self.view_is c.self.invariant))

pub returns-clause-sound : goal.returns-clause-sound
returns-clause-sound c =
    kept_sound _ c.args.page _ (kept_now c.always_kept.ensures _ c.self.inside _ c.self.view_is
    c.self.invariant) (returns-clause-value c)

pub returns-clause-low : goal.returns-clause-low
returns-clause-low c = kept_below _ c.args.page _
    (kept_now c.always_kept.ensures _ c.self.inside _ c.self.view_is c.self.invariant)
    (returns-clause-value c)

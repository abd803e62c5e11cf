use Rattle.std.proofs.Common.{◌+◌, ◌*◌, sym, ap, ◌∙◌}
use Rattle.erim_defs.specs.Machine.State.{State}
use Rattle.erim_process.proofs.ProcessLemmas.{state_seen, kept_now, kept_sound, kept_below}
use Rattle.erim_process.proofs.ProcessLemmas.{kept_zero}
use Rattle.erim_process.proofs.process.Process.copy_page.Goals as goal

pub returns-clause-rights : goal.returns-clause-rights
returns-clause-rights c = c.copy_page.ensures.rights
    ∙ ap (λ (s : State). s.rights c.args.page)
    (sym (state_seen _ c.self.inside _ c.self.view_is c.self.invariant))

pub returns-clause-bytes : goal.returns-clause-bytes
returns-clause-bytes c = λ i low. c.copy_page.ensures.bytes i low
    ∙ ap (λ (s : State). s.bytes (4096 * c.args.page + i))
    (sym (state_seen _ c.self.inside _ c.self.view_is c.self.invariant))

pub returns-clause-sound : goal.returns-clause-sound
returns-clause-sound c =
    kept_sound _ c.args.page _ (kept_now c.always_kept.ensures _ c.self.inside _ c.self.view_is
    c.self.invariant) (returns-clause-rights c)

pub returns-clause-low : goal.returns-clause-low
returns-clause-low c = kept_below _ c.args.page _
    (kept_now c.always_kept.ensures _ c.self.inside _ c.self.view_is c.self.invariant)
    (returns-clause-rights c)

pub returns-clause-zeros : goal.returns-clause-zeros
returns-clause-zeros c = λ none i l.
    returns-clause-bytes c i l
    ∙ kept_zero _ c.args.page i _
    (kept_now c.always_kept.ensures _ c.self.inside _ c.self.view_is c.self.invariant)
    (returns-clause-rights c) none l

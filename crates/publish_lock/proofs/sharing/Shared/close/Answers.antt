use Rattle.std.proofs.Common.{◌∙◌, ap, sym}
use Rattle.erim_defs.specs.Machine.ReplayFaults.{is_over}
use Rattle.erim_process.specs.ProcessValue.{ProcessValue, state_of}
use Rattle.publish_lock.proofs.sharing.Shared.close.Goals as goal

pub returns-clause-summed : goal.returns-clause-summed
returns-clause-summed g c = c.count_steps-counts.ensures.summed
    ∙ sym (ap (λ (p : ProcessValue). (state_of p).steps) c.audit_all.ensures.process)

pub returns-clause-marks : goal.returns-clause-marks
returns-clause-marks g c = λ k d low mark.
    ap (λ (p : ProcessValue). is_over (state_of p)) c.audit_all.ensures.process
    ∙ c.audit_all.ensures.marks k d low mark

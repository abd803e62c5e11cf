use Rattle.std.proofs.Common.{◌≡◌, ap}
use Rattle.std.specs.Prelude.{slice_index}
use Rattle.erim_defs.specs.Machine.ReplayFaults.{is_over}
use Rattle.erim_process.specs.ProcessValue.{ProcessValue, state_of}
use Rattle.publish_lock.specs.SeatValue.{SeatValue}
use Rattle.publish_lock.proofs.SeatLemmas.{all_more, marks_more}
use Rattle.publish_lock.proofs.lock.Locked.+audit_all.Goals as goal

pub returns-in-Some-clause-steps : goal.returns-in-Some-clause-steps
returns-in-Some-clause-steps g t c =
    all_more (λ (seat : SeatValue). slice_index c.args.counts.now seat.number ≡ seat.steps)
    _ _ c.in-Some.seat c.in-Some.ensures.items c.audit_all.ensures.steps c.audit.ensures.steps

pub returns-in-Some-clause-marks : goal.returns-in-Some-clause-marks
returns-in-Some-clause-marks g t c =
    marks_more _ _ _ _ c.in-Some.seat c.in-Some.ensures.items
    (ap (λ (p : ProcessValue). is_over (state_of p)) c.audit.ensures.process)
    c.audit_all.ensures.marks c.audit.ensures.mark

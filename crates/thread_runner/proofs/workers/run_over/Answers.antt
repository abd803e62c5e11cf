use Rattle.std.proofs.Common.{◌<◌, ◌∙◌, length, arith}
use Rattle.publish_lock.specs.SeatValue.{SeatValue}
use Rattle.thread_runner.proofs.workers.run_over.Goals as goal

-- the first seat's mark tells it
pub returns-clause-over : goal.returns-clause-over
returns-clause-over g c =
    let seat : SeatValue = record { number = 0; steps = 0; mark = 0 } in
    let count = c.in_ok-shared.ensures.count in
    let same = c.in_ok-seats.ensures.count in
    let some = c.requires.some_workers in
    let low : 0 < length c.in_ok-seats.seats.items = omega (arith, count, same, some) in
    let mark = c.in_ok-seats.ensures.marks 0 seat low in
    c.is_over-over.ensures.over (c.is_over-over.ensures.value
    ∙ c.close-closed.ensures.marks 0 seat low (λ zero. omega (arith, mark, zero)))

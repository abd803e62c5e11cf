use Rattle.std.proofs.Common.{arith, sym, ◌∙◌, refl}
use Rattle.erim_process.specs.ProcessValue.{state_of}
use Rattle.erim_process.proofs.RunningLemmas.{live_here, live_nowhere, none_live}
use Rattle.erim_process.proofs.process.Process.live_from.Goals as goal

pub returns-then-is_live-clause-least : goal.returns-then-is_live-clause-least
returns-then-is_live-clause-least c =
    let count = c.thread_count-thread-end.ensures.count in
    let low = c.loop-thread-test.true in
    sym (live_here (state_of c.args.self.now).threads c.args.first c.loop-thread.thread
    (omega arith) (omega (arith, count, low)) (sym c.is_live.ensures ∙ c.if-is_live.true)
    c.loop-thread.invariant)

pub returns-clause-least : goal.returns-clause-least
returns-clause-least c =
    let count = c.thread_count-thread-end.ensures.count in
    let past = c.loop-thread-test.false in
    sym (live_nowhere (state_of c.args.self.now).threads c.args.first
    (λ k from below. c.loop-thread.invariant k from (omega (arith, count, past, below))))

pub returns-clause-some : goal.returns-clause-some
returns-clause-some c = λ zero any.
    let count = c.thread_count-thread-end.ensures.count in
    let past = c.loop-thread-test.false in
    absurd (none_live (state_of c.args.self.now).threads any
    (λ t low. c.loop-thread.invariant t (omega (arith, zero)) (omega (arith, count, past, low))))

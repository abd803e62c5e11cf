use Rattle.std.proofs.Common.{◌∙◌, ap, arith}
use Rattle.erim_process.specs.ProcessValue.{ProcessValue}
use Rattle.thread_runner.proofs.RunningLemmas.{leads_on}
use Rattle.thread_runner.proofs.runner.run_slices.Goals as goal

pub loop-next-smaller : goal.loop-next-smaller
loop-next-smaller c =
    let more = c.step_live.ensures.counted in
    let left = c.in-Some.ensures.left in
    let same = ap (λ (p : ProcessValue). p.setup.budget) c.step_live.ensures.journal in
    omega (arith, more, left, same)

pub loop-next-preserved : goal.loop-next-preserved
loop-next-preserved c = record {
  setup = ap (λ (p : ProcessValue). p.setup) c.step_live.ensures.journal
      ∙ c.loop-next.invariant.setup;
  low = c.in-Some.ensures.low;
  slices = leads_on c.args.quantum c.args.process.now c.loop-next.process c.step_live.new.self
      c.loop-next.slice c.in-Some.next c.loop-next.invariant.slices c.in-Some.ensures.slice
      c.step_live.ensures.state
      (ap (λ (p : ProcessValue). p.journal) c.step_live.ensures.journal);
}

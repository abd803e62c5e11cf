use Rattle.std.proofs.Common.{◌∙◌, ◌++◌, ◌∷◌, [], ℕ, ap, refl, sym}
use Rattle.erim_process.specs.ProcessValue.{ProcessValue, state_of}
use Rattle.publish_lock.specs.Rules.{entry_of}
use Rattle.publish_lock.proofs.RuleLemmas.{under_own, under_other, workers_more, summed_more}
use Rattle.publish_lock.proofs.advancing.advance.Goals as goal

pub returns-clause-made : goal.returns-clause-made
returns-clause-made c = λ runs. (
  refl,
  c.step_live.ensures.journal ∙ ap (λ (t : ℕ). record {
    setup = c.args.process.now.setup;
    journal = c.args.process.now.journal ++ entry_of c.args.worker t ∷ [];
  }) c.thread_or_first-thread.ensures.value,
)

pub returns-clause-steps : goal.returns-clause-steps
returns-clause-steps c =
    under_own _ _ _ _ (ap (λ (p : ProcessValue). p.journal) c.step_live.ensures.journal) refl

pub returns-clause-other : goal.returns-clause-other
returns-clause-other c = λ w other.
    under_other w _ _ _ (ap (λ (p : ProcessValue). p.journal) c.step_live.ensures.journal)
    (λ same. other (sym same))

pub returns-clause-workers : goal.returns-clause-workers
returns-clause-workers c = λ most some few.
    workers_more most _ _ _ (ap (λ (p : ProcessValue). p.journal) c.step_live.ensures.journal)
    some few

pub returns-clause-summed : goal.returns-clause-summed
returns-clause-summed c =
    summed_more _ _ _ (state_of c.args.process.now) (state_of c.step_live.new.self)
    (ap (λ (p : ProcessValue). p.journal) c.step_live.ensures.journal)
    refl c.step_live.ensures.counted

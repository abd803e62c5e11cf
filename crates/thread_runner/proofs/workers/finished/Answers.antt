use Rattle.thread_runner.proofs.WorkerLemmas.{within_more}
use Rattle.thread_runner.proofs.workers.finished.Goals as goal

pub returns-in-Ok-clause-workers : goal.returns-in-Ok-clause-workers
returns-in-Ok-clause-workers c = λ workers within.
    within_more workers 1 _ _ (c.in-Ok.ensures.workers workers within) c.finish.ensures.slices

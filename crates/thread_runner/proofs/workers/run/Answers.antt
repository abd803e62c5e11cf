use Rattle.thread_runner.proofs.WorkerLemmas.{workers_within}
use Rattle.thread_runner.proofs.workers.run.Goals as goal

pub returns-clause-workers : goal.returns-clause-workers
returns-clause-workers g c =
    c.finished.ensures.workers c.args.workers
    (workers_within c.args.workers _ c.in_ok-closed.ensures.workers)

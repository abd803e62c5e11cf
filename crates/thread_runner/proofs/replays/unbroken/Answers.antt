use Rattle.thread_runner.proofs.ReplayLemmas.{unbroken_law}
use Rattle.thread_runner.proofs.replays.unbroken.Goals as goal

pub returns : goal.returns
returns c = unbroken_law

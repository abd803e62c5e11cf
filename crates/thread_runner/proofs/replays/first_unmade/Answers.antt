use Rattle.thread_runner.proofs.ReplayLemmas.{first_law}
use Rattle.thread_runner.proofs.replays.first_unmade.Goals as goal

pub returns : goal.returns
returns c = first_law

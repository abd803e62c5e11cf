-- The law is a lemma.
use Rattle.isolation.proofs.StartLemmas as laws
use Rattle.isolation.proofs.checked_is_startable.Goals as goal

pub returns : goal.returns
returns c = laws.start_law

-- The law is a lemma.
use Rattle.isolation.proofs.OpenLemmas as laws
use Rattle.isolation.proofs.opening_takes_a_sequence.Goals as goal

pub returns : goal.returns
returns c = laws.open_law

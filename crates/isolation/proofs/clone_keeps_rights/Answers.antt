-- The law is a lemma.
use Rattle.isolation.proofs.CloneLemmas as laws
use Rattle.isolation.proofs.clone_keeps_rights.Goals as goal

pub returns : goal.returns
returns c = laws.made_law

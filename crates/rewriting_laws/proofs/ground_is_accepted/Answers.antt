-- The law is a lemma.
use Rattle.rewriting_laws.proofs.GroundLemmas as laws
use Rattle.rewriting_laws.proofs.ground_is_accepted.Goals as goal

pub returns : goal.returns
returns c = laws.ground

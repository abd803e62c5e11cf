-- The law is a lemma.
use Rattle.rewriting_laws.proofs.SafeLemmas as laws
use Rattle.rewriting_laws.proofs.safe_outside_is_enough.Goals as goal

pub returns : goal.returns
returns c = laws.safe

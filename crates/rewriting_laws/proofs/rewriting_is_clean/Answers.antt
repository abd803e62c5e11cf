-- The law is a lemma.
use Rattle.rewriting_laws.proofs.SafeLemmas as laws
use Rattle.rewriting_laws.proofs.rewriting_is_clean.Goals as goal

pub returns : goal.returns
returns c = laws.answered

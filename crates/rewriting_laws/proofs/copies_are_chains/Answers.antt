-- The law is a lemma.
use Rattle.rewriting_laws.proofs.ChainLemmas as laws
use Rattle.rewriting_laws.proofs.copies_are_chains.Goals as goal

pub returns : goal.returns
returns c = laws.chain

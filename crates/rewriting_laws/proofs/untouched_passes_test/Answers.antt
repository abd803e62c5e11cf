-- The law is a lemma.
use Rattle.rewriting_laws.proofs.UntouchedLemmas as laws
use Rattle.rewriting_laws.proofs.untouched_passes_test.Goals as goal

pub returns : goal.returns
returns c = laws.touched_means

-- The law is a lemma.
use Rattle.rewriting_laws.proofs.UntouchedLemmas as laws
use Rattle.rewriting_laws.proofs.test_says_untouched.Goals as goal

pub returns : goal.returns
returns c = laws.untouched_means

-- The law is a lemma.
use Rattle.isolation.proofs.StartLemmas as laws
use Rattle.isolation.proofs.trusted_pages_have_their_key.Goals as goal

pub returns : goal.returns
returns c = laws.keys_law

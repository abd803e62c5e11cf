-- The law is a lemma.
use Rattle.isolation.proofs.PublishLemmas as laws
use Rattle.isolation.proofs.publication_is_exact.Goals as goal

pub returns : goal.returns
returns c = laws.publish_law

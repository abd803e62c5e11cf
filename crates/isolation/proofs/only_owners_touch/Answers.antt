-- The law is a lemma.
use Rattle.isolation.proofs.TouchLemmas as laws
use Rattle.isolation.proofs.only_owners_touch.Goals as goal

pub returns : goal.returns
returns c = laws.touch_law

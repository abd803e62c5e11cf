-- The law is a lemma.
use Rattle.isolation.proofs.LawfulLemmas as laws
use Rattle.isolation.proofs.steps_are_lawful.Goals as goal

pub returns : goal.returns
returns c = laws.lawful_law

-- The law is a lemma.
use Rattle.isolation.proofs.CheckLaw as laws
use Rattle.isolation.proofs.checks_on.Goals as goal

pub returns : goal.returns
returns c = laws.checks_law

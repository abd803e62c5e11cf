use Rattle.isolation.proofs.StartLemmas.{plain_law}
use Rattle.isolation.proofs.version_1_has_one_domain.Goals as goal

pub returns : goal.returns
returns c = plain_law

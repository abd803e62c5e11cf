-- The law is a lemma.
use Rattle.isolation.proofs.AlwaysKept as laws
use Rattle.isolation.proofs.always_kept.Goals as goal

pub returns : goal.returns
returns c = laws.always_kept

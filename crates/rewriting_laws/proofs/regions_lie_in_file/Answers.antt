-- The law is a lemma.
use Rattle.rewriting_laws.proofs.PlaceLemmas as laws
use Rattle.rewriting_laws.proofs.regions_lie_in_file.Goals as goal

pub returns : goal.returns
returns c = laws.places

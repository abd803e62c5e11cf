-- The law is a lemma.
use Rattle.rewriting_laws.proofs.RegionLemmas as laws
use Rattle.rewriting_laws.proofs.regions_have_room.Goals as goal

pub returns : goal.returns
returns c = laws.regions_law

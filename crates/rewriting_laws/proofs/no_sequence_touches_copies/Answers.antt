-- The law is a lemma.
use Rattle.rewriting_laws.proofs.QuietLemmas as laws
use Rattle.rewriting_laws.proofs.no_sequence_touches_copies.Goals as goal

pub returns : goal.returns
returns c = laws.quiet

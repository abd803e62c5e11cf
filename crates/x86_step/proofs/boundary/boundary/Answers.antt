use Rattle.x86_step.proofs.BoundaryLemmas as lemmas
use Rattle.x86_step.proofs.boundary.boundary.Goals as goal

pub returns-clause-looked : goal.returns-clause-looked
returns-clause-looked c = lemmas.boundary

pub returns-clause-noted : goal.returns-clause-noted
returns-clause-noted c = lemmas.noted_boundary

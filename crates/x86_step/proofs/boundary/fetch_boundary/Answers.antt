use Rattle.x86_step.proofs.BoundaryLemmas as lemmas
use Rattle.x86_step.proofs.boundary.fetch_boundary.Goals as goal

pub returns-clause-looked : goal.returns-clause-looked
returns-clause-looked c = lemmas.fetch_boundary

pub returns-clause-noted : goal.returns-clause-noted
returns-clause-noted c = lemmas.noted_fetch_boundary

pub returns-clause-whole : goal.returns-clause-whole
returns-clause-whole c = lemmas.whole_fetch_boundary c.whole_fetch.ensures

use Rattle.overlap_rewrite.proofs.AnswerLemmas.{accepted_regions}
use Rattle.overlap_rewrite.proofs.rewriting.rewriting_facts.Goals as goal

pub returns-clause-regions : goal.returns-clause-regions
returns-clause-regions c = accepted_regions c.args.image.now c.bytes-bytes.ensures.accepted

pub returns-clause-places : goal.returns-clause-places
returns-clause-places c = λ regions h. c.regions_lie_in_file.ensures c.args.image.now regions
    c.bytes-bytes.ensures.accepted h

pub returns-clause-clean : goal.returns-clause-clean
returns-clause-clean c = c.rewriting_is_clean.ensures c.args.image.now

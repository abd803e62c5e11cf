use Rattle.overlap_rewrite.proofs.AnswerLemmas.{clean_answer}
use Rattle.overlap_rewrite.proofs.rewriting.rewrite_image.Goals as goal

pub returns-clause-exact : goal.returns-clause-exact
returns-clause-exact c = rw c.rewriting_facts.ensures.regions c.rewrite_accepted.ensures

pub returns-clause-clean : goal.returns-clause-clean
returns-clause-clean c =
    clean_answer c.args.image.now c.rewrite_accepted.result c.rewriting_facts.ensures.clean
    (rw c.rewriting_facts.ensures.regions c.rewrite_accepted.ensures)

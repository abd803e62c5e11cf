use Rattle.x86_alu.proofs.ProductLemmas.{outcome_of_product}
use Rattle.x86_alu.proofs.arithmetic.imul.Goals as goal

pub returns-clause-outcome : goal.returns-clause-outcome
returns-clause-outcome c =
    let x = c.signed_value.ensures in
    let y = c.signed_value-2.ensures in
    outcome_of_product _ _ _ _ _ _ _ _ x.value x.fits y.value y.fits c.wrap.ensures
    c.is_past_width-past.ensures

use Rattle.std.proofs.Common.{◌∙◌, ap, sym}
use Rattle.erim_defs.specs.Rewriting.Sites.{in_function}
use Rattle.rewrite_sites.proofs.FunctionLemmas.{first_next}
use Rattle.rewrite_sites.proofs.program.insns_at.Goals as goal

pub loop-function-preserved : goal.loop-function-preserved
loop-function-preserved c =
    let off = ap (in_function c.args.a) (sym c.function-item.is)
    ∙ (sym c.has.ensures ∙ c.if-has.false) in
    sym (first_next c.args.a c.loop-function.function-index c.args.functions.now
    c.function-item.result c.loop-function-test.true off) ∙ c.loop-function.invariant

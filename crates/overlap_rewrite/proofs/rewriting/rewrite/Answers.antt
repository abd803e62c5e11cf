use Rattle.std.proofs.Common.{refl}
use Rattle.overlap_rewrite.proofs.AnswerLemmas.{refused}
use Rattle.overlap_rewrite.proofs.rewriting.rewrite.Goals as goal

pub returns-in-Err : goal.returns-in-Err
returns-in-Err c = record {
  exact = rw c.from.ensures (refused c.args.bytes.now c.in-Err.fault _ refl
      c.in-Err.ensures.faulty c.in-Err.ensures.accepted);
  clean = tt;
}

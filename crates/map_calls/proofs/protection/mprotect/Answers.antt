use Rattle.std.proofs.Common.{refl, None}
use Rattle.erim_defs.specs.Machine.MapCalls.{mprotect_result}
use Rattle.map_calls.proofs.CallLemmas.{protect_no_prot}
use Rattle.map_calls.proofs.protection.mprotect.Goals as goal

pub returns-then-prot-gt7-clause-answer : goal.returns-then-prot-gt7-clause-answer
unfolding mprotect_result
returns-then-prot-gt7-clause-answer g c = λ s t sees p.
    protect_no_prot s t c.args.addr c.args.len c.args.prot None c.if-prot-gt7.true

pub returns-clause-answer : goal.returns-clause-answer
unfolding mprotect_result
returns-clause-answer g c = λ s t sees p. c.protect.ensures.answer s t sees p refl

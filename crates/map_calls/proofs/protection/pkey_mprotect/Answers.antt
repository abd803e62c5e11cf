use Rattle.std.proofs.Common.{◌≡◌, ◌∙◌, sym, ap, Err, rules}
use Rattle.erim_defs.specs.Machine.MapCalls.{pkey_mprotect_result, protect, range_of}
use Rattle.map_calls.specs.Answers.{map_answer}
use Rattle.map_calls.specs.Keys.{named_key}
use Rattle.map_calls.proofs.CallLemmas.{foreign_seen, protect_no_key, protect_no_prot}
use Rattle.map_calls.proofs.protection.pkey_mprotect.Goals as goal

pub returns-then-prot-gt7-clause-answer : goal.returns-then-prot-gt7-clause-answer
unfolding pkey_mprotect_result
returns-then-prot-gt7-clause-answer g c = λ s t sees keys p.
    protect_no_prot s t c.args.addr c.args.len c.args.prot (named_key c.args.key) c.if-prot-gt7.true

pub returns-in_err-named-clause-answer : goal.returns-in_err-named-clause-answer
unfolding pkey_mprotect_result
returns-in_err-named-clause-answer g c = λ s t sees keys p.
    let e : c.from_residual.result ≡ Err c.in_err-named.field-0.0 = search rules in
    let is = c.in_err-named.ensures in
    let key = named_key c.args.key in
    protect_no_key s t c.args.addr c.args.len c.args.prot key
    (foreign_seen s c.args.keys.now key keys ∙ is.1)
    ∙ sym (ap (map_answer g.P.Memory s t c.args.pages.now) (e ∙ ap Err is.0))

pub returns-clause-answer : goal.returns-clause-answer
unfolding pkey_mprotect_result
returns-clause-answer g c = λ s t sees keys p.
    let is = c.in_ok-named.ensures in
    ap (protect s t c.args.addr (range_of c.args.addr c.args.len) c.args.prot) (sym is.0)
    ∙ c.protect.ensures.answer s t sees p
    (foreign_seen s c.args.keys.now c.in_ok-named.named keys ∙ is.1)

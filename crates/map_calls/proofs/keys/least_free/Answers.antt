use Rattle.std.proofs.Common.{arith, refl, sym, ◌∙◌, ◌&&◌, not, nat_lt}
use Rattle.std.proofs.lemmas.Bool.{lt-ltb}
use Rattle.erim_defs.proofs.LeastLemmas.{least_found, least_none}
use Rattle.map_calls.specs.KeyAnswers.{key_map}
use Rattle.map_calls.proofs.keys.least_free.Goals as goal

pub returns-then-not-is_taken-clause-least : goal.returns-then-not-is_taken-clause-least
returns-then-not-is_taken-clause-least c =
    let key = c.loop-key.key in
    let high = c.loop-key.auto.key in
    sym (least_found 16 key (λ k. nat_lt 1 k && not (key_map c.args.keys.now k))
    c.loop-key-test.true
    (rw (lt-ltb 1 key (omega (arith, high)), sym c.is_taken.ensures ∙ c.if-not-is_taken.true) refl)
    c.loop-key.invariant)

pub returns-clause-least : goal.returns-clause-least
returns-clause-least c =
    sym (least_none 16 (λ k. nat_lt 1 k && not (key_map c.args.keys.now k))
    (λ k l. c.loop-key.invariant k (omega (arith, l))))

use Rattle.std.proofs.Common.{◌∙◌, ap, sym, bit_xor, ◌*◌, ◌^◌, ◌%◌, ℕ}
use Rattle.map_calls.proofs.KeyLemmas.{free_invalid, free_some, freeable_low, one_shifted}
use Rattle.map_calls.proofs.keys.pkey_free.Goals as goal

pub returns-then-not-is_freeable-clause-answer : goal.returns-then-not-is_freeable-clause-answer
returns-then-not-is_freeable-clause-answer c = λ s t h e.
    free_invalid s t c.args.trust.now c.args.keys.now t.pkru c.args.key h e
    (sym c.is_freeable.ensures ∙ c.if-not-is_freeable.true)

pub returns-clause-answer : goal.returns-clause-answer
returns-clause-answer c = λ s t h e.
    let key = c.args.key % 2 ^ 32 in
    let taken = c.args.keys.now.taken in
    let on = sym c.is_freeable.ensures ∙ c.if-not-is_freeable.false in
    free_some s t c.args.trust.now c.args.keys.now t.pkru c.args.key
    (bit_xor taken (1 * 2 ^ key % 65536)) h e on
    (ap (λ (m : ℕ). bit_xor taken m) (one_shifted key
    (freeable_low c.args.trust.now c.args.keys.now key on)))

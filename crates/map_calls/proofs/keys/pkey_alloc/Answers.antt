use Rattle.std.proofs.Common.{◌∙◌, ap, sym, inl, inr, bit_xor, ◌*◌, ◌^◌, ◌%◌, ℕ, Ok}
use Rattle.map_calls.specs.KeyAnswers.{key_answer}
use Rattle.erim_defs.specs.Machine.CallResult.{CallResult}
use Rattle.map_calls.proofs.KeyLemmas.{alloc_invalid, alloc_none, alloc_some, one_shifted}
use Rattle.map_calls.proofs.keys.pkey_alloc.Goals as goal

pub returns-then-flags-ne0-clause-answer : goal.returns-then-flags-ne0-clause-answer
returns-then-flags-ne0-clause-answer c = λ s t h.
    elim c.then-flags-ne0.either [
      | inl n ↦ alloc_invalid s t c.args.flags c.args.rights (inl n)
      | inr l ↦ alloc_invalid s t c.args.flags c.args.rights (inr l.1)
    ]

pub returns-in-None-clause-answer : goal.returns-in-None-clause-answer
returns-in-None-clause-answer c = λ s t h.
    alloc_none s t c.args.keys.now c.args.pkru.now c.args.flags c.args.rights h c.if-flags-ne0.false
    c.if-rights-gt3.false (sym c.in-None.is ∙ c.least_free.ensures.least)

pub returns-in-Some-clause-answer : goal.returns-in-Some-clause-answer
returns-in-Some-clause-answer c = λ s t h.
    let key = c.in-Some.key in
    let taken = c.args.keys.now.taken in
    let new = bit_xor taken (1 * 2 ^ key % 65536) in
    let given : ℕ → ℕ → CallResult = λ v p. key_answer s t (record { taken = new }) p (Ok v) in
    alloc_some s t c.args.keys.now c.args.pkru.now c.args.flags c.args.rights key new h
    c.if-flags-ne0.false c.if-rights-gt3.false (sym c.in-Some.is ∙ c.least_free.ensures.least)
    c.in-Some.ensures.free (ap (λ (m : ℕ). bit_xor taken m) (one_shifted key c.in-Some.ensures.low))
    ∙ ap (given key) (sym c.with_key_rights.ensures)
    ∙ ap (λ (v : ℕ). given v c.with_key_rights.result) (sym c.from.ensures)

use Rattle.std.proofs.Common.{◌<◌, ◌≤◌, ◌+◌, ◌^◌, arith, sym, ap, ◌∙◌, ltb, ltb-true, ltb-false}
use Rattle.std.proofs.Common.{inl, inr}
use Rattle.std.proofs.lemmas.Bool.{cases_Bool}
use Rattle.std.proofs.Math.Facts.{Fits-bits}
use Rattle.erim_defs.specs.Machine.Step.{fetch_as}
use Rattle.erim_process.proofs.FetchLemmas.{fetch_fetched, fetch_low, fetch_held, length_taken}
use Rattle.erim_process.proofs.fetch.fetch.Goals as goal

pub returns-in-Err-clause-answer : goal.returns-in-Err-clause-answer
returns-in-Err-clause-answer g c =
    absurd (fetch_held (g.P.Memory.seen c.args.pages.now) (g.P.Memory.bytes c.args.pages.now)
    c.args.rip _ (g.met.P.Pages.holds_all c.args.pages.now) c.in-Err.ensures.answer)

pub returns-in-Insn-clause-answer : goal.returns-in-Insn-clause-answer
returns-in-Insn-clause-answer g c =
    sym (ap (λ d. fetch_as d (c.args.rip + c.in-Ok.count)) c.in-Insn.is)
    ∙ fetch_fetched (g.P.Memory.seen c.args.pages.now) (g.P.Memory.bytes c.args.pages.now)
    c.args.rip c.in-Ok.count c.fetch.new.into c.decode.result
    (g.met.P.Pages.holds_all c.args.pages.now) c.in-Ok.ensures.answer.1
    (length_taken c.in-Ok.count c.fetch.new.into c.in-Ok.ensures.answer.0 c.fetch.array_long)
    c.decode.ensures.function

pub returns-in-Undefined-clause-answer : goal.returns-in-Undefined-clause-answer
returns-in-Undefined-clause-answer g c =
    sym (ap (λ d. fetch_as d (c.args.rip + c.in-Ok.count)) c.in-Undefined.is)
    ∙ fetch_fetched (g.P.Memory.seen c.args.pages.now) (g.P.Memory.bytes c.args.pages.now)
    c.args.rip c.in-Ok.count c.fetch.new.into c.decode.result
    (g.met.P.Pages.holds_all c.args.pages.now) c.in-Ok.ensures.answer.1
    (length_taken c.in-Ok.count c.fetch.new.into c.in-Ok.ensures.answer.0 c.fetch.array_long)
    c.decode.ensures.function

pub returns-in-Short-clause-answer : goal.returns-in-Short-clause-answer
returns-in-Short-clause-answer g c =
    sym (ap (λ d. fetch_as d (c.args.rip + c.in-Ok.count)) c.in-Short.is)
    ∙ fetch_fetched (g.P.Memory.seen c.args.pages.now) (g.P.Memory.bytes c.args.pages.now)
    c.args.rip c.in-Ok.count c.fetch.new.into c.decode.result
    (g.met.P.Pages.holds_all c.args.pages.now) c.in-Ok.ensures.answer.1
    (length_taken c.in-Ok.count c.fetch.new.into c.in-Ok.ensures.answer.0 c.fetch.array_long)
    c.decode.ensures.function

pub returns-in-Insn-clause-placed : goal.returns-in-Insn-clause-placed
returns-in-Insn-clause-placed g c =
    let v = c.in-Insn.ensures.whole in
    let e = length_taken c.in-Ok.count c.fetch.new.into c.in-Ok.ensures.answer.0
    c.fetch.array_long in
    let l = fetch_low (g.P.Memory.seen c.args.pages.now) (g.P.Memory.bytes c.args.pages.now)
    c.args.rip c.in-Ok.count c.fetch.new.into
    (g.met.P.Pages.holds_all c.args.pages.now) (g.met.P.Memory.low c.args.pages.now)
    c.in-Ok.ensures.answer.1 (omega (arith, v.0, v.2, e)) in
    (l, v.1, v.3)

pub overflow_add-result : goal.overflow_add-result
overflow_add-result g c =
    let e = length_taken c.in-Ok.count c.fetch.new.into c.in-Ok.ensures.answer.0
    c.fetch.array_long in
    Fits-bits 64 tt (elim (cases_Bool (ltb 0 c.in-Ok.count)) [
      | inl t ↦ (let n = c.in-Ok.ensures.answer.0 in let p : 0 < c.in-Ok.count = ltb-true _ _ t in
          let l = fetch_low (g.P.Memory.seen c.args.pages.now) (g.P.Memory.bytes c.args.pages.now)
          c.args.rip c.in-Ok.count c.fetch.new.into
          (g.met.P.Pages.holds_all c.args.pages.now) (g.met.P.Memory.low c.args.pages.now)
          c.in-Ok.ensures.answer.1 (omega (arith, p, e)) in omega (arith, n, l))
      | inr f ↦ (let z : c.in-Ok.count ≤ 0 = ltb-false _ _ f in
          let r : c.args.rip < 2 ^ 64 = omega arith in omega (arith, z, r))
    ])

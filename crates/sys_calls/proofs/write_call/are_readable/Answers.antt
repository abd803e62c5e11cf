use Rattle.std.proofs.Common.{arith, ◌+◌, ◌-◌, ◌^◌, ◌≤◌, ◌∙◌, false, sym, ap}
use Rattle.std.specs.Prelude.{is_none}
use Rattle.erim_defs.specs.Machine.Access.{stop, whole}
use Rattle.erim_defs.specs.Inspection.Code.{or_else}
use Rattle.erim_defs.specs.Machine.Access.{rights_in}
use Rattle.sys_calls.proofs.ReadableLemmas.{stop_next, stop_nothing, load_one, load_none}
use Rattle.sys_calls.proofs.ReadableLemmas.{stop_high, not_below}
use Rattle.sys_calls.proofs.write_call.are_readable.Goals as goal

pub returns-in_default-clause-answer : goal.returns-in_default-clause-answer
returns-in_default-clause-answer g c =
    let w = whole (rights_in (g.P.Memory.seen c.args.pages.now)) in
    let i = c.loop-step.step in
    let past : 2 ^ 64 ≤ c.args.buf + i = not_below (c.args.buf + i) (2 ^ 64) c.in_default.ensures in
    sym (ap is_none (c.loop-step.invariant.3
    ∙ stop_next w false c.args.pkru c.args.buf c.args.n i c.loop-step-test.true)
    ∙ stop_high w false c.args.pkru (c.args.buf + i)
    (stop w false c.args.pkru (c.args.buf + (i + 1)) (c.args.n - (i + 1)))
    (omega (arith, past)))

pub returns-then-is_err-clause-answer : goal.returns-then-is_err-clause-answer
returns-then-is_err-clause-answer g c =
    let w = whole (rights_in (g.P.Memory.seen c.args.pages.now)) in
    let i = c.loop-step.step in
    let same = c.loop-step.invariant.0 ∙ g.met.P.Pages.holds_all c.args.pages.now in
    let answer = rw (same, c.in-Some.ensures.1) at c.load.ensures.answer in
    sym (ap is_none (c.loop-step.invariant.3
    ∙ stop_next w false c.args.pkru c.args.buf c.args.n i c.loop-step-test.true)
    ∙ load_none w (g.P.Memory.bytes c.loop-step.pages) c.args.pkru (c.args.buf + i) c.load.result
    (stop w false c.args.pkru (c.args.buf + (i + 1)) (c.args.n - (i + 1))) answer
    (sym c.if-is_err.ensures.value))

pub loop-step-preserved : goal.loop-step-preserved
loop-step-preserved g c =
    let w = whole (rights_in (g.P.Memory.seen c.args.pages.now)) in
    let i = c.loop-step.step in
    let same = c.loop-step.invariant.0 ∙ g.met.P.Pages.holds_all c.args.pages.now in
    let answer = rw (same, c.in-Some.ensures.1) at c.load.ensures.answer in
    let passes = load_one w (g.P.Memory.bytes c.loop-step.pages) c.args.pkru (c.args.buf + i)
    c.load.result answer (sym c.if-is_err.ensures.value) in (
      c.load.ensures.seen ∙ c.loop-step.invariant.0,
      c.load.ensures.bytes ∙ c.loop-step.invariant.1,
      c.load.ensures.frames ∙ c.loop-step.invariant.2,
      c.loop-step.invariant.3 ∙ stop_next w false c.args.pkru c.args.buf c.args.n i
          c.loop-step-test.true
          ∙ ap (λ o. or_else o (stop w false c.args.pkru (c.args.buf + (i + 1))
          (c.args.n - (i + 1)))) passes,
    )

pub returns-clause-answer : goal.returns-clause-answer
returns-clause-answer g c =
    let w = whole (rights_in (g.P.Memory.seen c.args.pages.now)) in
    sym (ap is_none (c.loop-step.invariant.3
    ∙ stop_nothing w false c.args.pkru (c.args.buf + c.loop-step.step) c.args.n c.loop-step.step
    c.loop-step-test.false))

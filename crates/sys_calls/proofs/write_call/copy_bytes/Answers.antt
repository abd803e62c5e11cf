use Rattle.std.proofs.Common.{arith, ◌≡◌, ◌+◌, ◌%◌, ◌^◌, false, ◌∙◌, ap}
use Rattle.erim_defs.specs.Machine.Access.{whole}
use Rattle.erim_defs.specs.Machine.Access.{rights_in}
use Rattle.sys_calls.proofs.WriteLemmas.{readable_now, readable_then, readable_low, taken_next}
use Rattle.sys_calls.proofs.WriteLemmas.{taken_nothing, pushed, pushed_length, ended_at}
use Rattle.sys_calls.proofs.write_call.copy_bytes.Goals as goal

pub byte_of-byte-requires : goal.byte_of-byte-requires
byte_of-byte-requires g c =
    let w = whole (rights_in (g.P.Memory.seen c.args.pages.now)) in
    let i = c.loop-step.step in
    let readable = c.loop-step.invariant.3 in
    let low = readable_low w false c.args.pkru c.args.buf c.args.n i c.loop-step-test.true
    readable in
    let here : (c.args.buf + i) % 2 ^ 64 ≡ c.args.buf + i = omega (arith, low) in
    record {
      readable = rw (here, c.loop-step.invariant.0)
          (readable_now w false c.args.pkru c.args.buf c.args.n i c.loop-step-test.true readable);
    }

pub loop-step-preserved : goal.loop-step-preserved
loop-step-preserved g c =
    let w = whole (rights_in (g.P.Memory.seen c.args.pages.now)) in
    let bytes = g.P.Memory.bytes c.args.pages.now in
    let i = c.loop-step.step in
    let more = c.loop-step-test.true in
    let readable = c.loop-step.invariant.3 in
    let low = readable_low w false c.args.pkru c.args.buf c.args.n i more readable in
    let here : (c.args.buf + i) % 2 ^ 64 ≡ c.args.buf + i = omega (arith, low) in
    let room = c.loop-step.invariant.4 in
    let byte = c.byte_of-byte.ensures.value
    ∙ ap (λ b. b ((c.args.buf + i) % 2 ^ 64)) c.loop-step.invariant.1 ∙ ap bytes here in
    let all = rw byte at c.push.ensures in
    let long = pushed_length c.loop-step.output c.push.new.self _ c.push.ensures in (
      c.byte_of-byte.ensures.seen ∙ c.loop-step.invariant.0,
      c.byte_of-byte.ensures.bytes ∙ c.loop-step.invariant.1,
      c.byte_of-byte.ensures.frames ∙ c.loop-step.invariant.2,
      readable_then w false c.args.pkru c.args.buf c.args.n i more readable,
      omega (arith, room, long, more),
      pushed c.loop-step.output c.push.new.self _ _ _ (bytes (c.args.buf + i)) all
          (taken_next bytes c.args.buf c.args.n i more) c.loop-step.invariant.5,
    )

pub returns-clause-output : goal.returns-clause-output
returns-clause-output g c =
    let bytes = g.P.Memory.bytes c.args.pages.now in
    let all = c.loop-step.invariant.5 in
    let rest = taken_nothing bytes (c.args.buf + c.loop-step.step) c.args.n c.loop-step.step
    c.loop-step-test.false in
    ended_at c.loop-step.output _ _ rest all

use Rattle.std.proofs.Common.{◌≡◌, ◌+◌, ◌*◌, ◌%◌, ◌^◌, length, length-set, Err, arith, rules}
use Rattle.x86_step.proofs.HeaderLemmas.{got_more, not_got, got_all}
use Rattle.x86_step.proofs.xrstor.read_header.Goals as goal

pub returns-in_err-header-clause-gets : goal.returns-in_err-header-clause-gets
returns-in_err-header-clause-gets g c =
    let e : c.from_residual.result ≡ Err c.in_err-header.field-0.0 = search rules in
    rw e (not_got g.M.Memory c.loop-i.i (c.args.area + 512)
    ((c.args.area + (512 + 8 * c.loop-i.i)) % 2 ^ 64) c.loop-i.header _ c.args.thread.now
    c.args.memory.now c.loop-i.memory c.load.new.memory (omega arith) (omega arith)
    c.loop-i.invariant.1 c.in_err-header.ensures.gets)

pub loop-i-preserved : goal.loop-i-preserved
loop-i-preserved g c =
    let n : length c.loop-i.header ≡ 8 = c.loop-i.invariant.0 in (
      simp length-set n,
      got_more g.M.Memory c.loop-i.i (c.args.area + 512)
          ((c.args.area + (512 + 8 * c.loop-i.i)) % 2 ^ 64) _ c.loop-i.header c.args.thread.now
          c.args.memory.now c.loop-i.memory c.load.new.memory (omega arith) (omega arith)
          (omega arith)
          c.loop-i.invariant.1 c.in_ok-header.ensures.gets,
      omega arith,
    )

pub returns-clause-gets : goal.returns-clause-gets
returns-clause-gets g c =
    let i : c.loop-i.i ≡ 8 = omega arith in
    got_all g.M.Memory (c.args.area + 512) c.loop-i.header c.args.thread.now c.args.memory.now
    c.loop-i.memory c.loop-i.invariant.0 (rw i at c.loop-i.invariant.1)

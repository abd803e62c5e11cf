use Rattle.std.proofs.Common.{[], refl, arith}
use Rattle.erim_defs.specs.Inspection.Image.{code_of, is_executable, is_page_of}
use Rattle.erim_defs.proofs.PageLemmas.{code_of_absent}
use Rattle.image_code.proofs.CodeLemmas.{lays_ends, lays_next, lays_nothing, same_code}
use Rattle.image_code.proofs.code.stretches_of.Goals as goal

pub laying-init : goal.laying-init
laying-init c = record {
  user = omega arith;
  lays = rw c.new-stretches.ensures.items
      (lays_nothing (code_of c.args.bytes.now c.args.segments.now));
}

pub laying-preserved : goal.laying-preserved
laying-preserved c =
    let code = code_of c.args.bytes.now c.args.segments.now in
    let is = c.in-Some.ensures.2 in
    record {
      user = omega (arith, is.user);
      lays = rw c.in_ok-push.ensures.items
          (lays_next [] code (is_page_of is_executable c.args.segments.now) c.laying.from
          c.laying.stretches.items c.in-Some.pages _
          (code_of_absent c.args.bytes.now c.args.segments.now) c.laying.invariant.lays
          c.in-Some.ensures.0 c.in-Some.ensures.1 is refl c.in_ok-bytes.ensures);
    }

pub returns-clause-code : goal.returns-clause-code
returns-clause-code c =
    let code = code_of c.args.bytes.now c.args.segments.now in
    same_code _ code (lays_ends [] code (is_page_of is_executable c.args.segments.now) c.laying.from
    c.laying.stretches.items (code_of_absent c.args.bytes.now c.args.segments.now)
    c.laying.invariant.lays c.in_default.ensures)

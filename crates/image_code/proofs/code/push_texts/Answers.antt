use Rattle.std.proofs.Common.{refl, arith}
use Rattle.image_code.specs.Stretches.{stretch_code}
use Rattle.image_code.specs.Texts.{is_text_below}
use Rattle.image_code.proofs.CodeLemmas.{lays_begins, lays_ends, lays_next}
use Rattle.image_code.proofs.TextLemmas.{text_before, text_lays, text_stands, text_within}
use Rattle.erim_defs.specs.Inspection.Image.{text_of}
use Rattle.image_code.proofs.code.push_texts.Goals as goal

pub texts-init : goal.texts-init
texts-init c =
    let s = c.args.stretch.now in
    let trust = c.args.trust.now in
    record {
      low = omega (arith, c.pages-all.ensures.first);
      high = omega (arith, c.pages-all.ensures.first, c.pages-all.ensures.end);
      lays = lays_begins c.args.stretches.now.items (text_of trust (stretch_code s))
          c.pages-all.result.first s c.pages-all.ensures.first c.requires.apart c.requires.before
          (text_before trust s);
    }

pub part-requires : goal.part-requires
part-requires c =
    text_within c.args.trust.now c.args.stretch.now c.texts.from c.pages-all.result.end
    c.in-Some.pages c.texts.invariant.low c.pages-all.ensures.end c.in-Some.ensures.0
    c.in-Some.ensures.2

pub texts-smaller : goal.texts-smaller
texts-smaller c =
    let within = text_within c.args.trust.now c.args.stretch.now c.texts.from c.pages-all.result.end
    c.in-Some.pages c.texts.invariant.low c.pages-all.ensures.end c.in-Some.ensures.0
    c.in-Some.ensures.2 in
    omega (
      arith,
      within.high,
      c.pages-all.ensures.end,
      c.in-Some.ensures.0,
      c.in-Some.ensures.2.some,
    )

pub texts-preserved : goal.texts-preserved
texts-preserved c =
    let s = c.args.stretch.now in
    let trust = c.args.trust.now in
    let end = c.pages-all.result.end in
    let pages = c.in-Some.pages in
    let is = c.in-Some.ensures.2 in
    let within = text_within trust s c.texts.from end pages c.texts.invariant.low
    c.pages-all.ensures.end c.in-Some.ensures.0 is in
    let laid = text_lays trust s end pages c.in_ok-bytes.bytes.items c.requires.paged is
    c.in_ok-bytes.ensures in
    record {
      low = omega (arith, within.low, is.some);
      high = omega (arith, within.high, c.pages-all.ensures.end);
      lays = rw c.in_ok-push.ensures.items
          (lays_next c.args.stretches.now.items (text_of trust (stretch_code s))
          (is_text_below trust end) c.texts.from c.texts.stretches.items pages _
          (text_stands trust s end c.requires.paged c.pages-all.ensures.end) c.texts.invariant.lays
          c.in-Some.ensures.0 c.in-Some.ensures.1 is refl laid);
    }

pub returns : goal.returns
returns c =
    let s = c.args.stretch.now in
    let trust = c.args.trust.now in
    let end = c.pages-all.result.end in
    let lays = c.texts.invariant.lays in
    record {
      same = lays_ends c.args.stretches.now.items (text_of trust (stretch_code s))
          (is_text_below trust end) c.texts.from c.texts.stretches.items
          (text_stands trust s end c.requires.paged c.pages-all.ensures.end)
          lays c.in_default.ensures;
      apart = lays.apart;
      within = λ k d lt. omega
          (arith, lays.before k d lt, c.texts.invariant.high, c.pages-all.ensures.end);
    }

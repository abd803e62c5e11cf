use Rattle.std.proofs.Common.{◌≡◌, ◌-◌, List, [], length, get_or, drop, sum_by, ap, sym, refl, ◌∙◌}
use Rattle.std.proofs.Common.{arith}
use Rattle.std.proofs.Math.Seq.{drop-length}
use Rattle.erim_defs.specs.declared.segment.Segment.{Segment}
use Rattle.erim_defs.specs.Machine.Pages.{RightsMap, ByteMap}
use Rattle.erim_defs.specs.Machine.Count.{mapped_pages}
use Rattle.erim_defs.specs.Inspection.Image.{loaded_byte, page_count, segments, touches}
use Rattle.erim_defs.specs.Machine.Start.{asked_of, byte_in}
use Rattle.erim_defs.proofs.CountLemmas.{mapped_none}
use Rattle.erim_process.specs.ImagePages.{bytes_over, page_rights, rights_over, segment_rights}
use Rattle.erim_process.proofs.SegmentLemmas.{apart_from, bytes_empty, bytes_from_next}
use Rattle.erim_process.proofs.SegmentLemmas.{count_from_next, count_from_within, rights_empty}
use Rattle.erim_process.proofs.SegmentLemmas.{rights_from_next, unmapped_apart}
use Rattle.erim_process.proofs.image_pages.load_segments.Goals as goal

pub loop-left-init : goal.loop-left-init
loop-left-init g c =
    let ss = c.segments-segments.result.now in
    let none : [] ≡ drop (length ss) ss = sym (drop-length ss) in
    record {
      within = omega arith;
      rights = c.requires.empty
          ∙ rights_empty c.args.image.now
          ∙ ap (λ (ts : List Segment). segment_rights ts c.args.image.now) none;
      bytes = c.requires.zero ∙ bytes_empty c.args.image.now ∙ ap (byte_in c.args.image.now) none;
      frames = refl;
      count = ap mapped_pages c.requires.empty ∙ mapped_none ∙ ap (sum_by page_count) none;
    }

pub load_segment-requires-clause-unmapped : goal.load_segment-requires-clause-unmapped
load_segment-requires-clause-unmapped g c q here =
    let d : Segment = record { vaddr = 0; offset = 0; filesz = 0; memsz = 0; flags = 0 } in
    let ss = c.segments-segments.result.now in
    let n = c.loop-left.left in
    ap (λ (m : RightsMap). m q) c.loop-left.invariant.rights
    ∙ unmapped_apart (get_or ss (n - 1) d) (drop n ss) c.args.image.now q
    (apart_from ss n d c.loop-left-test.true c.loop-left.invariant.within
    c.segments-segments.ensures.apart) here

pub load_segment-requires-clause-room : goal.load_segment-requires-clause-room
load_segment-requires-clause-room g c =
    let d : Segment = record { vaddr = 0; offset = 0; filesz = 0; memsz = 0; flags = 0 } in
    let ss = c.segments-segments.result.now in
    let n = c.loop-left.left in
    let more = count_from_next ss n d c.loop-left-test.true c.loop-left.invariant.within in
    let within = count_from_within ss (n - 1) in
    let all : sum_by page_count ss ≡ sum_by page_count (segments c.args.image.now) =
    ap (sum_by page_count) c.segments-segments.ensures.list in
    omega (arith, more, within, all)

pub loop-left-preserved : goal.loop-left-preserved
loop-left-preserved g c =
    let d : Segment = record { vaddr = 0; offset = 0; filesz = 0; memsz = 0; flags = 0 } in
    let ss = c.segments-segments.result.now in
    let n = c.loop-left.left in
    let s = get_or ss (n - 1) d in
    let more = count_from_next ss n d c.loop-left-test.true c.loop-left.invariant.within in
    record {
      within = omega arith;
      rights = c.load_segment.ensures.rights
          ∙ ap (λ (m : RightsMap). rights_over (touches s)
          (page_rights c.args.image.now
          (asked_of s)) m) c.loop-left.invariant.rights
          ∙ rights_from_next ss n d c.args.image.now c.loop-left-test.true
          c.loop-left.invariant.within;
      bytes = c.load_segment.ensures.bytes
          ∙ ap (λ (b : ByteMap). bytes_over (touches s) (loaded_byte c.args.image.now s) b)
          c.loop-left.invariant.bytes
          ∙ bytes_from_next c.args.image.now ss n d c.loop-left-test.true
          c.loop-left.invariant.within;
      frames = c.load_segment.ensures.frames ∙ c.loop-left.invariant.frames;
      count = omega (arith, more);
    }

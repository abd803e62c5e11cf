use Rattle.std.proofs.Common.{◌≡◌, ◌≤◌, ◌<◌, ◌+◌, ◌/◌, ap, ◌∙◌, arith}
use Rattle.erim_defs.specs.Machine.Pages.{ByteMap, with_value_at}
use Rattle.erim_defs.specs.Inspection.Image.{loaded_byte}
use Rattle.erim_process.proofs.LoadLemmas.{below_next, loaded_inside}
use Rattle.erim_process.proofs.image_pages.page.fill_page.Goals as goal

pub loop-addr-preserved : goal.loop-addr-preserved
loop-addr-preserved g c =
    let addr = c.loop-addr.addr in
    let s = c.args.segment.now in
    let loaded : ByteMap = loaded_byte c.args.bytes.now s in
    let low : s.vaddr ≤ addr = omega arith in
    let high : addr < s.vaddr + s.filesz = omega arith in
    let here : addr / 4096 ≡ c.args.page = omega arith in
    record {
      bytes = c.write_byte.ensures.bytes
          ∙ ap (with_value_at (g.P.Memory.bytes c.loop-addr.pages) addr)
          (loaded_inside c.args.bytes.now s addr low high)
          ∙ ap (λ (b : ByteMap). with_value_at b addr (loaded addr)) c.loop-addr.invariant.bytes
          ∙ below_next c.args.page addr loaded (g.P.Memory.bytes c.args.pages.now) here;
      seen = c.write_byte.ensures.seen ∙ c.loop-addr.invariant.seen;
      frames = c.write_byte.ensures.frames ∙ c.loop-addr.invariant.frames;
    }

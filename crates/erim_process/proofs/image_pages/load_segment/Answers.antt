use Rattle.std.proofs.Common.{ℕ, ◌≡◌, ◌≤◌, ◌<◌, Bool, Some, ap, ◌∙◌, arith, eqb}
use Rattle.erim_defs.specs.declared.machine.Rights.{Rights}
use Rattle.erim_defs.specs.Machine.Pages.{RightsMap, ByteMap, with_value_at}
use Rattle.erim_defs.specs.Inspection.Image.{first_page, end_page, loaded_byte, touches}
use Rattle.erim_defs.specs.Machine.Start.{asked_of}
use Rattle.erim_defs.specs.Machine.Access.{rights_in}
use Rattle.erim_process.specs.ImagePages.{page_rights, rights_over, bytes_over}
use Rattle.erim_process.proofs.LoadLemmas.{unmapped_next, rights_next, bytes_next, touches_page}
use Rattle.erim_process.proofs.LoadLemmas.{between_touches}
use Rattle.erim_process.proofs.image_pages.load_segment.Goals as goal

pub load_page-requires-clause-unmapped : goal.load_page-requires-clause-unmapped
load_page-requires-clause-unmapped g c =
    let s = c.args.segment.now in
    let page = c.loop-page.page in
    let new : ℕ → Rights = page_rights c.args.image.now (asked_of s) in
    let low : first_page s ≤ page = omega arith in
    let high : page < end_page s = omega arith in
    unmapped_next (touches s) (first_page s) page new (rights_in (g.P.Memory.seen c.args.pages.now))
    (rights_in (g.P.Memory.seen c.loop-page.pages))
    c.loop-page.invariant.rights c.requires.unmapped
    (touches_page s page c.requires.placed.some low high)

pub loop-page-preserved : goal.loop-page-preserved
loop-page-preserved g c =
    let s = c.args.segment.now in
    let page = c.loop-page.page in
    let rights : ℕ → ℕ → Rights =
    page_rights c.args.image.now in
    let loaded : ByteMap = loaded_byte c.args.image.now s in
    let low : first_page s ≤ page = omega arith in
    record {
      rights = c.load_page.ensures.rights
          ∙ ap (λ (r : Rights). with_value_at (rights_in (g.P.Memory.seen c.loop-page.pages)) page
          (Some r)) (c.page_rights-rights.ensures.value
          ∙ ap (λ (n : ℕ). rights n page) c.asked_of-asked.ensures.value)
          ∙ ap (λ (m : RightsMap). with_value_at m page (Some (rights (asked_of s) page)))
          c.loop-page.invariant.rights
          ∙ rights_next (first_page s) page (rights (asked_of s))
          (rights_in (g.P.Memory.seen c.args.pages.now)) low;
      bytes = rw c.bytes.ensures.bytes at c.load_page.ensures.bytes
          ∙ ap (λ (b : ByteMap). bytes_over (λ q. eqb q page) loaded b) c.loop-page.invariant.bytes
          ∙ bytes_next (first_page s) page loaded (g.P.Memory.bytes c.args.pages.now) low;
      frames = c.load_page.ensures.frames ∙ c.loop-page.invariant.frames;
      count = omega arith;
    }

pub returns-clause-rights : goal.returns-clause-rights
returns-clause-rights g c =
    let s = c.args.segment.now in
    let new : ℕ → Rights = page_rights c.args.image.now (asked_of s) in
    let end : c.loop-page.page ≡ end_page s = omega arith in
    c.loop-page.invariant.rights
    ∙ ap (λ (t : ℕ → Bool). rights_over t new (rights_in (g.P.Memory.seen c.args.pages.now)))
    (between_touches s c.loop-page.page c.requires.placed.some end)

use Rattle.std.proofs.Common.{◌≡◌, ℕ, ◌+◌, ◌≤◌, ◌<◌, ◌^◌, None, Some, ap, ◌∙◌, arith}
use Rattle.erim_defs.specs.declared.machine.Rights.{Rights}
use Rattle.erim_defs.specs.Machine.Pages.{RightsMap, with_value_at}
use Rattle.erim_defs.specs.Machine.Count.{mapped_pages}
use Rattle.erim_defs.specs.Machine.Start.{unpublished_rights, is_stack}
use Rattle.erim_defs.proofs.CountLemmas.{mapped_more}
use Rattle.erim_defs.specs.Machine.Access.{rights_in}
use Rattle.erim_process.specs.ImagePages.{is_between, rights_over}
use Rattle.erim_process.proofs.LoadLemmas.{rights_next, stack_test, unmapped_next, zeroed_kept}
use Rattle.erim_process.proofs.image_pages.map_stack.Goals as goal

pub map_zero-requires-clause-unmapped : goal.map_zero-requires-clause-unmapped
map_zero-requires-clause-unmapped g c =
    let low : 0x7FFE0 ≤ c.loop-page.page = omega arith in
    let high : c.loop-page.page < 0x7FFF0 = omega arith in
    unmapped_next is_stack 0x7FFE0 c.loop-page.page (λ _. unpublished_rights 3 0)
    (rights_in (g.P.Memory.seen c.args.pages.now))
    (rights_in (g.P.Memory.seen c.loop-page.pages))
    c.loop-page.invariant.rights c.requires.unmapped (stack_test c.loop-page.page low high)

pub loop-page-preserved : goal.loop-page-preserved
loop-page-preserved g c =
    let page = c.loop-page.page in
    let now = rights_in (g.P.Memory.seen c.loop-page.pages) in
    let old = rights_in (g.P.Memory.seen c.args.pages.now) in
    let low : 0x7FFE0 ≤ page = omega arith in
    let high : page < 0x7FFF0 = omega arith in
    let small : page < 2 ^ 35 = omega arith in
    let none : now page ≡ None =
    unmapped_next is_stack 0x7FFE0 page (λ _. unpublished_rights 3 0) old now
    c.loop-page.invariant.rights c.requires.unmapped (stack_test page low high) in
    let rights : rights_in (g.P.Memory.seen c.map_zero.new.self)
    ≡ with_value_at now page (Some c.unpublished_rights.result) =
    ap rights_in c.map_zero.ensures.seen in
    let more : mapped_pages (rights_in (g.P.Memory.seen c.map_zero.new.self))
    ≡ mapped_pages now + 1 =
    ap mapped_pages rights ∙ mapped_more now page c.unpublished_rights.result small none in
    record {
      rights = rights
          ∙ ap (λ (r : Rights). with_value_at now page (Some r)) c.unpublished_rights.ensures
          ∙ ap (λ (m : RightsMap). with_value_at m page (Some (unpublished_rights 3 0)))
          c.loop-page.invariant.rights
          ∙ rights_next 0x7FFE0 page (λ _. unpublished_rights 3 0) old low;
      bytes = c.map_zero.ensures.bytes
          ∙ zeroed_kept (g.P.Memory.bytes c.loop-page.pages) page
          (λ a e. g.met.P.Pages.zeros c.loop-page.pages a (ap now e ∙ none))
          ∙ c.loop-page.invariant.bytes;
      frames = c.map_zero.ensures.frames ∙ c.loop-page.invariant.frames;
      count = omega (arith, more);
    }

pub returns-clause-rights : goal.returns-clause-rights
returns-clause-rights g c =
    let end : c.loop-page.page ≡ 0x7FFF0 = omega arith in
    c.loop-page.invariant.rights
    ∙ ap (λ (n : ℕ). rights_over (is_between 0x7FFE0 n) (λ _. unpublished_rights 3 0)
    (rights_in (g.P.Memory.seen c.args.pages.now))) end

use Rattle.std.proofs.Common.{arith, ◌∙◌}
use Rattle.erim_defs.proofs.PlaceLemmas.{few_pages}
use Rattle.elf_image.proofs.image.Image.pages.Goals as goal

pub page_sum-requires : goal.page_sum-requires
page_sum-requires c =
    let few = few_pages _ _ c.self.invariant.accepted (c.deref.ensures.value
    ∙ c.self.invariant.list_is) in
    omega (arith, few)

pub overflow_cast-result : goal.overflow_cast-result
overflow_cast-result c =
    let few = few_pages _ _ c.self.invariant.accepted (c.deref.ensures.value
    ∙ c.self.invariant.list_is) in
    omega (arith, few)

pub returns-clause-few : goal.returns-clause-few
returns-clause-few c =
    let few = few_pages _ _ c.self.invariant.accepted (c.deref.ensures.value
    ∙ c.self.invariant.list_is) in
    let sum = c.page_sum.ensures in
    omega (arith, few, sum)

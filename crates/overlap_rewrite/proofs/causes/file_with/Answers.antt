use Rattle.std.proofs.Common.{◌∙◌, sym}
use Rattle.overlap_rewrite.proofs.CauseLemmas.{when_full, when_made}
use Rattle.overlap_rewrite.proofs.causes.file_with.Goals as goal

pub returns-then-branch : goal.returns-then-branch
returns-then-branch c =
    when_full c.args.image.now c.as_slice.result.now c.args.layout.now.copies.items
    (c.as_slice.ensures.value ∙ c.requires.bytes)
    (sym c.in_ok-is_full.ensures ∙ c.if-branch.true)

pub returns-then-branch-2 : goal.returns-then-branch-2
returns-then-branch-2 c =
    when_made c.args.image.now c.as_slice.result.now c.as_slice-2.result.now c.new_base.result
    c.args.layout.now.copies.items c.in_ok-is_bad.field-0
    (c.as_slice.ensures.value ∙ c.requires.bytes)
    (sym c.in_ok-is_full.ensures ∙ c.if-branch.false) c.new_base.ensures.base
    (c.as_slice-2.ensures.value ∙ c.in_ok-file.ensures) c.in_ok-is_bad.ensures
    ∙ c.if-branch-2.true

pub returns : goal.returns
returns c = (
  when_made c.args.image.now c.as_slice.result.now c.as_slice-2.result.now c.new_base.result
      c.args.layout.now.copies.items c.in_ok-is_bad.field-0
      (c.as_slice.ensures.value ∙ c.requires.bytes)
      (sym c.in_ok-is_full.ensures ∙ c.if-branch.false) c.new_base.ensures.base
      (c.as_slice-2.ensures.value ∙ c.in_ok-file.ensures) c.in_ok-is_bad.ensures
      ∙ c.if-branch-2.false,
  rw (← c.new_base.ensures.base) c.in_ok-file.ensures,
)

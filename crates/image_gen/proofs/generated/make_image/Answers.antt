use Rattle.std.proofs.Common.{◌≡◌, length, ap, ◌∙◌, arith}
use Rattle.erim_defs.specs.Output.GeneratedImage.{generated_image}
use Rattle.image_gen.proofs.GeneratedLemmas.{code_length, text_length}
use Rattle.image_gen.proofs.generated.make_image.Goals as goal

pub lay_image-requires-clause-bytes : goal.lay_image-requires-clause-bytes
lay_image-requires-clause-bytes c =
    let code : length c.in_ok-code.code.items ≡ 85 =
    ap length c.in_ok-code.ensures ∙ code_length c.args.threads c.args.rounds in
    let text : length c.page.result.bytes.items ≡ 107 =
    rw c.page.ensures (ap length c.in_ok-text.ensures ∙ text_length) in
    let plain : length c.page-2.result.bytes.items ≡ 0 =
    rw (c.page-2.ensures, c.new.ensures.items) (omega arith) in
    let trusted : length c.page-3.result.bytes.items ≡ 0 =
    rw (c.page-3.ensures, c.new-2.ensures.items) (omega arith) in
    omega arith

pub returns : goal.returns
unfolding generated_image
returns c =
    let size : c.len.result ≡ 85 =
    c.len.ensures ∙ c.in_ok-code.code.ok.0 ∙ ap length c.in_ok-code.ensures
    ∙ code_length c.args.threads c.args.rounds in
    rw (
      c.page.ensures,
      c.page-2.ensures,
      c.page-3.ensures,
      c.page_mark.ensures,
      c.page_mark-2.ensures,
      c.entry.ensures,
      c.entry-2.ensures,
      c.in_ok-text.ensures,
      c.in_ok-code.ensures,
      c.new.ensures.items,
      c.new-2.ensures.items,
      size,
    ) at c.lay_image.ensures

use Rattle.std.proofs.Common.{refl}
use Rattle.erim_defs.specs.Output.GeneratedImage.{generated_code}
use Rattle.image_gen.proofs.generated.code.Goals as goal

pub returns : goal.returns
unfolding generated_code
returns c =
    rw (
      c.in_ok-extend_from_slice-3.ensures.items,
      c.in_ok-push_with_number-3.ensures,
      c.in_ok-extend_from_slice-2.ensures.items,
      c.in_ok-push_with_number-2.ensures,
      c.in_ok-extend_from_slice.ensures.items,
      c.in_ok-push_with_number.ensures,
      c.new-code.ensures.items,
    ) refl

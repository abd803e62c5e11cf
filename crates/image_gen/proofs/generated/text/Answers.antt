use Rattle.std.proofs.Common.{[], refl}
use Rattle.erim_defs.specs.Inspection.Check.{check_of}
use Rattle.erim_defs.specs.Inspection.Gate.{gate_in, gate_out}
use Rattle.erim_defs.specs.Inspection.Trust.{TrustValue, plain_trust}
use Rattle.erim_defs.specs.Output.GeneratedImage.{generated_text}
use Rattle.image_gen.proofs.generated.text.Goals as goal

pub returns : goal.returns
unfolding generated_text gate_in gate_out check_of
returns c =
    let no_trust : TrustValue = plain_trust [] [] in
    rw (
      c.in_ok-extend_from_slice-5.ensures.items,
      c.in_ok-extend_from_slice-4.ensures.items,
      c.in_ok-extend_from_slice-3.ensures.items,
      c.in_ok-extend_from_slice-2.ensures.items,
      c.in_ok-extend_from_slice.ensures.items,
      c.in_ok-text.ensures.items,
      c.gate_in.ensures,
      c.gate_out.ensures,
    ) refl

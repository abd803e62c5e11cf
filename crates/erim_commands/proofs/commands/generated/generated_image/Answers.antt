use Rattle.std.proofs.Common.{◌≡◌, ◌∙◌, List, ℕ, None, sym, subst}
use Rattle.erim_defs.specs.Inspection.Image.{first_fault}
use Rattle.erim_defs.specs.Output.GeneratedImage.{seed_image, seed_rounds, seed_threads}
use Rattle.erim_commands.proofs.commands.generated.generated_image.Goals as goal

pub unreachable-requires : goal.unreachable-requires
unfolding seed_image
unreachable-requires c =
    let same : c.as_slice.result.now ≡ seed_image c.args.seed =
    c.as_slice.ensures.value ∙ c.in_ok-bytes.ensures in
    let P : List ℕ → Type 0 = λ bytes. first_fault bytes ≡ None in
    c.in_default.not-Memory (c.in-Err.ensures.accepted (subst P (sym same)
    (c.generated_startable.ensures.accepted (seed_threads c.args.seed)
    (seed_rounds c.args.seed))))

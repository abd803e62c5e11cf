use Rattle.std.proofs.Common.{◌≡◌, ◌⊎◌, ◌∙◌, List, ℕ, Some, None, sym, subst, inl, inr}
use Rattle.erim_defs.specs.declared.limits.TheConstants.{USUAL_FRAMES, USUAL_STEPS}
use Rattle.erim_defs.specs.declared.start_fault.StartFault.{StartFault}
use Rattle.erim_defs.specs.declared.start_fault.StartFault.TheVariants.{Memory}
use Rattle.erim_defs.specs.Machine.StartFaults.{start_fault}
use Rattle.erim_defs.specs.Output.GeneratedImage.{seed_image}
use Rattle.erim_commands.specs.Commands.{run_setup}
use Rattle.erim_commands.proofs.ReplayLemmas.{StartableLaw, seed_startable}
use Rattle.erim_commands.proofs.commands.generated.generated_run.Goals as goal

-- no generated image has a cause that keeps it from starting
no_cause : (seed : ℕ) (image : List ℕ) (fault : StartFault) → StartableLaw
    → image ≡ seed_image seed → (fault ≡ Memory → ⊥)
    → (fault ≡ Memory) ⊎ (start_fault (run_setup image USUAL_STEPS USUAL_FRAMES) ≡ Some fault) → ⊥
no_cause seed image fault startable same other (inl memory) = other memory
no_cause seed image fault startable same other (inr some) =
    let P : List ℕ → Type 0 = λ i. start_fault (run_setup i USUAL_STEPS USUAL_FRAMES) ≡ None in
    let none : start_fault (run_setup image USUAL_STEPS USUAL_FRAMES) ≡ None =
    subst P (sym same) (seed_startable seed startable) in
    let bad : None ≡ Some fault = sym none ∙ some in
    cc

pub unreachable-requires : goal.unreachable-requires
unreachable-requires g c =
    no_cause c.args.seed c.in_ok-generated_image.field-0 c.in-Err.fault
    c.generated_startable.ensures.startable c.in_ok-generated_image.ensures
    c.in_default.not-Memory c.in-Err.ensures.refused

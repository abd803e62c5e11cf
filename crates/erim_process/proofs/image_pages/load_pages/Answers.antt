use Rattle.std.proofs.Common.{ap, ◌∙◌}
use Rattle.erim_defs.specs.Machine.Pages.{RightsMap}
use Rattle.erim_defs.specs.Inspection.Image.{segments}
use Rattle.erim_defs.specs.Machine.Start.{unpublished_rights, is_stack}
use Rattle.erim_defs.proofs.ImageLemmas.{placed_in_user}
use Rattle.erim_process.specs.ImagePages.{rights_from, rights_over}
use Rattle.erim_process.proofs.SegmentLemmas.{unmapped_stack}
use Rattle.erim_process.proofs.image_pages.load_pages.Goals as goal

pub map_stack-requires-clause-unmapped : goal.map_stack-requires-clause-unmapped
map_stack-requires-clause-unmapped g c q stack =
    ap (λ (m : RightsMap). m q) c.load_segments.ensures.rights
    ∙ unmapped_stack (segments c.args.image.now) c.args.image.now q
    (λ k d l. placed_in_user _ _ (c.load_segments.ensures.placed k d l)) stack

pub returns-clause-rights : goal.returns-clause-rights
unfolding rights_from
returns-clause-rights g c =
    c.map_stack.ensures.rights
    ∙ ap (λ (m : RightsMap). rights_over is_stack (λ _. unpublished_rights 3 0) m)
    c.load_segments.ensures.rights

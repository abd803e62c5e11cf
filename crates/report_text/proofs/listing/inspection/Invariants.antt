use Rattle.std.proofs.Common.{◌-◌, ◌^◌}
use Rattle.std.specs.String.{string_bytes}
use Rattle.erim_defs.specs.Inspection.Image.{image_code, image_trust}
use Rattle.report_text.proofs.InspectLemmas.{TellsBelow}
use Rattle.report_text.proofs.listing.inspection.Given as goal

abbrev pub invariant-walk : goal.invariant-walk
invariant-walk l = TellsBelow (image_trust l.image) (image_code l.image) l.from
    (string_bytes l.text) l.count

abbrev pub decreases-walk : goal.decreases-walk
decreases-walk l = 2 ^ 47 - l.from

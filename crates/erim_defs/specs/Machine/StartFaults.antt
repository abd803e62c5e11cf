-- What keeps an image from starting, in its order. Own.
use Rattle.std.specs.Prelude.{nat_lt, Bool, Option, Some, None, if◌then◌else◌}
use Rattle.erim_defs.specs.declared.found.Found.{Found}
use Rattle.erim_defs.specs.Inspection.Code.{or_else}
use Rattle.erim_defs.specs.Machine.State.{Setup}
use Rattle.erim_defs.specs.Machine.Start.{trusted_unsafe, frames_needed}
use Rattle.erim_defs.specs.declared.start_fault.StartFault.{StartFault}
use Rattle.erim_defs.specs.declared.start_fault.StartFault.TheVariants.{TrustedUnsafe}
use Rattle.erim_defs.specs.declared.start_fault.StartFault.TheVariants.{TooFewFrames}

abbrev pub if_trusted : Option Found → Option StartFault
if_trusted None = None
if_trusted (Some found) = Some (TrustedUnsafe found)

abbrev pub start_if : Bool → StartFault → Option StartFault
start_if test fault = if test then Some fault else None

unfoldable pub start_fault : Setup → Option StartFault
start_fault setup =
    or_else (if_trusted (trusted_unsafe setup.image))
    (start_if (nat_lt setup.frames (frames_needed setup.image))
    (TooFewFrames (frames_needed setup.image)))

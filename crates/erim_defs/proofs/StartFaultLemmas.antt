-- Nothing keeps a setup that can be started from starting.
use Rattle.std.proofs.Common.{◌≡◌, ℕ, List, None, false, refl, ltb}
use Rattle.std.proofs.lemmas.Bool.{le-ltb}
use Rattle.erim_defs.specs.Inspection.Image.{image_trust, trusted_code}
use Rattle.erim_defs.specs.Inspection.Unsafe.{top, first_unsafe}
use Rattle.erim_defs.specs.Inspection.Safe.{unsafe_at}
use Rattle.erim_defs.specs.Machine.Isolation.{IsSafeCode, IsStartable}
use Rattle.erim_defs.specs.Machine.Start.{frames_needed, trusted_unsafe}
use Rattle.erim_defs.specs.Machine.StartFaults.{start_fault}
use Rattle.erim_defs.specs.Machine.State.{Setup}
use Rattle.erim_defs.proofs.UnsafeLemmas.{none_first_below}

safe_trusted : (image : List ℕ) → IsSafeCode (image_trust image) (trusted_code image)
    → trusted_unsafe image ≡ None
unfolding trusted_unsafe first_unsafe
safe_trusted image safe =
    none_first_below top (unsafe_at (image_trust image) (trusted_code image)) (λ a low. safe a)

-- nothing keeps a setup that can be started from starting
pub start_none : (setup : Setup) → IsStartable setup → start_fault setup ≡ None
unfolding start_fault
start_none setup h =
    let room : ltb setup.frames (frames_needed setup.image) ≡ false =
    le-ltb setup.frames (frames_needed setup.image) h.room in
    rw (safe_trusted setup.image h.safe, room) refl

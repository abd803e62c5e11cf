-- A law of places: each region of an accepted image lies in the file, and has room for a jump.
use Rattle.std.specs.Prelude.{◌≡◌, ℕ, List, Ok}
use Rattle.std.specs.List.{All}
use Rattle.erim_defs.specs.Inspection.Image.{IsAccepted}
use Rattle.erim_defs.specs.Rewriting.Sites.{Region}
use Rattle.erim_defs.specs.Rewriting.NewFile.{HasPlace}
use Rattle.erim_defs.specs.Rewriting.Rewriting.{image_regions}

abbrev pub PlaceLaw : Type 0
PlaceLaw =
    (bytes : List ℕ) (regions : List Region) → IsAccepted bytes → image_regions bytes ≡ Ok regions
    → All (HasPlace bytes) regions

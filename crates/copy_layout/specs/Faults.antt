-- What a fault of a layout says. Own.
use Rattle.std.specs.Prelude.{◌≡◌, List, Result, Err}
use Rattle.erim_defs.specs.Rewriting.Sites.{Region}
use Rattle.erim_defs.specs.Rewriting.Layout.{Copy}
use Rattle.erim_defs.specs.Rewriting.Rewriting.{first_at}
use Rattle.copy_layout.specs.declared.layout.LayoutFault.{LayoutFault}
use Rattle.copy_layout.specs.declared.layout.LayoutFault.TheVariants.{NoRoom, Memory}

-- it names the first region that has no copy, or memory ran out
abbrev pub RoomFaultIs : Result (List Copy) Region → LayoutFault → Type 0
RoomFaultIs laid (NoRoom at) = (r : Region) × (laid ≡ Err r) × (at ≡ first_at r.elements)
RoomFaultIs laid Memory = Unit {0}

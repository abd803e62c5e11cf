-- Where the instructions of a check begin in it, in order.
use Rattle.std.specs.Prelude.{ℕ, List, [], ◌∷◌}
use Rattle.erim_defs.specs.declared.found.SeqKind.{SeqKind}
use Rattle.erim_defs.specs.Inspection.Check.{Compare, Branch, Number, Leave, position_start}
use Rattle.erim_defs.specs.Inspection.Trust.{TrustValue}

abbrev pub starts_of : TrustValue → SeqKind → ℕ → List ℕ
starts_of trust kind next =
    position_start trust kind next Compare ∷ position_start trust kind next Branch
    ∷ position_start trust kind next Number ∷ position_start trust kind next Leave ∷ []

use Rattle.std.proofs.Common.{◌≡◌, drop}
use Rattle.erim_defs.specs.Inspection.Trust.{key_beside, spans}
use Rattle.erim_defs.proofs.trust.key_beside.Given as goal

abbrev pub invariant-loop-place : goal.invariant-loop-place
invariant-loop-place l =
    key_beside (spans l.addr) (drop l.place l.ranges) (drop l.place l.keys)
    ≡ key_beside (spans l.addr) l.ranges l.keys

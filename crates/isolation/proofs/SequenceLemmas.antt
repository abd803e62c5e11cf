-- Safe code: what lost bytes can't make, and the check of each of its occurrences.
use Rattle.std.proofs.Common.{◌≡◌, ◌+◌, Some, None, true, false}
use Rattle.erim_defs.specs.declared.found.Found.{Found}
use Rattle.erim_defs.specs.Inspection.Code.{Code}
use Rattle.erim_defs.specs.Inspection.Occurrence.{occurrence_at}
use Rattle.erim_defs.specs.Inspection.Safe.{fits, opens_gate, is_safe, unless_safe, unsafe_at}
use Rattle.erim_defs.specs.Machine.Isolation.{IsSafeCode}
use Rattle.isolation.proofs.LossLemmas.{cond_safe}
use Rattle.erim_defs.specs.Inspection.Check.{check_of}
use Rattle.erim_defs.specs.Inspection.Trust.{TrustValue}

-- a safe code holds the check of each of its occurrences after which no entry stands
pub check_fits : (trust : TrustValue) (c : Code) (o : Found) → IsSafeCode trust c
    → occurrence_at c o.at ≡ Some o → opens_gate trust o.kind (o.at + o.len) ≡ false
    → fits c (o.at + o.len) (check_of trust o.kind (o.at + o.len)) ≡ true
unfolding unsafe_at
check_fits trust c o h e gate =
    let k : unless_safe trust c (Some o) ≡ None = rw e at (h o.at) in
    rw gate at (cond_safe (is_safe trust c o) o k)

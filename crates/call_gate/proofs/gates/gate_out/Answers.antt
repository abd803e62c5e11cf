use Rattle.std.proofs.Common.{refl}
use Rattle.erim_defs.specs.Inspection.Check.{check_of}
use Rattle.erim_defs.specs.Inspection.Gate.{gate_out}
use Rattle.call_gate.proofs.gates.gate_out.Goals as goal

pub returns : goal.returns
unfolding gate_out check_of
returns c = refl

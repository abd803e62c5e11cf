use Rattle.std.proofs.Common.{[], ◌+◌, ◌-◌, ◌^◌, ◌≤◌}
use Rattle.erim_defs.specs.Inspection.Image.{code_of}
use Rattle.image_code.proofs.CodeLemmas.{LaysTo}
use Rattle.image_code.proofs.code.stretches_of.Given as goal

abbrev pub invariant-laying : goal.invariant-laying
invariant-laying l = record {
  user : l.from ≤ 2 ^ 35 + 1;
  lays : LaysTo [] (code_of l.bytes l.segments) l.from l.stretches.items;
}

abbrev pub decreases-laying : goal.decreases-laying
decreases-laying l = 2 ^ 35 + 1 - l.from

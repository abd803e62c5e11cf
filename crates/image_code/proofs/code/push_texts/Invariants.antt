use Rattle.std.proofs.Common.{◌*◌, ◌+◌, ◌-◌, ◌≤◌}
use Rattle.image_code.specs.Stretches.{stretch_code}
use Rattle.image_code.proofs.CodeLemmas.{LaysTo}
use Rattle.erim_defs.specs.Inspection.Image.{text_of}
use Rattle.image_code.proofs.code.push_texts.Given as goal

abbrev pub invariant-texts : goal.invariant-texts
invariant-texts l = record {
  low : l.stretch.base ≤ 4096 * l.from;
  high : l.from ≤ l.all.end + 1;
  lays : LaysTo l.initial.stretches.items (text_of l.trust (stretch_code l.stretch)) l.from
      l.stretches.items;
}

abbrev pub decreases-texts : goal.decreases-texts
decreases-texts l = l.all.end + 1 - l.from

use Rattle.std.proofs.Common.{arith, sym, ◌∙◌, ap, ◌≡◌, ◌+◌, Some, inl, inr}
use Rattle.std.proofs.lemmas.Bool.{cases_lt}
use Rattle.erim_defs.specs.Inspection.Code.{laid_at}
use Rattle.erim_defs.specs.Inspection.Occurrence.{occurrence_at}
use Rattle.erim_defs.proofs.CodeLemmas.{laid_at_past}
use Rattle.erim_defs.proofs.OccurrenceLemmas.{occurrence_place, occurrence_absent}
use Rattle.sequence_scan.proofs.scan.next_sequence.Goals as goal

pub returns-in-Some : goal.returns-in-Some
returns-in-Some c =
    let here : occurrence_at (laid_at c.args.base c.args.code.now)
    (c.args.base + c.loop-place.place) ≡ Some c.in-Some.found = sym c.in-Some.ensures in
    let place : c.in-Some.found.at ≡ c.args.base + c.loop-place.place =
    occurrence_place _ _ _ here in (
      omega arith,
      ap (occurrence_at (laid_at c.args.base c.args.code.now)) place
          ∙ here,
      λ a low high. c.loop-place.invariant a low (omega arith),
    )

pub returns : goal.returns
returns c = λ a low. elim (cases_lt a (c.args.base + c.loop-place.place)) [
  | inl before ↦ c.loop-place.invariant a low before
  | inr past ↦ occurrence_absent _ a (laid_at_past c.args.base a c.args.code.now (omega arith))
]

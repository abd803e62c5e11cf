use Rattle.std.proofs.Common.{sym, ◌∙◌}
use Rattle.std.proofs.lemmas.Bool.{not-false, not-true}
use Rattle.elf_image.proofs.RowLemmas.{trust_records, trust_version}
use Rattle.elf_image.proofs.image_reader.check_trust.Goals as goal

pub returns-then-not-seen : goal.returns-then-not-seen
returns-then-not-seen c =
    trust_version _ _ c.in_ok-seen.ensures.0 c.in_ok-seen.ensures.1 (not-true _ c.if-not-seen.true)

pub records_fault-requires-clause-records : goal.records_fault-requires-clause-records
records_fault-requires-clause-records c = c.records.ensures.within _ c.in_ok-seen.ensures.2

pub returns-in-Some : goal.returns-in-Some
returns-in-Some c = trust_records _ _ _ c.in_ok-seen.ensures.0 c.in_ok-seen.ensures.1
    (not-false _ c.if-not-seen.false) (c.records.ensures.same _)
    c.records.ensures.domains ∙ sym c.in-Some.ensures

pub returns : goal.returns
returns c = (
  trust_records _ _ _ c.in_ok-seen.ensures.0 c.in_ok-seen.ensures.1
      (not-false _ c.if-not-seen.false) (c.records.ensures.same _)
      c.records.ensures.domains ∙ sym c.in_default.ensures,
  record { seen_is = c.in_ok-seen.ensures.1; items = c.in_ok-seen.ensures.2 },
)

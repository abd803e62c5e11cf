use Rattle.std.proofs.Common.{refl, sym, ◌∙◌}
use Rattle.elf_image.proofs.RowLemmas.{later_entry, later_function}
use Rattle.elf_image.proofs.image_reader.check_later.Goals as goal

pub returns-in-Some-function_fault : goal.returns-in-Some-function_fault
returns-in-Some-function_fault c =
    later_function _ _ _ _ (sym c.in_default.ensures) (sym c.in_default-segment_fault.ensures)
    c.in_ok-seen.ensures.0 c.in_ok-seen.ensures.1 (c.functions.ensures.same _)
    (sym c.in-Some-function_fault.ensures)

pub returns-then-not-is_held : goal.returns-then-not-is_held
returns-then-not-is_held c =
    later_entry _ _ _ (sym c.in_default.ensures) (sym c.in_default-segment_fault.ensures)
    c.in_ok-seen.ensures.0 c.in_ok-seen.ensures.1 (c.functions.ensures.same _)
    (sym c.in_default-function_fault.ensures) ∙ rw (
      ← c.entry_point.ensures,
      ← c.is_held.ensures,
      c.if-not-is_held.true,
    ) refl

pub returns : goal.returns
returns c = (
  later_entry _ _ _ (sym c.in_default.ensures) (sym c.in_default-segment_fault.ensures)
      c.in_ok-seen.ensures.0 c.in_ok-seen.ensures.1 (c.functions.ensures.same _)
      (sym c.in_default-function_fault.ensures) ∙ rw (
        ← c.entry_point.ensures,
        ← c.is_held.ensures,
        c.if-not-is_held.false,
      ) refl,
  c.in_ok-seen.ensures.1,
)

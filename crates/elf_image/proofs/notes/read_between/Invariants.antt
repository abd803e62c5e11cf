use Rattle.std.proofs.Common.{◌+◌, ◌-◌}
use Rattle.elf_image.specs.Notes.{IsReadTo}
use Rattle.elf_image.proofs.notes.read_between.Given as goal

abbrev pub invariant-loop-step : goal.invariant-loop-step
invariant-loop-step l = IsReadTo l.bytes (l.start + l.size) (l.size - l._step) l.place l.seen l.size
    l.start l.fn.before

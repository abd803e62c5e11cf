use Rattle.elf_image.specs.Notes.{IsReadBefore}
use Rattle.elf_image.proofs.notes.read_notes.Given as goal

abbrev pub invariant-loop-index : goal.invariant-loop-index
invariant-loop-index l = IsReadBefore l.bytes l.index l.seen

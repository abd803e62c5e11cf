use Rattle.erim_defs.proofs.PlaceLemmas.{accepted_segments}
use Rattle.elf_image.proofs.image.Image.segments.Goals as goal

pub returns-clause-placed : goal.returns-clause-placed
returns-clause-placed c =
    rw (c.as_slice.ensures.value, c.self.invariant.list_is, ← c.self.view_is)
    (accepted_segments _ c.self.invariant.accepted).placed

pub returns-clause-apart : goal.returns-clause-apart
returns-clause-apart c =
    rw (c.as_slice.ensures.value, c.self.invariant.list_is)
    (accepted_segments _ c.self.invariant.accepted).apart

pub returns-clause-few : goal.returns-clause-few
returns-clause-few c = rw (c.as_slice.ensures.value, c.self.invariant.list_is)
    (accepted_segments _ c.self.invariant.accepted).few

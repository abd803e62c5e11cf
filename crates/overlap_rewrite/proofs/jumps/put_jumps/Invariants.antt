use Rattle.std.proofs.Common.{◌≡◌, drop, length}
use Rattle.erim_defs.specs.Inspection.Image.{segments}
use Rattle.erim_defs.specs.Rewriting.NewFile.{with_jumps}
use Rattle.overlap_rewrite.proofs.jumps.put_jumps.Given as goal

-- the copies that are left, over the file so far, give the whole
abbrev pub invariant-loop-copy : goal.invariant-loop-copy
invariant-loop-copy l = record {
  put : with_jumps (segments l.image) (drop l.copy-index l.copies) l.file
      ≡ with_jumps (segments l.image) l.copies l.initial.file;
  length : length l.file ≡ length l.image;
}

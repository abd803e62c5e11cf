use Rattle.std.proofs.Common.{◌+◌, length}
use Rattle.erim_defs.specs.Rewriting.Copies.{copy_parts}
use Rattle.erim_defs.specs.Rewriting.Sites.{region_end, region_insns}
use Rattle.run_copies.proofs.CopyLemmas.{Pushed}
use Rattle.run_copies.proofs.parts.push_parts.Given as goal

abbrev pub invariant-loop-insn : goal.invariant-loop-insn
invariant-loop-insn l =
    Pushed l.region.elements (region_end l.region) (region_insns l.region)
    (copy_parts l.region (l.first + length l.fn.bytes.items)) l.first l.fn.bytes.items l.insn-index
    l.bytes.items

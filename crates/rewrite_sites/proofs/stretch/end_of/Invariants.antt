use Rattle.std.proofs.Common.{◌≡◌, ◌<◌, ◌^◌, drop}
use Rattle.erim_defs.specs.Rewriting.Sites.{end_of}
use Rattle.rewrite_sites.proofs.StretchLemmas.{end_or}
use Rattle.rewrite_sites.proofs.stretch.end_of.Given as goal

abbrev pub invariant-loop-insn : goal.invariant-loop-insn
invariant-loop-insn l = record {
  told : end_or l.end (drop l.insn-index l.insns) ≡ end_of l.insns;
  low : l.end < 2 ^ 48;
}

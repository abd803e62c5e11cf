use Rattle.std.proofs.Common.{◌∙◌, arith}
use Rattle.map_calls.proofs.MmapLemmas.{mmap_fixed, mmap_free, mmap_no_flags, mmap_no_length}
use Rattle.map_calls.proofs.MmapLemmas.{mmap_no_prot}
use Rattle.map_calls.proofs.mapping.mmap.Goals.{then-len-eq0-via-then-len-eq0}
use Rattle.map_calls.proofs.mapping.mmap.Goals.{then-len-eq0-via-else-len-eq0+then-prot-gt7}
use Rattle.map_calls.proofs.mapping.mmap.Goals as goal

pub returns-then-len-eq0-clause-answer : goal.returns-then-len-eq0-clause-answer
returns-then-len-eq0-clause-answer g c = λ s t sees p.
    elim c.then-len-eq0.branch [
      | then-len-eq0-via-then-len-eq0 w ↦ mmap_no_length s t c.args.addr c.args.len c.args.prot
          c.args.flags w.if-len-eq0.true
      | then-len-eq0-via-else-len-eq0+then-prot-gt7 w ↦ mmap_no_prot s t c.args.addr c.args.len
          c.args.prot c.args.flags w.if-prot-gt7.true
    ]

pub returns-in-50-clause-answer : goal.returns-in-50-clause-answer
returns-in-50-clause-answer g c = λ s t sees p.
    mmap_fixed s t c.args.addr c.args.len c.args.prot c.args.flags c.if-len-eq0.false
    c.if-prot-gt7.false c.in-50.is
    ∙ c.map_at.ensures.answer s t sees p

pub returns-in-34-clause-answer : goal.returns-in-34-clause-answer
returns-in-34-clause-answer g c = λ s t sees p.
    mmap_free s t c.args.addr c.args.len c.args.prot c.args.flags c.div_ceil.result
    c.if-len-eq0.false c.if-prot-gt7.false c.in-34.is c.div_ceil.ensures
    ∙ c.map_anywhere.ensures.answer s t sees.rights sees.bytes sees.frames

pub returns-in_default-clause-answer : goal.returns-in_default-clause-answer
returns-in_default-clause-answer g c = λ s t sees p.
    mmap_no_flags s t c.args.addr c.args.len c.args.prot c.args.flags (omega arith) (omega arith)

use Rattle.x86_encode.proofs.ReadBack.{canonical_back}
use Rattle.x86_encode.proofs.encoding.encode.Goals as goal

pub returns-clause-read : goal.returns-clause-read
returns-clause-read c = canonical_back c.args.insn.now c.requires

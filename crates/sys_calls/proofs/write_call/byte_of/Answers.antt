use Rattle.std.proofs.Common.{sym}
use Rattle.sys_calls.proofs.WriteLemmas.{only_byte}
use Rattle.sys_calls.proofs.write_call.byte_of.Goals as goal

pub returns-in-Ok-clause-value : goal.returns-in-Ok-clause-value
returns-in-Ok-clause-value g c =
    sym (only_byte (g.P.Memory.bytes c.args.pages.now) c.args.addr c.in-Ok.value
    c.in-Ok.ensures.low)

use Rattle.std.proofs.Common.{◌≡◌}
use Rattle.erim_defs.specs.Encoding.Decoding.{least_modrm, row_at}
use Rattle.x86_decode.proofs.body.modrm_stop.Given as goal

abbrev pub invariant-loop-m : goal.invariant-loop-m
invariant-loop-m l = l.stop ≡ least_modrm (row_at l.lead l.escape l.op) l.m

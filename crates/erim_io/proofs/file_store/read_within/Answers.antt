-- What is within the limit is all that the reader gave.
use Rattle.std.proofs.Common.{◌≡◌, ◌+◌, ◌-◌, ◌^◌, ◌<◌, ◌*◌, ◌∙◌, ap, length, min}
use native.Mathlib.Omega.{arith}
use Rattle.erim_io.proofs.Known.{all-of-fewer}
use Rattle.erim_io.proofs.file_store.read_within.Goals as goal

pub returns-in-Ok-2-clause-whole : goal.returns-in-Ok-2-clause-whole
returns-in-Ok-2-clause-whole g c =
    let same : length c.as_slice.result.now ≡ length c.read_to_end.new.buf.items =
    ap length c.as_slice.ensures.value in
    let small : length c.as_slice.result.now * 1 < 9223372036854775808 = c.as_slice.type_inv.1 in
    let limit : c.take.result.limit ≡ min (c.args.limit + 1) (2 ^ 64 - 1) =
    c.take.ensures.limit ∙ c.saturating_add.ensures in
    let below : length c.read_to_end.new.buf.items < c.take.result.limit =
    omega (arith, same, small, limit, c.if-as_slice-limit.false) in
    let is = all-of-fewer (g.F.Read.remaining c.take.result.inner) _ _ _ c.in-Ok-2.ensures.bytes
    c.requires below in
    rw c.take.ensures.inner at is

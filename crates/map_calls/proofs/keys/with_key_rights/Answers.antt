use Rattle.std.proofs.Common.{arith}
use Rattle.map_calls.proofs.KeyLemmas.{rights_written, rights_low}
use Rattle.map_calls.proofs.keys.with_key_rights.Goals as goal

pub overflow_add-result-2 : goal.overflow_add-result-2
overflow_add-result-2 c =
    let e = rights_written c.args.pkru c.args.key c.args.bits c.from-old.result
    c.key_place-place.result c.from.result c.from-old.ensures c.key_place-place.ensures
    c.from.ensures in
    let l = rights_low c.args.key c.args.pkru c.args.bits c.requires.key (omega arith)
    c.requires.bits in
    rw e (omega (arith, l))

pub overflow_cast-result : goal.overflow_cast-result
overflow_cast-result c =
    let e = rights_written c.args.pkru c.args.key c.args.bits c.from-old.result
    c.key_place-place.result c.from.result c.from-old.ensures c.key_place-place.ensures
    c.from.ensures in
    let l = rights_low c.args.key c.args.pkru c.args.bits c.requires.key (omega arith)
    c.requires.bits in
    rw e (omega (arith, l))

pub returns : goal.returns
returns c =
    rights_written c.args.pkru c.args.key c.args.bits c.from-old.result c.key_place-place.result
    c.from.result c.from-old.ensures c.key_place-place.ensures c.from.ensures

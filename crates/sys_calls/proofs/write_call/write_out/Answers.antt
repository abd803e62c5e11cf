use Rattle.std.proofs.Common.{arith, ◌∙◌, ◌++◌, sym, ap}
use Rattle.erim_defs.specs.Machine.Pages.{bytes_of_range}
use Rattle.erim_defs.specs.Machine.Access.{rights_in}
use Rattle.sys_calls.proofs.CallLemmas.{bad_file, unreadable, no_room, written}
use Rattle.sys_calls.proofs.write_call.write_out.Goals as goal

pub returns-then-fd-ne-STANDARD_OUTPUT-clause-answer :
    goal.returns-then-fd-ne-STANDARD_OUTPUT-clause-answer
returns-then-fd-ne-STANDARD_OUTPUT-clause-answer g c = λ s t er eb eo ep.
    bad_file s t c.args.fd c.args.buf c.args.n c.if-fd-ne-STANDARD_OUTPUT.true

pub returns-then-not-are_readable-clause-answer : goal.returns-then-not-are_readable-clause-answer
returns-then-not-are_readable-clause-answer g c = λ s t er eb eo ep.
    unreadable s t (rights_in (g.P.Memory.seen c.args.pages.now)) c.args.pkru c.args.fd c.args.buf
    c.args.n er ep c.if-fd-ne-STANDARD_OUTPUT.false
    (sym c.if-not-are_readable.true ∙ c.are_readable.ensures.answer)

pub returns-then-n-room-clause-answer : goal.returns-then-n-room-clause-answer
returns-then-n-room-clause-answer g c = λ s t er eb eo ep.
    let more = c.if-n-room.true in
    let room = c.room.ensures in
    no_room s t (rights_in (g.P.Memory.seen c.args.pages.now)) c.args.output.now c.args.pkru
    c.args.fd c.args.buf c.args.n er eo ep c.if-fd-ne-STANDARD_OUTPUT.false
    (sym c.if-not-are_readable.false ∙ c.are_readable.ensures.answer)
    (omega (arith, more, room))

pub returns-clause-answer : goal.returns-clause-answer
returns-clause-answer g c = λ s t er eb eo ep.
    let fits = c.if-n-room.false in
    let room = c.room.ensures in
    written s t (rights_in (g.P.Memory.seen c.args.pages.now)) (g.P.Memory.bytes c.args.pages.now)
    c.args.output.now c.copy_bytes.new.output c.args.pkru c.args.fd c.args.buf c.args.n er eb eo ep
    c.if-fd-ne-STANDARD_OUTPUT.false
    (sym c.if-not-are_readable.false ∙ c.are_readable.ensures.answer)
    (omega (arith, fits, room))
    (c.copy_bytes.ensures.output
    ∙ ap (λ b. c.args.output.now ++ bytes_of_range b c.args.buf c.args.n)
    c.are_readable.ensures.bytes)

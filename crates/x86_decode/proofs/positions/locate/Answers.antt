use Rattle.std.proofs.Common.{◌∙◌, ap, sym, arith}
use Rattle.x86_decode.specs.PartPlaces.{part_places}
use Rattle.encoding_laws.proofs.EncodingLemmas.{window_bytes}
use Rattle.x86_decode.proofs.LayoutLemmas.{read_so, read_none}
use Rattle.x86_decode.proofs.positions.locate.Goals as goal

pub overflow_sub-len : goal.overflow_sub-len
overflow_sub-len c =
    (read_so c.args.bytes.now c.window_of-window.result.now c.in-Ok.rest.now
    (c.in-Ok.insn, c.in-Ok.sizes.skip, c.in-Ok.sizes.disp, c.in-Ok.sizes.imm)
    c.window_of-window.ensures
    (window_bytes c.args.bytes.now c.window_of-window.result.now c.window_of-window.ensures
    (λ i. omega (arith, c.type_inv.bytes i))) c.in-Ok.ensures).0

pub part_places-requires : goal.part_places-requires
part_places-requires c =
    let k = (read_so c.args.bytes.now c.window_of-window.result.now c.in-Ok.rest.now
    (c.in-Ok.insn, c.in-Ok.sizes.skip, c.in-Ok.sizes.disp, c.in-Ok.sizes.imm)
    c.window_of-window.ensures
    (window_bytes c.args.bytes.now c.window_of-window.result.now c.window_of-window.ensures
    (λ i. omega (arith, c.type_inv.bytes i))) c.in-Ok.ensures).1 in
    omega (arith, k.room)

pub returns-in-Ok : goal.returns-in-Ok
returns-in-Ok c =
    let k = (read_so c.args.bytes.now c.window_of-window.result.now c.in-Ok.rest.now
    (c.in-Ok.insn, c.in-Ok.sizes.skip, c.in-Ok.sizes.disp, c.in-Ok.sizes.imm)
    c.window_of-window.ensures
    (window_bytes c.args.bytes.now c.window_of-window.result.now c.window_of-window.ensures
    (λ i. omega (arith, c.type_inv.bytes i))) c.in-Ok.ensures).1 in
    record {
      encoding = k.encoding;
      rest = k.rest;
      sizes = (c.in-Ok.insn, c.in-Ok.sizes.skip, c.in-Ok.sizes.disp, c.in-Ok.sizes.imm);
      format = k.format;
      long = k.long;
      parts = k.parts;
      is = c.part_places.ensures
          ∙ ap (λ n. part_places n c.in-Ok.insn c.in-Ok.sizes.disp c.in-Ok.sizes.imm) (sym k.size);
    }

pub returns-in-Err : goal.returns-in-Err
returns-in-Err c =
    read_none c.args.bytes.now c.window_of-window.result.now c.in-Err.field-0
    c.window_of-window.ensures
    (window_bytes c.args.bytes.now c.window_of-window.result.now c.window_of-window.ensures
    (λ i. omega (arith, c.type_inv.bytes i))) c.in-Err.ensures

use Rattle.std.proofs.Common.{◌∙◌, refl, sym, ap, Global}
use Rattle.std.specs.Prelude.{codes}
use Rattle.erim_defs.specs.Inspection.Image.{first_fault}
use Rattle.erim_defs.specs.Output.Texts.{error_line}
use Rattle.erim_commands.specs.Commands.{image_format}
use Rattle.erim_commands.specs.Delivery.{world}
use Rattle.erim_commands.specs.Replies.{image_fault}
use Rattle.erim_commands.proofs.DeliveryLemmas.{file_faulty, file_passes, file_unloaded}
use Rattle.erim_commands.proofs.DeliveryLemmas.{read_accepted, read_faulty}
use Rattle.erim_commands.proofs.loads.load_image.Goals as goal

pub returns-in-Err : goal.returns-in-Err
unfolding error_line
returns-in-Err g c =
    let old = world g.S.Store g.K.Sink c.args.store.now c.args.out.now in
    let new = world g.S.Store g.K.Sink c.load.new.store c.load.new.out in
    λ next. file_unloaded Global image_format c.args.name.now next old new c.in-Err.status
    (c.in-Err.ensures (codes "image too large") refl)

pub returns-in-Ok-read_image : goal.returns-in-Ok-read_image
unfolding error_line
returns-in-Ok-read_image g c =
    let old = world g.S.Store g.K.Sink c.args.store.now c.args.out.now in
    let new = world g.S.Store g.K.Sink c.load.new.store c.load.new.out in
    let loaded = c.in-Ok.ensures (codes "image too large") refl in
    let slice = c.as_slice.result.now in
    let read = read_accepted slice c.in-Ok-read_image.image (first_fault slice)
    c.in-Ok-read_image.ensures.faulty c.in-Ok-read_image.ensures.accepted in
    file_passes image_format c.args.name.now c.in-Ok.bytes.items c.in-Ok-read_image.image old new
    loaded.0 loaded.1 loaded.2 loaded.3
    (ap image_fault (sym c.as_slice.ensures.value) ∙ read.0) (read.1
    ∙ c.as_slice.ensures.value)

pub returns : goal.returns
unfolding error_line
returns g c =
    let old = world g.S.Store g.K.Sink c.args.store.now c.args.out.now in
    let mid = world g.S.Store g.K.Sink c.load.new.store c.load.new.out in
    let new = world g.S.Store g.K.Sink c.conclude.new.store c.conclude.new.out in
    let loaded = c.in-Ok.ensures (codes "image too large") refl in
    let slice = c.as_slice.result.now in
    let read = c.in-Err-read_image.ensures in
    file_faulty image_format c.args.name.now c.in-Ok.bytes.items slice old mid new
    c.image_fault_reply.result
    c.conclude.result loaded.0 loaded.1 loaded.2 loaded.3 c.as_slice.ensures.value
    (λ next. read_faulty c.in-Err-read_image.fault (first_fault slice) next
    c.image_fault_reply.result read.faulty read.accepted c.image_fault_reply.ensures)
    c.conclude.ensures

use Rattle.std.proofs.Common.{List, ℕ}
use Rattle.erim_defs.specs.Output.Report.{report}
use Rattle.erim_commands.specs.Commands.{image_format, run_setup, started_run}
use Rattle.erim_commands.specs.Delivery.{world}
use Rattle.erim_commands.specs.Plans.{Plan}
use Rattle.erim_commands.specs.Replies.{Answer}
use Rattle.erim_commands.proofs.DeliveryLemmas.{file_next}
use Rattle.erim_commands.proofs.commands.run.run.Goals as goal

-- what follows the image
abbrev next : List ℕ → ℕ → ℕ → ℕ → List ℕ → Plan Answer
next journal workers steps frames bytes =
    started_run report journal workers (run_setup bytes steps frames)

pub returns-in-Ok : goal.returns-in-Ok
returns-in-Ok g c =
    let old = world g.S.Store g.K.Sink c.args.store.now c.args.out.now in
    let mid = world g.S.Store g.K.Sink c.load_image.new.store c.load_image.new.out in
    let new = world g.S.Store g.K.Sink c.conclude.new.store c.conclude.new.out in
    let after = next c.args.journal.now c.args.workers c.args.steps c.args.frames in
    file_next image_format c.args.image.now after c.in-Ok.image old mid new
    c.conclude.result c.in-Ok.ensures
    (c.conclude.ensures (after c.in-Ok.image) c.started_reply-reply.ensures)

pub returns-in-Err : goal.returns-in-Err
returns-in-Err g c =
    c.in-Err.ensures (next c.args.journal.now c.args.workers c.args.steps c.args.frames)

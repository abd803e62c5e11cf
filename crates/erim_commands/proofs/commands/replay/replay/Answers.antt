use Rattle.std.proofs.Common.{List, ℕ}
use Rattle.erim_defs.specs.Output.Journal.{JournalValue}
use Rattle.erim_commands.specs.Commands.{image_format, journal_format, replay_setup, started_replay}
use Rattle.erim_commands.specs.Commands.{with_file}
use Rattle.erim_commands.specs.Delivery.{world}
use Rattle.erim_commands.specs.Plans.{Plan}
use Rattle.erim_commands.specs.Replies.{Answer}
use Rattle.erim_commands.proofs.DeliveryLemmas.{file_next}
use Rattle.erim_commands.proofs.commands.replay.replay.Goals as goal

-- what follows the journal
abbrev last : List ℕ → JournalValue → Plan Answer
last bytes j = started_replay (replay_setup bytes j) j.entries

-- what follows the image
abbrev next : List ℕ → List ℕ → Plan Answer
next journal bytes = with_file journal_format journal (last bytes)

pub returns-in-Err : goal.returns-in-Err
returns-in-Err g c = c.in-Err.ensures (next c.args.journal.now)

pub returns-in-Err-load_journal : goal.returns-in-Err-load_journal
returns-in-Err-load_journal g c =
    let old = world g.S.Store g.K.Sink c.args.store.now c.args.out.now in
    let mid = world g.S.Store g.K.Sink c.load_image.new.store c.load_image.new.out in
    let new = world g.S.Store g.K.Sink c.load_journal.new.store c.load_journal.new.out in
    file_next image_format c.args.image.now (next c.args.journal.now) c.in-Ok.image old mid new
    c.in-Err-load_journal.status c.in-Ok.ensures
    (c.in-Err-load_journal.ensures.passes (last c.in-Ok.image))

pub returns-in-Ok-load_journal : goal.returns-in-Ok-load_journal
returns-in-Ok-load_journal g c =
    let old = world g.S.Store g.K.Sink c.args.store.now c.args.out.now in
    let mid = world g.S.Store g.K.Sink c.load_image.new.store c.load_image.new.out in
    let low = world g.S.Store g.K.Sink c.load_journal.new.store c.load_journal.new.out in
    let new = world g.S.Store g.K.Sink c.conclude.new.store c.conclude.new.out in
    let j = c.in-Ok-load_journal.journal in
    file_next image_format c.args.image.now (next c.args.journal.now) c.in-Ok.image old mid new
    c.conclude.result c.in-Ok.ensures
    (file_next journal_format c.args.journal.now (last c.in-Ok.image) j mid low new
    c.conclude.result c.in-Ok-load_journal.ensures.passes
    (c.conclude.ensures (last c.in-Ok.image j) c.started_reply.ensures))

use Rattle.std.proofs.Common.{◌∙◌, refl, sym, ap, Global}
use Rattle.std.specs.Prelude.{codes}
use Rattle.erim_defs.specs.Output.Journal.{journal_fault, journal_of}
use Rattle.erim_defs.specs.Output.Texts.{error_line}
use Rattle.erim_commands.specs.Commands.{journal_format}
use Rattle.erim_commands.specs.Delivery.{world}
use Rattle.erim_commands.specs.Replies.{journal_refusal}
use Rattle.erim_commands.proofs.DeliveryLemmas.{file_faulty, file_passes, file_unloaded}
use Rattle.erim_commands.proofs.DeliveryLemmas.{journal_accepted, journal_faulty}
use Rattle.erim_commands.proofs.loads.load_journal.Goals as goal

pub returns-in-Err-clause-passes : goal.returns-in-Err-clause-passes
unfolding error_line
returns-in-Err-clause-passes g c =
    let old = world g.S.Store g.K.Sink c.args.store.now c.args.out.now in
    let new = world g.S.Store g.K.Sink c.load.new.store c.load.new.out in
    λ next. file_unloaded Global journal_format c.args.name.now next old new c.in-Err.status
    (c.in-Err.ensures (codes "journal too large") refl)

pub returns-in-Ok-read_journal-clause-passes : goal.returns-in-Ok-read_journal-clause-passes
unfolding error_line
returns-in-Ok-read_journal-clause-passes g c =
    let old = world g.S.Store g.K.Sink c.args.store.now c.args.out.now in
    let new = world g.S.Store g.K.Sink c.load.new.store c.load.new.out in
    let loaded = c.in-Ok.ensures (codes "journal too large") refl in
    let read = c.in-Ok-read_journal.ensures.exact in
    let same = c.as_slice.ensures.value in
    file_passes journal_format c.args.name.now c.in-Ok.bytes.items _ old new loaded.0 loaded.1
    loaded.2 loaded.3
    (ap journal_refusal (sym same) ∙ journal_accepted c.as_slice.result.now read.0)
    (read.1 ∙ ap journal_of same)

pub returns-clause-passes : goal.returns-clause-passes
unfolding error_line
returns-clause-passes g c =
    let old = world g.S.Store g.K.Sink c.args.store.now c.args.out.now in
    let mid = world g.S.Store g.K.Sink c.load.new.store c.load.new.out in
    let new = world g.S.Store g.K.Sink c.conclude.new.store c.conclude.new.out in
    let loaded = c.in-Ok.ensures (codes "journal too large") refl in
    let slice = c.as_slice.result.now in
    file_faulty journal_format c.args.name.now c.in-Ok.bytes.items slice old mid new
    c.journal_fault_reply.result c.conclude.result loaded.0 loaded.1 loaded.2 loaded.3
    c.as_slice.ensures.value
    (λ next. journal_faulty c.in-Err-read_journal.fault (journal_fault slice) next
    c.journal_fault_reply.result c.in-Err-read_journal.ensures.exact c.journal_fault_reply.ensures)
    c.conclude.ensures

use Rattle.image_gen.proofs.WholeLemmas.{trust_whole}
use Rattle.image_gen.proofs.note.push_trust.Goals as goal

pub returns : goal.returns
returns c = trust_whole c.args.bytes.now.items c.push_note_head.new.bytes.items _ c.args.marks.now
    c.loop-mark.mark-index c.if-is_empty.ensures c.loop-mark-test.false
    c.in_ok-push_note_head.ensures c.loop-mark.invariant

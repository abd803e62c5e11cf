use Rattle.image_gen.proofs.WholeLemmas.{functions_whole}
use Rattle.image_gen.proofs.note.push_functions.Goals as goal

pub returns : goal.returns
returns c = functions_whole c.args.bytes.now.items c.push_note_head.new.bytes.items _
    c.args.functions.now c.loop-function.function-index c.if-is_empty.ensures
    c.loop-function-test.false c.in_ok-push_note_head.ensures c.loop-function.invariant

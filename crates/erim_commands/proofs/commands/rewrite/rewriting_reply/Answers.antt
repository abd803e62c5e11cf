use Rattle.erim_commands.proofs.RewriteLemmas.{reply_for_rewriting, reply_for_rewrite_fault}
use Rattle.erim_commands.proofs.commands.rewrite.rewriting_reply.Goals as goal

pub returns-in-Ok : goal.returns-in-Ok
returns-in-Ok c =
    reply_for_rewriting c.args.image.now c.args.out.now c.in-Ok.new c.rewrite_reply.result
    c.in-Ok.ensures.exact c.rewrite_reply.ensures

pub returns-in-Err : goal.returns-in-Err
returns-in-Err c =
    reply_for_rewrite_fault c.args.image.now c.args.out.now c.in-Err.fault
    c.rewrite_refusal_reply.result
    c.in-Err.ensures.exact c.rewrite_refusal_reply.ensures

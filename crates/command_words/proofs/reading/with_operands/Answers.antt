use Rattle.command_words.specs.Clap.{operand_rule}
use Rattle.command_words.proofs.BuildLemmas.{grows}
use Rattle.command_words.proofs.reading.with_operands.Goals as goal

pub loop-slot-preserved : goal.loop-slot-preserved
loop-slot-preserved c =
    grows operand_rule c.args.operands.now c.loop-slot.slot-index _ _ _ _ _ c.loop-slot-test.true
    c.loop-slot.invariant c.operand.ensures.rule
    (c.in_ok-command.ensures.shape c.operand.ensures.local)

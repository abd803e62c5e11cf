use Rattle.command_words.specs.Clap.{option_rule}
use Rattle.command_words.proofs.BuildLemmas.{grows}
use Rattle.command_words.proofs.reading.with_options.Goals as goal

pub loop-slot-preserved : goal.loop-slot-preserved
loop-slot-preserved c =
    grows option_rule c.args.options.now c.loop-slot.slot-index _ _ _ _ _ c.loop-slot-test.true
    c.loop-slot.invariant c.option.ensures.rule
    (c.in_ok-command.ensures.shape c.option.ensures.local)

use Rattle.std.proofs.Common.{◌≡◌, map, take}
use Rattle.clap.specs.Words.{app_of}
use Rattle.command_words.specs.Clap.{slot_of, option_rule, with_rules}
use Rattle.command_words.proofs.reading.with_options.Given as goal

-- the slots so far
abbrev pub invariant-loop-slot : goal.invariant-loop-slot
invariant-loop-slot l =
    app_of l.command ≡ with_rules (app_of l.initial.command)
    (map option_rule (map slot_of (take l.slot-index l.options)))

use Rattle.std.proofs.Common.{◌≡◌, ◌∙◌, ap, map, true}
use Rattle.std.proofs.lemmas.Result.{IfOk-weaker}
use Rattle.clap.specs.Simple.{App, app_of_fields}
use Rattle.clap.specs.Words.{app_of}
use Rattle.command_words.specs.Clap.{slot_of, operand_rule, option_rule, start_app}
use Rattle.command_words.proofs.BuildLemmas.{made_is}
use Rattle.command_words.proofs.reading.command_for.Goals as goal

-- without its help
abbrev no_help : App → App
no_help a = record a { top = record a.top { disable_help_flag = true } }

-- without its help, and without the program's name among the words
abbrev bare : App → App
bare a = record a { top = record a.top { no_binary_name = true; disable_help_flag = true } }

pub returns : goal.returns
returns c =
    let begun : app_of c.disable_help_flag-command.result ≡ start_app =
    ap app_of_fields c.disable_help_flag-command.ensures
    ∙ (ap (λ (a : App). no_help a) (ap app_of_fields c.no_binary_name.ensures)
    ∙ ap bare c.new.ensures.app) in
    IfOk-weaker c.with_options.result _ _
    (λ made is.
    made_is (app_of c.disable_help_flag-command.result) (app_of c.in_ok-command.command)
    (app_of made) (map operand_rule (map slot_of c.args.operands.now))
    (map option_rule (map slot_of c.args.options.now)) begun c.in_ok-command.ensures is)
    c.with_options.ensures

use Rattle.std.proofs.Common.{◌∙◌, ap, Option}
use Rattle.std.specs.Option.{option_map_or}
use Rattle.erim_defs.specs.Output.WordForms.{Text}
use Rattle.erim_defs.specs.Output.Words.{number_or}
use Rattle.command_words.proofs.GetterLemmas.{first_given, number_read}
use Rattle.command_words.proofs.reading.value.Goals as goal

pub returns-in-Some : goal.returns-in-Some
returns-in-Some c given has =
    let standard = c.args.standard in
    c.unwrap_or.ensures
    ∙ (number_read c.in-Some.word.now standard c.parse.result c.parse.ensures.value.0
    ∙ ap (λ (o : Option Text). option_map_or (number_or standard) o standard)
    (c.in-Some.ensures ∙ first_given c.args.matches.now given c.args.slot.now.name.now has))

pub returns-in-None : goal.returns-in-None
returns-in-None c given has =
    let standard = c.args.standard in
    ap (λ (o : Option Text). option_map_or (number_or standard) o standard)
    (c.in-None.ensures ∙ first_given c.args.matches.now given c.args.slot.now.name.now has)

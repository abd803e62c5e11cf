use Rattle.std.proofs.Common.{◌∙◌, ap, Option, []}
use Rattle.std.specs.Option.{option_map_or}
use Rattle.erim_defs.specs.Output.WordForms.{Text}
use Rattle.command_words.proofs.GetterLemmas.{first_given}
use Rattle.command_words.proofs.reading.text.Goals as goal

pub returns-in-Some : goal.returns-in-Some
returns-in-Some c given has =
    ap (λ (o : Option Text). option_map_or (λ (word : Text). word) o [])
    (c.in-Some.ensures ∙ first_given c.args.matches.now given c.args.slot.now.name.now has)

pub returns-in-None : goal.returns-in-None
returns-in-None c given has =
    ap (λ (o : Option Text). option_map_or (λ (word : Text). word) o [])
    (c.in-None.ensures ∙ first_given c.args.matches.now given c.args.slot.now.name.now has)

use Rattle.std.proofs.Common.{refl, map}
use Rattle.std.specs.String.{string_bytes}
use Rattle.erim_defs.specs.Output.WordForms.{Given}
use Rattle.erim_defs.specs.Output.Words.{rewrite_usage}
use Rattle.command_words.specs.Clap.{HasGiven}
use Rattle.command_words.proofs.GetterLemmas.{read_none, read_some}
use Rattle.command_words.proofs.words.rewrite_of.Goals as goal

pub returns-in-Some-clause-meant : goal.returns-in-Some-clause-meant
returns-in-Some-clause-meant c =
    read_some rewrite_usage (map string_bytes c.args.words.now) c.in-Some.found _
    (rw c.in-Some.is at c.in_ok-found.ensures)
    (λ (g : Given) (has : HasGiven g c.in-Some.found).
    rw (c.text.ensures g has, c.text-in-Some.ensures g has) refl)

pub returns-in-None-clause-meant : goal.returns-in-None-clause-meant
returns-in-None-clause-meant c =
    read_none rewrite_usage (map string_bytes c.args.words.now)
    (rw c.in-None.is at c.in_ok-found.ensures)

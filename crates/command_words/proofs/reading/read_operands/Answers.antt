use Rattle.std.proofs.Common.{◌∙◌, map}
use Rattle.std.specs.String.{string_bytes}
use Rattle.clap.specs.Words.{app_of}
use Rattle.command_words.specs.Clap.{form_of}
use Rattle.command_words.proofs.OutcomeLemmas.{ok_at, err_at}
use Rattle.command_words.proofs.reading.read_operands.Goals as goal

pub returns-in-Ok : goal.returns-in-Ok
returns-in-Ok c =
    let f = form_of c.args.operands.now c.args.options.now in
    let words = map string_bytes c.args.words.now in
    ok_at f c.requires (app_of c.in_ok-command.command) c.in_ok-command.ensures
    words c.check_text.ensures c.in-Ok.matches c.in-Ok.ensures.kinds c.in-Ok.ensures.matches

pub returns : goal.returns
returns c =
    let f = form_of c.args.operands.now c.args.options.now in
    let words = map string_bytes c.args.words.now in
    err_at f c.requires (app_of c.in_ok-command.command) c.in_ok-command.ensures
    words c.check_text.ensures c.in-Err.error
    (λ e. c.in_default.not-OutOfMemory (c.kind.ensures ∙ e)) c.in-Err.ensures.kinds

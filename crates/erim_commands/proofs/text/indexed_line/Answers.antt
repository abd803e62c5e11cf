use Rattle.std.proofs.Common.{append_assoc}
use Rattle.erim_defs.specs.Output.Texts.{error_line}
use Rattle.erim_defs.proofs.ResultLemmas.{if_ok_then}
use Rattle.erim_commands.proofs.text.indexed_line.Goals as goal

pub returns : goal.returns
unfolding error_line
returns c = if_ok_then _ _ c.format.result (λ text is. rw is (simp append_assoc))
    c.format.ensures.ok

use Rattle.std.proofs.Common.{append_assoc}
use Rattle.erim_defs.proofs.ResultLemmas.{if_ok_then}
use Rattle.report_text.proofs.ends.once_text.Goals as goal

pub returns : goal.returns
returns c = if_ok_then _ _ c.format.result
    (λ text is. rw is (simp (append_assoc, c.in_ok-rip.ensures))) c.format.ensures.ok

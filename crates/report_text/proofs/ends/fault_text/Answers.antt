use Rattle.std.proofs.Common.{◌∙◌}
use Rattle.std.specs.Prelude.{codes}
use Rattle.std.specs.Fmt.{decimal}
use Rattle.erim_defs.specs.Output.Report.{cause_text}
use Rattle.erim_defs.specs.Output.Texts.{address_text}
use Rattle.erim_defs.proofs.ResultLemmas.{if_ok_then}
use Rattle.report_text.proofs.TextLemmas.{fault_joins}
use Rattle.report_text.proofs.ends.fault_text.Goals as goal

pub returns : goal.returns
returns c =
    if_ok_then _ _ c.format.result (λ text is.
    (let h = rw (c.cause_text-cause.ensures, c.in_ok-rip.ensures, c.in_ok-addr.ensures) at is in
    h ∙ fault_joins (codes "fault ") (cause_text c.args.cause) (codes " thread ")
    (decimal c.args.thread) (codes " rip ") (address_text c.args.rip) (codes " at ")
    (address_text c.args.addr)))
    c.format.ensures.ok

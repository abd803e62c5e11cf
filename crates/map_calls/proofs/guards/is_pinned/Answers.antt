use Rattle.std.proofs.Common.{◌∙◌}
use Rattle.map_calls.proofs.GuardLemmas.{one_pinned}
use Rattle.map_calls.proofs.guards.is_pinned.Goals as goal

pub returns : goal.returns
returns c = c.has_pin.ensures ∙ one_pinned c.args.threads.now c.args.page

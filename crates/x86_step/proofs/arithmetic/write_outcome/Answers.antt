use Rattle.x86_step.proofs.ExecutesLemmas.{gives_is}
use Rattle.x86_step.proofs.arithmetic.write_outcome.Goals as goal

pub returns-in-Cmp-clause-executes : goal.returns-in-Cmp-clause-executes
returns-in-Cmp-clause-executes g c =
    rw c.in-Cmp.is (gives_is g.M.Memory _ _ _ _ c.onward_with.ensures)

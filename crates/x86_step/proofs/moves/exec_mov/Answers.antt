use Rattle.erim_defs.specs.Machine.Meaning.{plan_mov}
use Rattle.x86_step.proofs.moves.exec_mov.Goals as goal

pub returns-clause-executes : goal.returns-clause-executes
unfolding plan_mov
returns-clause-executes g c =
    c.in_ok-value.ensures.gets _ _ _ _ c.write.ensures.executes

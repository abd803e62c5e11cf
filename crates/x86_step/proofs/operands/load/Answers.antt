use Rattle.x86_step.proofs.WordLemmas.{load_fits}
use Rattle.x86_step.proofs.operands.load.Goals as goal

pub returns-clause-fits : goal.returns-clause-fits
returns-clause-fits g c =
    load_fits _ (g.M.Memory.bytes c.args.memory.now) c.args.addr c.args.n c.load.result
    c.load.ensures.answer c.load.ensures.low

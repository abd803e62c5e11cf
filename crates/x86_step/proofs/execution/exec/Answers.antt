use Rattle.std.proofs.Common.{refl}
use Rattle.erim_defs.specs.Machine.Plan.{effect}
use Rattle.erim_defs.specs.Machine.Meaning.{plan}
use Rattle.x86_step.specs.Looked.{looked_addresses}
use Rattle.x86_step.proofs.execution.exec.Goals as goal

pub returns-in-Syscall-clause-answer : goal.returns-in-Syscall-clause-answer
unfolding plan effect looked_addresses
returns-in-Syscall-clause-answer g c = rw c.in-Syscall.is refl

pub returns-in-Syscall-clause-thread : goal.returns-in-Syscall-clause-thread
unfolding plan effect looked_addresses
returns-in-Syscall-clause-thread g c = rw c.in-Syscall.is refl

pub returns-in-Syscall-clause-bytes : goal.returns-in-Syscall-clause-bytes
unfolding plan effect looked_addresses
returns-in-Syscall-clause-bytes g c = rw c.in-Syscall.is refl

pub returns-in-Syscall-clause-notes : goal.returns-in-Syscall-clause-notes
unfolding plan effect looked_addresses
returns-in-Syscall-clause-notes g c =
    rw c.in-Syscall.is (record { kept = λ x e. e; noted = tt })

use Rattle.std.proofs.Common.{FitsSigned, inl, inr, rules, w32}
use Rattle.std.proofs.lemmas.Int.{to_z-of_z}
use Rattle.erim_defs.specs.Machine.Meaning.{plan}
use Rattle.x86_step.proofs.ExecutesLemmas.{gives_is, gives_plan, refuses_unless}
use Rattle.x86_step.proofs.execution.execute.Goals as goal

pub returns-in-MovWide-clause-executes : goal.returns-in-MovWide-clause-executes
unfolding plan
returns-in-MovWide-clause-executes g c =
    rw c.in-MovWide.is (gives_is g.M.Memory _ _ _ _ c.exec_mov_wide.ensures)

pub returns-in-Lea-clause-executes : goal.returns-in-Lea-clause-executes
unfolding plan
returns-in-Lea-clause-executes g c =
    rw c.in-Lea.is (gives_plan g.M.Memory _ _ _ _ c.exec_lea.ensures)

pub returns-in-Jcc-clause-executes : goal.returns-in-Jcc-clause-executes
unfolding plan
returns-in-Jcc-clause-executes g c =
    let fits : FitsSigned w32 c.in-Jcc.rel = search rules in
    rw c.in-Jcc.is (gives_plan g.M.Memory _ _ _ _ (simp to_z-of_z at c.exec_jcc.ensures))

pub returns-in-Jmp-clause-executes : goal.returns-in-Jmp-clause-executes
unfolding plan
returns-in-Jmp-clause-executes g c =
    let fits : FitsSigned w32 c.in-Jmp.rel = search rules in
    rw c.in-Jmp.is (gives_is g.M.Memory _ _ _ _ (simp to_z-of_z at c.jump.ensures))

pub returns-in-Widen-clause-executes : goal.returns-in-Widen-clause-executes
unfolding plan
returns-in-Widen-clause-executes g c =
    rw c.in-Widen.is (gives_plan g.M.Memory _ _ _ _ c.exec_widen.ensures)

pub returns-in-Spread-clause-executes : goal.returns-in-Spread-clause-executes
unfolding plan
returns-in-Spread-clause-executes g c =
    rw c.in-Spread.is (gives_plan g.M.Memory _ _ _ _ c.exec_spread.ensures)

pub returns-in-Wrpkru-clause-executes : goal.returns-in-Wrpkru-clause-executes
unfolding plan
returns-in-Wrpkru-clause-executes g c =
    rw c.in-Wrpkru.is (refuses_unless g.M.Memory _ c.exec_wrpkru.result _ _ _ _
    c.exec_wrpkru.ensures.plan c.exec_wrpkru.ensures.refused c.if_allowed.ensures)

pub returns-in-Rdpkru-clause-executes : goal.returns-in-Rdpkru-clause-executes
unfolding plan
returns-in-Rdpkru-clause-executes g c =
    rw c.in-Rdpkru.is (refuses_unless g.M.Memory _ c.exec_rdpkru.result _ _ _ _
    c.exec_rdpkru.ensures.plan c.exec_rdpkru.ensures.refused c.if_allowed-in-Rdpkru.ensures)

pub returns-in-Syscall-clause-executes : goal.returns-in-Syscall-clause-executes
unfolding plan
returns-in-Syscall-clause-executes g c =
    absurd (c.requires.here c.in-Syscall.is)

pub returns-in-Fence-clause-executes : goal.returns-in-Fence-clause-executes
unfolding plan
returns-in-Fence-clause-executes g c =
    elim c.in-Fence.is [
      | inl x ↦ rw x.1 (gives_is g.M.Memory _ _ _ _ c.onward.ensures)
      | inr e ↦ rw e (gives_is g.M.Memory _ _ _ _ c.onward.ensures)
    ]

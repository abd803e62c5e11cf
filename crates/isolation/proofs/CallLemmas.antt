-- Every system call is fine: one lemma a call.
use Rattle.std.proofs.Common.{◌≡◌, ◌+◌, ◌%◌, ◌^◌, ◌++◌, ℕ, length, false}
use Rattle.std.proofs.Common.{eqb, ltb, not, is_some, refl, subst}
use Rattle.erim_defs.specs.declared.machine.Thread.{Thread}
use Rattle.erim_defs.specs.Machine.Pages.{bytes_of_range}
use Rattle.erim_defs.specs.Machine.Access.{stop, whole}
use Rattle.erim_defs.specs.Machine.Registers.{register}
use Rattle.erim_defs.specs.Machine.State.{State}
use Rattle.erim_defs.specs.Machine.CallResult.{Change, Answer, no_change}
use Rattle.erim_defs.specs.Machine.Calls.{write_result, call_result}
use Rattle.erim_defs.specs.Machine.Isolation.{IsKept}
use Rattle.isolation.proofs.KeptLemmas.{IsFine, AllFine}
use Rattle.isolation.proofs.AnswerLemmas.{refuse_answer, answer_is, row_answer, row_here, left_fine}
use Rattle.isolation.proofs.ThreadCallLemmas.{clone_leaves, gettid_leaves, sched_yield_leaves}
use Rattle.isolation.proofs.HeapCallLemmas.{talloc_leaves, tfree_leaves}
use Rattle.isolation.proofs.MapCallLemmas.{mmap_fine, munmap_fine, mprotect_fine}
use Rattle.isolation.proofs.MapCallLemmas.{pkey_mprotect_fine, pkey_alloc_fine, pkey_free_fine}

-- write
write_fine : (N : ℕ → Type 0) (s : State) (t : Thread) (fd buf n v : ℕ) (c : Change) → IsKept s
    → write_result s t fd buf n ≡ Answer v c → IsFine N s t c
unfolding write_result
write_fine N s t fd buf n v c h e =
    let made : Change = (let x = no_change s t in
    record x { output = s.output ++ bytes_of_range s.bytes buf n }) in
    let a = refuse_answer (not (eqb (fd % 2 ^ 32) 1)) 9 v _ c e in
    let b = refuse_answer (is_some (stop (whole s.rights) false t.pkru buf n)) 14 v _ c a.1 in
    let d = refuse_answer (ltb 1048576 (length s.output + n)) 28 v (Answer n made) c b.1 in
    subst (IsFine N s t) (answer_is n v made c d.1) (left_fine N s t made h
    (record { rights = refl; bytes = refl; keys = h.keys; pkru = refl; made = λ u k. absurd cc }))

-- a row a call
pub all_fine : (N : ℕ → Type 0) → AllFine N
unfolding call_result
all_fine N s v number t c h e =
    row_answer (IsFine N s t c) (eqb (register t 0) 1) _ _ v c
    (write_fine N s t (register t 7) (register t 6) (register t 2) v c h)
    (row_answer (IsFine N s t c) (eqb (register t 0) 9) _ _ v c
    (mmap_fine N s t (register t 7) (register t 6) (register t 2) (register t 10) v c h)
    (row_answer (IsFine N s t c) (eqb (register t 0) 10) _ _ v c
    (mprotect_fine N s t (register t 7) (register t 6) (register t 2) v c h)
    (row_answer (IsFine N s t c) (eqb (register t 0) 11) _ _ v c
    (munmap_fine N s t (register t 7) (register t 6) v c h)
    (row_answer (IsFine N s t c) (eqb (register t 0) 24) _ _ v c
    (λ k. left_fine N s t c h (sched_yield_leaves s t v c h k))
    (row_here (IsFine N s t c) (eqb (register t 0) 56) _ _ v c
    (λ n k. left_fine N s t c h (clone_leaves s t (register t 7) (register t 6) v c h n k))
    (row_answer (IsFine N s t c) (eqb (register t 0) 60) _ _ v c
    (λ k. absurd cc)
    (row_answer (IsFine N s t c) (eqb (register t 0) 186) _ _ v c
    (λ k. left_fine N s t c h (gettid_leaves s number t v c h k))
    (row_answer (IsFine N s t c) (eqb (register t 0) 231) _ _ v c
    (λ k. absurd cc)
    (row_answer (IsFine N s t c) (eqb (register t 0) 329) _ _ v c
    (pkey_mprotect_fine N s t (register t 7) (register t 6) (register t 2) (register t 10) v c h)
    (row_answer (IsFine N s t c) (eqb (register t 0) 330) _ _ v c
    (pkey_alloc_fine N s t (register t 7) (register t 6) v c h)
    (row_answer (IsFine N s t c) (eqb (register t 0) 331) _ _ v c
    (pkey_free_fine N s t (register t 7) v c h)
    (row_answer (IsFine N s t c) (eqb (register t 0) 1000) _ _ v c
    (λ k. left_fine N s t c h (talloc_leaves s t (register t 7) v c h k))
    (row_answer (IsFine N s t c) (eqb (register t 0) 1001) _ _ v c
    (λ k. left_fine N s t c h (tfree_leaves s t (register t 7) v c h k))
    (λ k. absurd cc)))))))))))))) e

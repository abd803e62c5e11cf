-- The calls on the trusted heap leave the pages.
use Rattle.std.proofs.Common.{◌≡◌, ◌*◌, ℕ, Option, Some, None, length, eqb, leb, not, refl}
use Rattle.std.proofs.Common.{subst}
use Rattle.std.specs.List.{list_any}
use Rattle.erim_defs.specs.declared.machine.Thread.{Thread}
use Rattle.erim_defs.specs.Inspection.Image.{image_heaps}
use Rattle.erim_defs.specs.Machine.Domains.{opens_domain}
use Rattle.erim_defs.specs.Machine.State.{State, trust_of}
use Rattle.erim_defs.specs.Machine.CallResult.{Change, Answer, no_change}
use Rattle.erim_defs.specs.Machine.HeapCalls.{block_at, first_fit, talloc_from, talloc_result}
use Rattle.erim_defs.specs.Machine.HeapCalls.{tfree_result, unit_count, starts_at, with_block}
use Rattle.erim_defs.specs.Machine.HeapCalls.{without_block}
use Rattle.erim_defs.specs.Machine.Isolation.{IsKept}
use Rattle.isolation.proofs.AnswerLemmas.{refuse_answer, answer_is, LeavesPages}

from_leaves : (s : State) (t : Thread) (count v : ℕ) (o : Option ℕ) (c : Change) → IsKept s
    → talloc_from s t count o ≡ Answer v c → LeavesPages s t c
from_leaves s t count v None c h e = absurd cc
from_leaves s t count v (Some unit) c h e =
    let made : Change = (let x = no_change s t in
    record x { blocks = with_block (block_at unit count) s.blocks }) in
    subst (LeavesPages s t) (answer_is (16 * unit) v made c e) (record {
      rights = refl;
      bytes = refl;
      keys = h.keys;
      pkru = refl;
      made = λ u k. absurd cc;
    })

pub talloc_leaves : (s : State) (t : Thread) (len v : ℕ) (c : Change) → IsKept s
    → talloc_result s t len ≡ Answer v c → LeavesPages s t c
unfolding talloc_result
talloc_leaves s t len v c h e =
    let may = refuse_answer (not (opens_domain (trust_of s) t.pkru 1)) 1 v _ c e in
    let asked = refuse_answer (eqb len 0) 22 v _ c may.1 in
    let few = refuse_answer (leb 1024 (length s.blocks)) 12 v _ c asked.1 in
    from_leaves s t (unit_count len) v
    (first_fit (image_heaps s.setup.image) s.blocks (unit_count len)) c h few.1

pub tfree_leaves : (s : State) (t : Thread) (addr v : ℕ) (c : Change) → IsKept s
    → tfree_result s t addr ≡ Answer v c → LeavesPages s t c
unfolding tfree_result
tfree_leaves s t addr v c h e =
    let made : Change = (let x = no_change s t in
    record x { blocks = without_block addr s.blocks }) in
    let may = refuse_answer (not (opens_domain (trust_of s) t.pkru 1)) 1 v _ c e in
    let live = refuse_answer (not (list_any (starts_at addr) s.blocks)) 22 v (Answer 0 made) c
    may.1 in
    subst (LeavesPages s t) (answer_is 0 v made c live.1) (record {
      rights = refl;
      bytes = refl;
      keys = h.keys;
      pkru = refl;
      made = λ u k. absurd cc;
    })

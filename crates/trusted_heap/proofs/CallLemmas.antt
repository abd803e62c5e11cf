-- What talloc and tfree answer.
use Rattle.std.proofs.Common.{◌≡◌, ◌≢◌, ◌<◌, ◌≤◌, ◌*◌, ◌∙◌, ℕ, true, false}
use Rattle.std.proofs.Common.{List, length, refl, sym, ap, arith, ne_eqb, Option, Some, nat_le}
use Rattle.std.specs.List.{list_any}
use Rattle.std.proofs.lemmas.Bool.Decides.{nat_tests}
use Rattle.erim_defs.specs.declared.machine.Thread.{Thread}
use Rattle.erim_defs.specs.declared.trust.Span.{Span}
use Rattle.erim_defs.specs.Inspection.Image.{image_heaps}
use Rattle.erim_defs.specs.Machine.CallResult.{Refusal, Answer, no_change}
use Rattle.erim_defs.specs.Machine.HeapCalls.{block_at, first_fit, starts_at, talloc_from}
use Rattle.erim_defs.specs.Machine.HeapCalls.{talloc_result, tfree_result, unit_count}
use Rattle.erim_defs.specs.Machine.HeapCalls.{with_block, without_block}
use Rattle.erim_defs.specs.Machine.Domains.{opens_domain}
use Rattle.erim_defs.specs.Machine.State.{State, trust_of}

-- ---- talloc

pub alloc_closed : (s : State) (t : Thread) (len : ℕ) → opens_domain (trust_of s) t.pkru 1 ≡ false
    → talloc_result s t len ≡ Refusal 1
unfolding talloc_result
alloc_closed s t len o = rw o refl

pub alloc_nothing : (s : State) (t : Thread) (len : ℕ) → opens_domain (trust_of s) t.pkru 1 ≡ true
    → len ≡ 0 → talloc_result s t len ≡ Refusal 22
unfolding talloc_result
alloc_nothing s t len o e = rw (o, e) refl

pub alloc_full : (s : State) (t : Thread) (blocks : List Span) (len : ℕ)
    → opens_domain (trust_of s) t.pkru 1 ≡ true → len ≢ 0 → s.blocks ≡ blocks → 1024 ≤ length blocks
    → talloc_result s t len ≡ Refusal 12
unfolding talloc_result
alloc_full s t blocks len o n e l =
    let full : nat_le 1024 (length blocks) ≡ true = grind (arith, nat_tests) in
    rw (o, ne_eqb len 0 n, e, full) refl

pub alloc_from : (s : State) (t : Thread) (heaps blocks : List Span) (len count : ℕ)
    (found : Option ℕ) → opens_domain (trust_of s) t.pkru 1 ≡ true → len ≢ 0
    → image_heaps s.setup.image ≡ heaps → s.blocks ≡ blocks → length blocks < 1024
    → count ≡ unit_count len → found ≡ first_fit heaps blocks count
    → talloc_result s t len ≡ talloc_from s t count found
unfolding talloc_result
alloc_from s t heaps blocks len count found o n h e l c f =
    let room : nat_le 1024 (length blocks) ≡ false = grind (arith, nat_tests) in
    rw (o, ne_eqb len 0 n, ap length e, room, h, e, ← c, ← f) refl

pub alloc_some : (s : State) (t : Thread) (heaps blocks new : List Span) (len count unit : ℕ)
    → opens_domain (trust_of s) t.pkru 1 ≡ true → len ≢ 0
    → image_heaps s.setup.image ≡ heaps → s.blocks ≡ blocks → length blocks < 1024
    → count ≡ unit_count len → Some unit ≡ first_fit heaps blocks count
    → new ≡ with_block (block_at unit count) blocks
    → talloc_result s t len
    ≡ Answer (16 * unit) (let c = no_change s t in record c { blocks = new })
alloc_some s t heaps blocks new len count unit o n h e l c f w =
    alloc_from s t heaps blocks len count (Some unit) o n h e l c f
    ∙ ap (λ (bs : List Span). Answer (16 * unit) (let c = no_change s t in
    record c { blocks = bs })) (ap (with_block (block_at unit count)) e ∙ sym w)

-- ---- tfree

pub free_closed : (s : State) (t : Thread) (addr : ℕ) → opens_domain (trust_of s) t.pkru 1 ≡ false
    → tfree_result s t addr ≡ Refusal 1
unfolding tfree_result
free_closed s t addr o = rw o refl

pub free_nothing : (s : State) (t : Thread) (blocks : List Span) (addr : ℕ)
    → opens_domain (trust_of s) t.pkru 1 ≡ true → s.blocks ≡ blocks
    → list_any (starts_at addr) blocks ≡ false → tfree_result s t addr ≡ Refusal 22
unfolding tfree_result
free_nothing s t blocks addr o e none = rw (o, e, none) refl

pub free_some : (s : State) (t : Thread) (blocks new : List Span) (addr : ℕ)
    → opens_domain (trust_of s) t.pkru 1 ≡ true → s.blocks ≡ blocks
    → list_any (starts_at addr) blocks ≡ true → new ≡ without_block addr blocks
    → tfree_result s t addr
    ≡ Answer 0 (let c = no_change s t in record c { blocks = new })
unfolding tfree_result
free_some s t blocks new addr o e some w = rw (o, e, some, w) refl

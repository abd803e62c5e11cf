-- The parts of a copy follow the old program.
use Rattle.std.proofs.Common.{◌≡◌, ◌+◌, ◌&&◌, ℕ, Bool, true, false, List, [], ◌∷◌, ◌++◌, length}
use Rattle.std.proofs.Common.{Option, Some, None, refl, sym, arith, subst}
use Rattle.std.specs.Prelude.{ℤ}
use Rattle.std.specs.List.{list_any}
use Rattle.std.proofs.lemmas.List.{length-append}
use Rattle.erim_defs.specs.declared.found.Found.{Found}
use Rattle.erim_defs.specs.declared.insn.Insn.{Insn}
use Rattle.erim_defs.specs.declared.insn.Insn.TheVariants.{Jmp, Jcc}
use Rattle.erim_defs.specs.Rewriting.Standing.{Standing, insn_end, has_rip}
use Rattle.erim_defs.specs.Rewriting.Sites.{holds_core, moves_number}
use Rattle.erim_defs.specs.Rewriting.Copies.{Part, with_rel, is_jump, jumping, split, split_parts}
use Rattle.erim_defs.specs.Rewriting.Copies.{insn_parts, bytes_of, goes_on, filler, parts_from}
use Rattle.rewriting_laws.specs.ChainLaw.{IsChain, ChainLaw}

-- ---- parts of one instruction, from its address on to the address after it

-- parts that go on to others
abbrev IsLink : ℕ → ℕ → ℕ → List Part → Type 0
IsLink at home next [] = home ≡ next
IsLink at home next (p ∷ ps) = (p.at ≡ at) × (p.home ≡ home)
    × IsLink (at + length p.bytes) p.next next ps

-- a link before a chain
linked : (ps qs : List Part) (at home next end : ℕ) → IsLink at home next ps
    → IsChain (at + length (bytes_of ps)) next end qs → IsChain at home end (ps ++ qs)
linked [] qs at home next end l c = subst (λ h. IsChain at h end qs) (sym l)
    (subst (λ a. IsChain a next end qs) (omega arith) c)
linked (p ∷ ps) qs at home next end l c = longer p (ps ++ qs) at home end l.0 l.1
    (linked ps qs (at + length p.bytes) p.next next end l.2
    (subst (λ a. IsChain a next end qs) (omega (arith, length-append p.bytes (bytes_of ps))) c))
  where
    longer : (p : Part) (rs : List Part) (at home end : ℕ) → p.at ≡ at → p.home ≡ home
        → IsChain (at + length p.bytes) p.next end rs → IsChain at home end (p ∷ rs)
    longer p [] at home end a h c = absurd c
    longer p (r ∷ rs) at home end a h c = (a, h, c)

split_link : (o : Option (List ℕ × List ℕ)) (at : ℕ) (i : Standing)
    → IsLink at i.at (insn_end i) (split_parts o at i)
split_link None at i = (refl, refl, refl)
split_link (Some pair) at i = (refl, refl, (refl, refl, refl))

jump_link : (o : Option Insn) (at : ℕ) (z : ℤ) (i : Standing) → (o ≡ None → ⊥)
    → IsLink at i.at (insn_end i) (jumping o at z i)
jump_link None at z i some = absurd (some refl)
jump_link (Some insn) at z i some = (refl, refl, refl)

is_rel : (insn : Insn) (z : ℤ) → is_jump insn ≡ true → with_rel z insn ≡ None → ⊥
is_rel (Jmp rel) z h e = absurd cc
is_rel (Jcc c rel) z h e = absurd cc
is_rel other z h e = absurd cc

insn_link : (elements : List Found) (at : ℕ) (i : Standing)
    → IsLink at i.at (insn_end i) (insn_parts elements at i)
unfolding insn_parts
insn_link elements at i = by (is_jump i.insn) refl (moves_number i.insn
    && list_any (λ e. holds_core e i) elements) refl (has_rip i) refl
  where
    by : (a : Bool) → is_jump i.insn ≡ a → (b : Bool) → (moves_number i.insn
        && list_any (λ e. holds_core e i) elements) ≡ b → (c : Bool) → has_rip i ≡ c
        → IsLink at i.at (insn_end i) (insn_parts elements at i)
    by true x b y c z = rw x (jump_link _ at _ i (is_rel i.insn _ x))
    by false x true y c z = rw (x, y) (split_link (split i.insn) at i)
    by false x false y true z = rw (x, y, z) (refl, refl, refl)
    by false x false y false z = rw (x, y, z) (refl, refl, refl)

filler_link : (elements : List Found) (at : ℕ) (i : Standing)
    → IsLink at (insn_end i) (insn_end i) (filler elements at i)
filler_link elements at i = by (list_any (goes_on i) elements) refl
  where
    by : (b : Bool) → list_any (goes_on i) elements ≡ b →
        IsLink at (insn_end i) (insn_end i) (filler elements at i)
    by true e = rw e (refl, refl, refl)
    by false e = rw e refl

pub chain : ChainLaw
unfolding parts_from
chain elements [] at home end adj = (refl, sym adj, refl, refl)
chain elements (i ∷ is) at home end adj =
    let own = insn_parts elements at i in
    let gap = filler elements (at + length (bytes_of own)) i in
    let rest = parts_from elements end (at + length (bytes_of own) + length (bytes_of gap)) is in
    linked own (gap ++ rest) at home (insn_end i) end (subst (λ h. IsLink at h
    (insn_end i) own) adj.0
    (insn_link elements at i))
    (linked gap rest (at + length (bytes_of own)) (insn_end i) (insn_end i) end
    (filler_link elements (at + length (bytes_of own)) i)
    (chain elements is (at + length (bytes_of own) + length (bytes_of gap)) (insn_end i) end adj.1))

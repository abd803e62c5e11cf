-- A law of copies: their parts stand one after the other, and go on in the old program as its
-- instructions do.
use Rattle.std.specs.Prelude.{◌≡◌, ℕ, ◌+◌, List, [], ◌∷◌, length}
use Rattle.erim_defs.specs.declared.found.Found.{Found}
use Rattle.erim_defs.specs.Rewriting.Standing.{Standing, insn_end}
use Rattle.erim_defs.specs.Rewriting.Copies.{Back, Part, parts_from}

-- instructions that stand one after the other, from an address up to another
abbrev pub IsAdjacent : ℕ → ℕ → List Standing → Type 0
IsAdjacent at end [] = at ≡ end
IsAdjacent at end (i ∷ is) = (i.at ≡ at) × IsAdjacent (insn_end i) end is

-- parts from an address on, of which the first stands for an address of the old code, and the last
-- is the jump back to end
abbrev pub IsChain : ℕ → ℕ → ℕ → List Part → Type 0
IsChain at home end [] = ⊥
IsChain at home end (p ∷ []) = (p.at ≡ at) × (p.home ≡ home) × (p.kind ≡ Back) × (p.home ≡ end)
IsChain at home end (p ∷ ps) =
    (p.at ≡ at) × (p.home ≡ home) × IsChain (at + length p.bytes) p.next end ps

abbrev pub ChainLaw : Type 0
ChainLaw =
    (elements : List Found) (is : List Standing) (at home end : ℕ) → IsAdjacent home end is
    → IsChain at home end (parts_from elements end at is)

-- Where the parts of an instruction stand in its bytes: its displacement and then its number end
-- it. SDM volume 2, "Instruction format".
use Rattle.std.specs.Prelude.{◌≡◌, ℕ, ◌-◌, nat_eq, ◌≤◌, Bool, true, false, if◌then◌else◌, List}
use Rattle.std.specs.Prelude.{◌++◌, length, Option, Some, None}
use Rattle.erim_defs.specs.declared.insn.Insn.{Insn}
use Rattle.erim_defs.specs.declared.insn.Insn.TheVariants.{Jcc, Jmp, Call}
use Rattle.erim_defs.specs.Encoding.Grammar.{InsnAndSizes, HasFormat, Encodes}
use Rattle.x86_decode.specs.declared.positions.PartPlaces.{PartPlaces}
use Rattle.x86_decode.specs.declared.positions.Part.{Part}

-- len bytes, if any
abbrev pub part_at : ℕ → ℕ → Option Part
part_at at len = if nat_eq len 0 then None else Some (record { at = at; len = len })

-- a relative offset ends it
abbrev pub ends_in_relative_offset : Insn → Bool
ends_in_relative_offset (Jcc c rel) = true
ends_in_relative_offset (Jmp rel) = true
ends_in_relative_offset (Call rel) = true
ends_in_relative_offset other = false

-- of an instruction of len bytes, by the sizes of its displacement and its number
abbrev pub part_places : ℕ → Insn → ℕ → ℕ → PartPlaces
part_places len insn disp imm = record {
  displacement = part_at (len - imm - disp) disp;
  immediate = if ends_in_relative_offset insn then None else part_at (len - imm) imm;
  relative_offset = if ends_in_relative_offset insn then part_at (len - imm) imm else None;
}

-- the bytes begin with an instruction that has this layout
pub record HasPartPlaces (bytes : List ℕ) (layout : PartPlaces) : Type 0 where
  pub encoding : List ℕ
  pub rest : List ℕ
  pub sizes : InsnAndSizes
  pub format : HasFormat encoding sizes
  pub long : length encoding ≤ 15
  pub parts : bytes ≡ encoding ++ rest
  pub is : layout ≡ part_places (length encoding) sizes.0 sizes.2 sizes.3

-- the layout of the instruction that bytes begin with, or none where they begin with none
abbrev pub Locates : List ℕ → Option PartPlaces → Type 0
Locates bytes (Some layout) = HasPartPlaces bytes layout
Locates bytes None =
    (encoding rest : List ℕ) (insn : Insn)
    (skip : ℕ) → Encodes encoding insn skip → bytes ≡ encoding ++ rest → ⊥

-- How bytes are put after others. Own.
use Rattle.std.specs.Prelude.{ℕ, Bool, List, [], ◌∷◌, ◌++◌, ◌+◌}
use Rattle.std.specs.Prelude.{◌-◌, take, drop, ℤ, Option, Some, None, if◌then◌else◌}
use Rattle.std.specs.List.{list_any}
use Rattle.erim_defs.specs.Encoding.Grammar.{every}
use Rattle.erim_defs.specs.declared.found.Found.{Found}
use Rattle.erim_defs.specs.declared.insn.Insn.{Insn}
use Rattle.erim_defs.specs.Rewriting.Copies.{Part, goes_on, is_near, with_rel}
use Rattle.erim_defs.specs.Rewriting.Standing.{Standing, disp_place}
use Rattle.erim_defs.specs.Encoding.Canonical.{four_bytes}

-- all parts can be spelled
abbrev pub all_fit : List Part → Bool
all_fit parts = every (λ p. p.fits) parts

-- a number, where it has 32 bits
abbrev pub near_number : ℤ → Option ℤ
near_number z = if is_near z then Some z else None

-- the bytes of a part, where it can be spelled
abbrev pub fitting_bytes : Part → Option (List ℕ)
fitting_bytes p = if p.fits then Some p.bytes else None

-- the bytes of a MOV in two, where there is one
abbrev pub split_bytes : Option (List ℕ × List ℕ) → List ℕ
split_bytes None = []
split_bytes (Some pair) = pair.0 ++ pair.1

-- a jump with another offset, where that has 32 bits
abbrev pub near_jump : ℤ → Insn → Option Insn
near_jump z insn = if is_near z then with_rel z insn else None

-- what stands between the copies of an instruction and of the next
abbrev pub gap_bytes : List Found → Standing → List ℕ
gap_bytes elements i = if list_any (goes_on i) elements then 0x90 ∷ [] else []

-- an instruction with another displacement of four bytes
abbrev pub with_disp : ℤ → Standing → List ℕ
with_disp z i =
    let k = disp_place i - i.at in
    take k i.bytes ++ (four_bytes z ++ drop (k + 4) i.bytes)

-- What stands at an address whose bytes are known, by the sizes that were read. Own.
use Rattle.std.specs.Prelude.{◌≡◌, ℕ, List, take, Option, Some, None}
use Rattle.erim_defs.specs.Rewriting.Standing.{Standing, standing}
use Rattle.x86_decode.specs.declared.positions.Measured.{Measured}

-- an instruction that was measured, at an address and with the bytes that it begins
abbrev pub placed_at : ℕ → List ℕ → Measured → Standing
placed_at at bytes m = record {
  at = at;
  bytes = take m.len bytes;
  insn = m.insn;
  skip = m.skip;
  disp = m.disp;
  imm = m.imm;
}

-- at each address that is what stands there, or nothing does
abbrev pub Stands : List ℕ → Option Measured → Type 0
Stands bytes None = (at : ℕ) → standing at bytes ≡ None
Stands bytes (Some m) = (at : ℕ) → standing at bytes ≡ Some (placed_at at bytes m)

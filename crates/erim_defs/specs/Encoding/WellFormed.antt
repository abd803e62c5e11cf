-- Which instructions can be encoded. Own.
use Rattle.std.specs.Prelude.{ℕ, List}
use Rattle.erim_defs.specs.declared.insn.Insn.{Insn}
use Rattle.erim_defs.specs.Encoding.Grammar.{Encodes}

-- some encoding has it
pub record IsWellFormed (insn : Insn) : Type 0 where
  pub encoding : List ℕ
  pub skip : ℕ
  pub encodes : Encodes encoding insn skip
